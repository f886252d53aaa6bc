-- A field that is read has the bytes that are written of it, and what is written is read back.
use Rattle.std.proofs.Common.{◌≡◌, ℕ, zero, suc, ◌+◌, ◌^◌, ◌<◌, ◌≤◌, Bool, true, false, cond, ltb, eqb, List, [], ◌∷◌, ◌++◌, length, get_or, take, drop, Result, Ok, Err, refl, sym, ap, subst, ◌∙◌, append_assoc, arith, inl, inr}
use Rattle.std.specs.Prelude.{◌&&◌}
use Rattle.std.specs.Int.{Width, w16, w32, w64, byte_len, from_be_bytes}
use Rattle.std.proofs.lemmas.Bool.{cases_lt, ltb-true, ltb-false, lt-ltb, le-ltb, eqb-true, and_parts}
use Rattle.std.proofs.lemmas.List.{take_at, drop_at, take-append-drop, length-append, length-take, get_or-drop, get_or-take, get_or_past}
use Rattle.std.proofs.lemmas.Nat.{be_bytes_2, be_bytes_4, be_bytes_8, from_be_bytes-to_be_bytes_2, from_be_bytes-to_be_bytes_4, from_be_bytes-to_be_bytes_8}
use Rattle.std.proofs.lemmas.Bool.Decides.{nat_tests}
use Rattle.causal_name.specs.declared.Pid.{Pid}
use Rattle.causal_name.specs.declared.Det.{Det}
use Rattle.causal_wire.specs.declared.fault.WireFault.{WireFault}
use Rattle.causal_wire.specs.declared.fault.WireFault.TheVariants as faults
use Rattle.causal_wire.specs.declared.fields.ParcelKind.{ParcelKind}
use Rattle.causal_wire.specs.declared.fields.ParcelKind.TheVariants as kinds
use Rattle.causal_wire.specs.declared.parcel.RunId.{RunId}
use Rattle.causal_wire.specs.declared.parcel.Head.{Head}
use Rattle.causal_wire.specs.Parcels.{IsDet, IsHead}
use Rattle.causal_wire.specs.Bytes.{byte, number_bytes, run_bytes, det_bytes, route_bytes, head_bytes, flag_byte, body_bytes}
use Rattle.causal_wire.specs.Reading.{◌>>=◌, read_byte, read_number, read_bytes, read_version, parcel_kind, read_kind, read_run, read_process, read_clock, read_flag, read_route, read_head, read_det, read_short_list, read_body}

-- each number of the list is that of a byte
abbrev pub IsBytes : List ℕ → Type 0
IsBytes bytes = (i : ℕ) → get_or bytes i 0 < 256

pub IsBytes-drop : (n : ℕ) (bytes : List ℕ) → IsBytes bytes → IsBytes (drop n bytes)
IsBytes-drop n bytes h i = rw get_or-drop (h (n + i))

pub IsBytes-take : (n : ℕ) (bytes : List ℕ) → IsBytes bytes → IsBytes (take n bytes)
IsBytes-take n bytes h i =
    elim (cases_lt i n) [
      | inl lt ↦ rw (get_or-take n bytes i 0 lt) (h i)
      | inr le ↦ rw (get_or_past (take n bytes) i 0 (omega (arith, length-take n bytes))) (omega arith)
    ]

pub IsBytes-rest : (b : ℕ) (bytes : List ℕ) → IsBytes (b ∷ bytes) → IsBytes bytes
IsBytes-rest b bytes h i = h (suc i)

-- the value of a step that did not fail
pub bind_ok : {A B : Type 0} (r : Result A WireFault) (f : A → Result B WireFault) (y : B) → (r >>= f) ≡ Ok y → (x : A) × (r ≡ Ok x) × (f x ≡ Ok y)
bind_ok (Ok x) f y e = (x, refl, e)
bind_ok (Err d) f y e = absurd cc

-- a test that did not fail
pub guard_ok : {A : Type 0} (b : Bool) (d : WireFault) (x y : A) → cond b (Err d) (Ok x) ≡ Ok y → (b ≡ false) × (x ≡ y)
guard_ok b d x y e = grind arith

pub guard_passed : {A : Type 0} (b : Bool) (d : WireFault) (x y : A) → cond b (Ok x) (Err d) ≡ Ok y → (b ≡ true) × (x ≡ y)
guard_passed b d x y e = grind arith

abbrev done : {A : Type 0} → A → Result A WireFault
done x = Ok x

pub ok_is : {A : Type 0} (x y : A) → done x ≡ done y → x ≡ y
ok_is x y e = cc

-- what a reader took from the front
pub record Takes (bytes text rest : List ℕ) : Type 0 where
  pub parts : bytes ≡ text ++ rest
  pub rest_fits : IsBytes rest

pub Takes-then : (a x b y c : List ℕ) → Takes a x b → Takes b y c → Takes a (x ++ y) c
Takes-then a x b y c p q = record { parts = p.parts ∙ ap (λ (t : List ℕ). x ++ t) q.parts ∙ sym (append_assoc x y c); rest_fits = q.rest_fits }

-- ---- numbers

pub record IsWide (w : Width) (limit : ℕ) : Type 0 where
  pub len : (n : ℕ) → length (number_bytes w n) ≡ byte_len w
  pub back : (bytes : List ℕ) → length bytes ≡ byte_len w → IsBytes bytes → number_bytes w (from_be_bytes w bytes) ≡ bytes
  pub again : (n : ℕ) → n < limit → from_be_bytes w (number_bytes w n) ≡ n
  pub below : (bytes : List ℕ) → IsBytes bytes → from_be_bytes w bytes < limit

pub wide16 : IsWide w16 (2 ^ 16)
unfolding number_bytes
wide16 = record {
  len = λ n. refl;
  back = λ bytes len fits. be_bytes_2 bytes _ len fits refl;
  again = λ n lt. from_be_bytes-to_be_bytes_2 n lt;
  below = λ bytes fits. omega (arith, fits 0, fits 1);
}

pub wide32 : IsWide w32 (2 ^ 32)
unfolding number_bytes
wide32 = record {
  len = λ n. refl;
  back = λ bytes len fits. be_bytes_4 bytes _ len fits refl;
  again = λ n lt. from_be_bytes-to_be_bytes_4 n lt;
  below = λ bytes fits. omega (arith, fits 0, fits 1, fits 2, fits 3);
}

pub wide64 : IsWide w64 (2 ^ 64)
unfolding number_bytes
wide64 = record {
  len = λ n. refl;
  back = λ bytes len fits. be_bytes_8 bytes _ len fits refl;
  again = λ n lt. from_be_bytes-to_be_bytes_8 n lt;
  below = λ bytes fits. omega (arith, fits 0, fits 1, fits 2, fits 3, fits 4, fits 5, fits 6, fits 7);
}

pub number_takes : (w : Width) (limit : ℕ) (wide : IsWide w limit) (bytes : List ℕ) (x : ℕ × List ℕ) → IsBytes bytes → read_number w bytes ≡ Ok x → Takes bytes (number_bytes w x.0) x.1 × (x.0 < limit)
number_takes w limit wide bytes x fits e =
    let g = guard_ok (ltb (length bytes) (byte_len w)) faults.Short (from_be_bytes w (take (byte_len w) bytes), drop (byte_len w) bytes) x e in
    let long : byte_len w ≤ length bytes = ltb-false _ _ g.0 in
    let n-is : from_be_bytes w (take (byte_len w) bytes) ≡ x.0 = ap (λ (p : ℕ × List ℕ). p.0) g.1 in
    let rest-is : drop (byte_len w) bytes ≡ x.1 = ap (λ (p : ℕ × List ℕ). p.1) g.1 in
    let front : number_bytes w x.0 ≡ take (byte_len w) bytes = rw (← n-is) (wide.back (take (byte_len w) bytes) (omega (arith, length-take (byte_len w) bytes)) (IsBytes-take (byte_len w) bytes fits)) in
    (record { parts = rw (front, ← rest-is) (sym (take-append-drop (byte_len w) bytes)); rest_fits = rw (← rest-is) (IsBytes-drop (byte_len w) bytes fits) }, rw (← n-is) (wide.below (take (byte_len w) bytes) (IsBytes-take (byte_len w) bytes fits)))

pub number_again : (w : Width) (limit : ℕ) (wide : IsWide w limit) (n : ℕ) (rest : List ℕ) → n < limit → read_number w (number_bytes w n ++ rest) ≡ Ok (n, rest)
number_again w limit wide n rest lt =
    let len = wide.len n in
    let long : ltb (length (number_bytes w n ++ rest)) (byte_len w) ≡ false = le-ltb _ _ (omega (arith, length-append (number_bytes w n) rest)) in
    rw (long, take_at (number_bytes w n) rest (byte_len w) len, drop_at (number_bytes w n) rest (byte_len w) len, wide.again n lt) refl

-- ---- bytes

pub byte_takes : (bytes : List ℕ) (x : ℕ × List ℕ) → IsBytes bytes → read_byte bytes ≡ Ok x → Takes bytes (byte x.0) x.1
byte_takes [] x fits e = absurd cc
byte_takes (b ∷ bytes) x fits e = subst (λ (y : ℕ × List ℕ). Takes (b ∷ bytes) (byte y.0) y.1) (ok_is (b, bytes) x e) (record { parts = refl; rest_fits = IsBytes-rest b bytes fits })

pub bytes_take : (count : ℕ) (bytes : List ℕ) (x : List ℕ × List ℕ) → IsBytes bytes → read_bytes count bytes ≡ Ok x → Takes bytes x.0 x.1 × (length x.0 ≡ count) × IsBytes x.0
bytes_take count bytes x fits e =
    let g = guard_ok (ltb (length bytes) count) faults.Short (take count bytes, drop count bytes) x e in
    let long : count ≤ length bytes = ltb-false _ _ g.0 in
    let len : length (take count bytes) ≡ count = omega (arith, length-take count bytes) in
    subst (λ (y : List ℕ × List ℕ). Takes bytes y.0 y.1 × (length y.0 ≡ count) × IsBytes y.0) g.1
    (record { parts = sym (take-append-drop count bytes); rest_fits = IsBytes-drop count bytes fits }, len, IsBytes-take count bytes fits)

pub bytes_again : (text rest : List ℕ) → read_bytes (length text) (text ++ rest) ≡ Ok (text, rest)
bytes_again text rest =
    let long : ltb (length (text ++ rest)) (length text) ≡ false = le-ltb _ _ (omega (arith, length-append text rest)) in
    rw (long, take_at text rest (length text) refl, drop_at text rest (length text) refl) refl

pub short_list_takes : (bytes : List ℕ) (x : List ℕ × List ℕ) → IsBytes bytes → read_short_list bytes ≡ Ok x → Takes bytes (byte (length x.0) ++ x.0) x.1 × IsBytes x.0
unfolding read_short_list
short_list_takes bytes x fits e =
    let b = bind_ok (read_byte bytes) (λ count. read_bytes count.0 count.1) x e in
    let t = byte_takes bytes b.0 fits b.1 in
    let u = bytes_take b.0.0 b.0.1 x t.rest_fits b.2 in
    let both = Takes-then bytes (byte b.0.0) b.0.1 x.0 x.1 t u.0 in
    (subst (λ (k : ℕ). Takes bytes (byte k ++ x.0) x.1) (sym u.1) both, u.2)

pub short_list_again : (text rest : List ℕ) → read_short_list ((byte (length text) ++ text) ++ rest) ≡ Ok (text, rest)
unfolding read_short_list
short_list_again text rest = bytes_again text rest

pub body_takes : (bytes : List ℕ) (x : List ℕ × List ℕ) → IsBytes bytes → read_body bytes ≡ Ok x → Takes bytes (body_bytes x.0) x.1 × (length x.0 < 2 ^ 32)
unfolding read_body
body_takes bytes x fits e =
    let b = bind_ok (read_number w32 bytes) (λ count. read_bytes count.0 count.1) x e in
    let t = number_takes w32 (2 ^ 32) wide32 bytes b.0 fits b.1 in
    let u = bytes_take b.0.0 b.0.1 x t.0.rest_fits b.2 in
    let both = Takes-then bytes (number_bytes w32 b.0.0) b.0.1 x.0 x.1 t.0 u.0 in
    (subst (λ (k : ℕ). Takes bytes (number_bytes w32 k ++ x.0) x.1) (sym u.1) both, omega (arith, t.1, u.1))

pub body_again : (body rest : List ℕ) → length body < 2 ^ 32 → read_body (body_bytes body ++ rest) ≡ Ok (body, rest)
unfolding read_body
body_again body rest lt =
    ap read_body (append_assoc (number_bytes w32 (length body)) body rest)
    ∙ rw (number_again w32 (2 ^ 32) wide32 (length body) (body ++ rest) lt) (bytes_again body rest)

-- ---- fields with a test

pub version_takes : (bytes rest : List ℕ) → IsBytes bytes → read_version bytes ≡ Ok rest → Takes bytes (byte 1) rest
unfolding read_version
version_takes bytes rest fits e =
    let b = bind_ok (read_byte bytes) (λ v. cond (eqb v.0 1) (Ok v.1) (Err faults.Version)) rest e in
    let t = byte_takes bytes b.0 fits b.1 in
    let g = guard_passed (eqb b.0.0 1) faults.Version b.0.1 rest b.2 in
    subst (λ (r : List ℕ). Takes bytes (byte 1) r) g.1 (subst (λ (v : ℕ). Takes bytes (byte v) b.0.1) (eqb-true _ _ g.0) t)

pub version_again : (rest : List ℕ) → read_version (byte 1 ++ rest) ≡ Ok rest
unfolding read_version
version_again rest = refl

-- the number of a kind
abbrev pub number_of : ParcelKind → ℕ
number_of kinds.Message = 0
number_of kinds.Acknowledgement = 1
number_of kinds.Question = 2
number_of kinds.Answer = 3
number_of kinds.OwnNumber = 4
number_of kinds.NotUp = 5

kind_of_number : (number : ℕ) (kind : ParcelKind) → parcel_kind number ≡ Ok kind → number_of kind ≡ number
kind_of_number zero kind e = ap number_of (sym (ok_is kinds.Message kind e))
kind_of_number (suc zero) kind e = ap number_of (sym (ok_is kinds.Acknowledgement kind e))
kind_of_number (suc (suc zero)) kind e = ap number_of (sym (ok_is kinds.Question kind e))
kind_of_number (suc (suc (suc zero))) kind e = ap number_of (sym (ok_is kinds.Answer kind e))
kind_of_number (suc (suc (suc (suc zero)))) kind e = ap number_of (sym (ok_is kinds.OwnNumber kind e))
kind_of_number (suc (suc (suc (suc (suc zero))))) kind e = ap number_of (sym (ok_is kinds.NotUp kind e))
kind_of_number (suc (suc (suc (suc (suc (suc b)))))) kind e = absurd cc

number_of_kind : (kind : ParcelKind) → parcel_kind (number_of kind) ≡ Ok kind
number_of_kind kind = grind arith

pub kind_takes : (bytes : List ℕ) (x : ParcelKind × List ℕ) → IsBytes bytes → read_kind bytes ≡ Ok x → Takes bytes (byte (number_of x.0)) x.1
unfolding read_kind
kind_takes bytes x fits e =
    let b = bind_ok (read_byte bytes) (λ number. parcel_kind number.0 >>= λ kind. Ok (kind, number.1)) x e in
    let t = byte_takes bytes b.0 fits b.1 in
    let k = bind_ok (parcel_kind b.0.0) (λ kind. Ok (kind, b.0.1)) x b.2 in
    subst (λ (y : ParcelKind × List ℕ). Takes bytes (byte (number_of y.0)) y.1) (ok_is (k.0, b.0.1) x k.2)
    (subst (λ (v : ℕ). Takes bytes (byte v) b.0.1) (sym (kind_of_number b.0.0 k.0 k.1)) t)

pub kind_again : (kind : ParcelKind) (rest : List ℕ) → read_kind (byte (number_of kind) ++ rest) ≡ Ok (kind, rest)
unfolding read_kind
kind_again kind rest = rw (number_of_kind kind) refl

pub process_takes : (n : ℕ) (bytes : List ℕ) (x : Pid × List ℕ) → IsBytes bytes → read_process n bytes ≡ Ok x → Takes bytes (byte x.0.0) x.1 × (x.0.0 < n)
unfolding read_process
process_takes n bytes x fits e =
    let b = bind_ok (read_byte bytes) (λ number. cond (ltb number.0 n) (Ok (record { 0 = number.0 }, number.1)) (Err faults.Process)) x e in
    let t = byte_takes bytes b.0 fits b.1 in
    let g = guard_passed (ltb b.0.0 n) faults.Process (record { 0 = b.0.0 }, b.0.1) x b.2 in
    subst (λ (y : Pid × List ℕ). Takes bytes (byte y.0.0) y.1 × (y.0.0 < n)) g.1 (t, ltb-true _ _ g.0)

pub process_again : (n : ℕ) (p : Pid) (rest : List ℕ) → p.0 < n → read_process n (byte p.0 ++ rest) ≡ Ok (p, rest)
unfolding read_process
process_again n p rest lt = rw (lt-ltb p.0 n lt) refl

pub clock_takes : (bytes : List ℕ) (x : ℕ × List ℕ) → IsBytes bytes → read_clock bytes ≡ Ok x → Takes bytes (number_bytes w64 x.0) x.1 × (x.0 < 2 ^ 62)
unfolding read_clock
clock_takes bytes x fits e =
    let b = bind_ok (read_number w64 bytes) (λ clock. cond (ltb clock.0 (2 ^ 62)) (Ok clock) (Err faults.Clock)) x e in
    let t = number_takes w64 (2 ^ 64) wide64 bytes b.0 fits b.1 in
    let g = guard_passed (ltb b.0.0 (2 ^ 62)) faults.Clock b.0 x b.2 in
    subst (λ (y : ℕ × List ℕ). Takes bytes (number_bytes w64 y.0) y.1 × (y.0 < 2 ^ 62)) g.1 (t.0, ltb-true _ _ g.0)

pub clock_again : (clock : ℕ) (rest : List ℕ) → clock < 2 ^ 62 → read_clock (number_bytes w64 clock ++ rest) ≡ Ok (clock, rest)
unfolding read_clock
clock_again clock rest lt = rw (number_again w64 (2 ^ 64) wide64 clock rest (omega (arith, lt)), lt-ltb clock (2 ^ 62) lt) refl

pub flag_takes : (bytes : List ℕ) (x : Bool × List ℕ) → IsBytes bytes → read_flag bytes ≡ Ok x → Takes bytes (byte (flag_byte x.0)) x.1
unfolding read_flag
flag_takes [] x fits e = absurd cc
flag_takes (zero ∷ bytes) x fits e = subst (λ (y : Bool × List ℕ). Takes (0 ∷ bytes) (byte (flag_byte y.0)) y.1) (ok_is (false, bytes) x e) (record { parts = refl; rest_fits = IsBytes-rest 0 bytes fits })
flag_takes (suc zero ∷ bytes) x fits e = subst (λ (y : Bool × List ℕ). Takes (1 ∷ bytes) (byte (flag_byte y.0)) y.1) (ok_is (true, bytes) x e) (record { parts = refl; rest_fits = IsBytes-rest 1 bytes fits })
flag_takes (suc (suc b) ∷ bytes) x fits e = absurd cc

pub flag_again : (flag : Bool) (rest : List ℕ) → read_flag (byte (flag_byte flag) ++ rest) ≡ Ok (flag, rest)
unfolding read_flag
flag_again false rest = refl
flag_again true rest = refl

pub run_takes : (run : RunId) (bytes rest : List ℕ) → IsBytes bytes → read_run run bytes ≡ Ok rest → Takes bytes (run_bytes run) rest
unfolding read_run
run_takes run bytes rest fits e =
    let a = bind_ok (read_number w64 bytes) (λ id. read_number w16 id.1 >>= λ processes. read_number w16 processes.1 >>= λ f. cond (eqb id.0 run.id && (eqb processes.0 run.processes && eqb f.0 run.f)) (Ok f.1) (Err faults.Run)) rest e in
    let b = bind_ok (read_number w16 a.0.1) (λ processes. read_number w16 processes.1 >>= λ f. cond (eqb a.0.0 run.id && (eqb processes.0 run.processes && eqb f.0 run.f)) (Ok f.1) (Err faults.Run)) rest a.2 in
    let c = bind_ok (read_number w16 b.0.1) (λ f. cond (eqb a.0.0 run.id && (eqb b.0.0 run.processes && eqb f.0 run.f)) (Ok f.1) (Err faults.Run)) rest b.2 in
    let g = guard_passed (eqb a.0.0 run.id && (eqb b.0.0 run.processes && eqb c.0.0 run.f)) faults.Run c.0.1 rest c.2 in
    let same = and_parts (eqb a.0.0 run.id) (eqb b.0.0 run.processes && eqb c.0.0 run.f) g.0 in
    let others = and_parts (eqb b.0.0 run.processes) (eqb c.0.0 run.f) same.1 in
    let id-is : a.0.0 ≡ run.id = eqb-true _ _ same.0 in
    let processes-is : b.0.0 ≡ run.processes = eqb-true _ _ others.0 in
    let f-is : c.0.0 ≡ run.f = eqb-true _ _ others.1 in
    let t0 = number_takes w64 (2 ^ 64) wide64 bytes a.0 fits a.1 in
    let t1 = number_takes w16 (2 ^ 16) wide16 a.0.1 b.0 t0.0.rest_fits b.1 in
    let t2 = number_takes w16 (2 ^ 16) wide16 b.0.1 c.0 t1.0.rest_fits c.1 in
    let e12 = Takes-then a.0.1 (number_bytes w16 b.0.0) b.0.1 (number_bytes w16 c.0.0) c.0.1 t1.0 t2.0 in
    let e02 = Takes-then bytes (number_bytes w64 a.0.0) a.0.1 (number_bytes w16 b.0.0 ++ number_bytes w16 c.0.0) c.0.1 t0.0 e12 in
    let text : number_bytes w64 a.0.0 ++ (number_bytes w16 b.0.0 ++ number_bytes w16 c.0.0) ≡ run_bytes run = λ i. number_bytes w64 (id-is i) ++ (number_bytes w16 (processes-is i) ++ number_bytes w16 (f-is i)) in
    subst (λ (r : List ℕ). Takes bytes (run_bytes run) r) g.1 (subst (λ (t : List ℕ). Takes bytes t c.0.1) text e02)

itself : (n : ℕ) → eqb n n ≡ true
itself n = grind (arith, nat_tests)

pub run_again : (run : RunId) (rest : List ℕ) → run.id < 2 ^ 64 → run.processes < 2 ^ 16 → run.f < 2 ^ 16 → read_run run (run_bytes run ++ rest) ≡ Ok rest
unfolding read_run
run_again run rest id processes f =
    let regrouped : run_bytes run ++ rest ≡ number_bytes w64 run.id ++ (number_bytes w16 run.processes ++ (number_bytes w16 run.f ++ rest)) = simp append_assoc in
    ap (read_run run) regrouped
    ∙ rw (number_again w64 (2 ^ 64) wide64 run.id (number_bytes w16 run.processes ++ (number_bytes w16 run.f ++ rest)) id, number_again w16 (2 ^ 16) wide16 run.processes (number_bytes w16 run.f ++ rest) processes, number_again w16 (2 ^ 16) wide16 run.f rest f, itself run.id, itself run.processes, itself run.f) refl

-- ---- fields that follow one another

pub det_takes : (n : ℕ) (bytes : List ℕ) (x : Det × List ℕ) → IsBytes bytes → read_det n bytes ≡ Ok x → Takes bytes (det_bytes x.0) x.1 × IsDet n x.0
unfolding read_det
det_takes n bytes x fits e =
    let a = bind_ok (read_process n bytes) (λ source. read_number w32 source.1 >>= λ ssn. read_process n ssn.1 >>= λ dest. read_number w32 dest.1 >>= λ rsn. Ok (record { source = source.0; ssn = ssn.0; dest = dest.0; rsn = rsn.0 }, rsn.1)) x e in
    let b = bind_ok (read_number w32 a.0.1) (λ ssn. read_process n ssn.1 >>= λ dest. read_number w32 dest.1 >>= λ rsn. Ok (record { source = a.0.0; ssn = ssn.0; dest = dest.0; rsn = rsn.0 }, rsn.1)) x a.2 in
    let c = bind_ok (read_process n b.0.1) (λ dest. read_number w32 dest.1 >>= λ rsn. Ok (record { source = a.0.0; ssn = b.0.0; dest = dest.0; rsn = rsn.0 }, rsn.1)) x b.2 in
    let d = bind_ok (read_number w32 c.0.1) (λ rsn. Ok (record { source = a.0.0; ssn = b.0.0; dest = c.0.0; rsn = rsn.0 }, rsn.1)) x c.2 in
    let t0 = process_takes n bytes a.0 fits a.1 in
    let t1 = number_takes w32 (2 ^ 32) wide32 a.0.1 b.0 t0.0.rest_fits b.1 in
    let t2 = process_takes n b.0.1 c.0 t1.0.rest_fits c.1 in
    let t3 = number_takes w32 (2 ^ 32) wide32 c.0.1 d.0 t2.0.rest_fits d.1 in
    let e23 = Takes-then b.0.1 (byte c.0.0.0) c.0.1 (number_bytes w32 d.0.0) d.0.1 t2.0 t3.0 in
    let e13 = Takes-then a.0.1 (number_bytes w32 b.0.0) b.0.1 (byte c.0.0.0 ++ number_bytes w32 d.0.0) d.0.1 t1.0 e23 in
    let e03 = Takes-then bytes (byte a.0.0.0) a.0.1 (number_bytes w32 b.0.0 ++ (byte c.0.0.0 ++ number_bytes w32 d.0.0)) d.0.1 t0.0 e13 in
    let made : Det × List ℕ = (record { source = a.0.0; ssn = b.0.0; dest = c.0.0; rsn = d.0.0 }, d.0.1) in
    subst (λ (y : Det × List ℕ). Takes bytes (det_bytes y.0) y.1 × IsDet n y.0) (ok_is made x d.2)
    (e03, record { source = t0.1; ssn = t1.1; dest = t2.1; rsn = t3.1 })

pub det_again : (n : ℕ) (d : Det) (rest : List ℕ) → IsDet n d → read_det n (det_bytes d ++ rest) ≡ Ok (d, rest)
unfolding read_det
det_again n d rest fits =
    let regrouped : det_bytes d ++ rest ≡ byte d.source.0 ++ (number_bytes w32 d.ssn ++ (byte d.dest.0 ++ (number_bytes w32 d.rsn ++ rest))) = simp append_assoc in
    ap (read_det n) regrouped
    ∙ rw (process_again n d.source (number_bytes w32 d.ssn ++ (byte d.dest.0 ++ (number_bytes w32 d.rsn ++ rest))) fits.source, number_again w32 (2 ^ 32) wide32 d.ssn (byte d.dest.0 ++ (number_bytes w32 d.rsn ++ rest)) fits.ssn, process_again n d.dest (number_bytes w32 d.rsn ++ rest) fits.dest, number_again w32 (2 ^ 32) wide32 d.rsn rest fits.rsn) refl

-- a route that was read
record IsRouteRead (n : ℕ) (bytes : List ℕ) (x : Head × List ℕ) : Type 0 where
  takes : Takes bytes (route_bytes x.0) x.1
  head : IsHead n x.0

route_takes : (n : ℕ) (bytes : List ℕ) (x : Head × List ℕ) → IsBytes bytes → read_route n bytes ≡ Ok x → IsRouteRead n bytes x
unfolding read_route
route_takes n bytes x fits e =
    let a = bind_ok (read_process n bytes) (λ source. read_process n source.1 >>= λ dest. read_number w32 dest.1 >>= λ lane. read_clock lane.1 >>= λ clock. Ok (record { source = source.0; dest = dest.0; lane = lane.0; clock = clock.0 }, clock.1)) x e in
    let b = bind_ok (read_process n a.0.1) (λ dest. read_number w32 dest.1 >>= λ lane. read_clock lane.1 >>= λ clock. Ok (record { source = a.0.0; dest = dest.0; lane = lane.0; clock = clock.0 }, clock.1)) x a.2 in
    let c = bind_ok (read_number w32 b.0.1) (λ lane. read_clock lane.1 >>= λ clock. Ok (record { source = a.0.0; dest = b.0.0; lane = lane.0; clock = clock.0 }, clock.1)) x b.2 in
    let d = bind_ok (read_clock c.0.1) (λ clock. Ok (record { source = a.0.0; dest = b.0.0; lane = c.0.0; clock = clock.0 }, clock.1)) x c.2 in
    let t0 = process_takes n bytes a.0 fits a.1 in
    let t1 = process_takes n a.0.1 b.0 t0.0.rest_fits b.1 in
    let t2 = number_takes w32 (2 ^ 32) wide32 b.0.1 c.0 t1.0.rest_fits c.1 in
    let t3 = clock_takes c.0.1 d.0 t2.0.rest_fits d.1 in
    let e23 = Takes-then b.0.1 (number_bytes w32 c.0.0) c.0.1 (number_bytes w64 d.0.0) d.0.1 t2.0 t3.0 in
    let e13 = Takes-then a.0.1 (byte b.0.0.0) b.0.1 (number_bytes w32 c.0.0 ++ number_bytes w64 d.0.0) d.0.1 t1.0 e23 in
    let e03 = Takes-then bytes (byte a.0.0.0) a.0.1 (byte b.0.0.0 ++ (number_bytes w32 c.0.0 ++ number_bytes w64 d.0.0)) d.0.1 t0.0 e13 in
    let made : Head × List ℕ = (record { source = a.0.0; dest = b.0.0; lane = c.0.0; clock = d.0.0 }, d.0.1) in
    subst (IsRouteRead n bytes) (ok_is made x d.2)
    (record { takes = e03; head = record { source = t0.1; dest = t1.1; lane = t2.1; clock = t3.1 } })

route_again : (n : ℕ) (head : Head) (rest : List ℕ) → IsHead n head → read_route n (route_bytes head ++ rest) ≡ Ok (head, rest)
unfolding read_route
route_again n head rest fits =
    let r2 : List ℕ = number_bytes w64 head.clock ++ rest in
    let r1 : List ℕ = number_bytes w32 head.lane ++ r2 in
    let r0 : List ℕ = byte head.dest.0 ++ r1 in
    let regrouped : route_bytes head ++ rest ≡ byte head.source.0 ++ r0 = simp append_assoc in
    ap (read_route n) regrouped
    ∙ rw (process_again n head.source r0 fits.source, process_again n head.dest r1 fits.dest, number_again w32 (2 ^ 32) wide32 head.lane r2 fits.lane, clock_again head.clock rest fits.clock) refl

-- a head that was read
pub record IsHeadRead (run : RunId) (bytes : List ℕ) (x : ParcelKind × Head × List ℕ) : Type 0 where
  pub takes : Takes bytes (head_bytes run (number_of x.0) x.1) x.2
  pub head : IsHead run.processes x.1

pub head_takes : (run : RunId) (bytes : List ℕ) (x : ParcelKind × Head × List ℕ) → IsBytes bytes → read_head run bytes ≡ Ok x → IsHeadRead run bytes x
unfolding read_head
head_takes run bytes x fits e =
    let a = bind_ok (read_version bytes) (λ version. read_kind version >>= λ kind. read_run run kind.1 >>= λ same. read_route run.processes same >>= λ head. Ok (kind.0, head.0, head.1)) x e in
    let b = bind_ok (read_kind a.0) (λ kind. read_run run kind.1 >>= λ same. read_route run.processes same >>= λ head. Ok (kind.0, head.0, head.1)) x a.2 in
    let c = bind_ok (read_run run b.0.1) (λ same. read_route run.processes same >>= λ head. Ok (b.0.0, head.0, head.1)) x b.2 in
    let d = bind_ok (read_route run.processes c.0) (λ head. Ok (b.0.0, head.0, head.1)) x c.2 in
    let t0 = version_takes bytes a.0 fits a.1 in
    let t1 = kind_takes a.0 b.0 t0.rest_fits b.1 in
    let t2 = run_takes run b.0.1 c.0 t1.rest_fits c.1 in
    let t3 = route_takes run.processes c.0 d.0 t2.rest_fits d.1 in
    let e2 = Takes-then b.0.1 (run_bytes run) c.0 (route_bytes d.0.0) d.0.1 t2 t3.takes in
    let e1 = Takes-then a.0 (byte (number_of b.0.0)) b.0.1 (run_bytes run ++ route_bytes d.0.0) d.0.1 t1 e2 in
    let e0 = Takes-then bytes (byte 1) a.0 (byte (number_of b.0.0) ++ (run_bytes run ++ route_bytes d.0.0)) d.0.1 t0 e1 in
    let made : ParcelKind × Head × List ℕ = (b.0.0, d.0.0, d.0.1) in
    subst (IsHeadRead run bytes) (ok_is made x d.2) (record { takes = e0; head = t3.head })

pub head_again : (run : RunId) (kind : ParcelKind) (head : Head) (rest : List ℕ) → run.id < 2 ^ 64 → run.processes < 2 ^ 16 → run.f < 2 ^ 16 → IsHead run.processes head
    → read_head run (head_bytes run (number_of kind) head ++ rest) ≡ Ok (kind, head, rest)
unfolding read_head
head_again run kind head rest id processes f fits =
    let r2 : List ℕ = route_bytes head ++ rest in
    let r1 : List ℕ = run_bytes run ++ r2 in
    let r0 : List ℕ = byte (number_of kind) ++ r1 in
    let front : List ℕ = byte (number_of kind) in
    let regrouped : head_bytes run (number_of kind) head ++ rest ≡ byte 1 ++ r0 = ap (λ (t : List ℕ). byte 1 ++ (front ++ t)) (append_assoc (run_bytes run) (route_bytes head) rest) in
    ap (read_head run) regrouped
    ∙ rw (version_again r0, kind_again kind r1, run_again run r2 id processes f, route_again run.processes head rest fits) refl
