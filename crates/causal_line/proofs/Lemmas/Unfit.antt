-- A line whose fields do not fit its outline has the error `Form`, whatever its name.
use Rattle.std.proofs.Common.{◌≡◌, ◌⊎◌, ℕ, suc, ◌-◌, ◌^◌, arith, ne_eqb, zero, List, [], Bool, true, false, Option, Some, Result, Ok, Err, inl, inr, refl, ap, ◌∙◌, cond}
use Rattle.std.specs.Prelude.{◌&&◌, ◌==◌, bytes_eq, option_and_then, unwrap_or}
use Rattle.std.proofs.lemmas.Bool.{and_parts, eqb-true}
use Rattle.serde_json.specs.Data.{Data, array, Items, no_items, item}
use Rattle.serde_json.specs.Events.{items_len}
use Rattle.serde_json.specs.Find.{at, as_str, as_array}
use Rattle.causal_name.specs.declared.Pid.{Pid}
use Rattle.causal_line.specs.declared.kind.TextKind.{TextKind}
use Rattle.causal_line.specs.declared.kind.TextKind.TheVariants.{Form}
use Rattle.causal_line.specs.Reading.{◌>>=◌}
use Rattle.causal_line.specs.ParsedLines.{or_form, array_len, number_at, u8_at, pid_at, u32_at, u64_at, parse_det, parse_dets, dets_at, is_array_named}
use Rattle.causal_line.specs.Prescan.{levels, count_capped, may_have_items, value_fits, items_fit}

-- if the result is an error, its kind is `Form`
abbrev pub IsPlainly : {A : Type 0} → Result A TextKind → Type 0
IsPlainly r = (e : TextKind) → r ≡ Err e → e ≡ Form

-- ---- two conditions that do not both hold

-- if two conditions do not both hold, the consequence of one failure holds
pub or_else : {P Q : Type 0} (a b : Bool) → (a && b) ≡ false → (a ≡ false → P) → (b ≡ false → Q) → P ⊎ Q
or_else true b h p q = inr (q h)
or_else false b h p q = inl (p refl)

-- if two conditions do not both hold but the second does, the first does not
pub last_false : (a b : Bool) → b ≡ true → (a && b) ≡ false → a ≡ false
last_false a b t h = grind arith

-- the first two conditions, or the rest
pub split : (a b rest : Bool) → (a && (b && rest)) ≡ false → ((a && b) ≡ false) ⊎ (rest ≡ false)
split a b rest h = grind arith

-- ---- sequences of results

-- a `Form` error of the first part is the error of the sequence
pub stops : {A B : Type 0} (r : Result A TextKind) (f : A → Result B TextKind) → r ≡ Err Form → (r >>= f) ≡ Err Form
stops {A = A} r f e = ap (λ (q : Result A TextKind). q >>= f) e

-- if the first part fails only with `Form`, and the rest then fails with `Form`, so does the sequence
pub after : {A B : Type 0} (r : Result A TextKind) (f : A → Result B TextKind) → IsPlainly r → ((x : A) → f x ≡ Err Form) → (r >>= f) ≡ Err Form
after (Ok x) f plain h = h x
after (Err e) f plain h = ap Err (plain e refl)

-- if the first part fails only with `Form`, and it or the rest does, so does the sequence
pub chain : {A B : Type 0} (r : Result A TextKind) (f : A → Result B TextKind) → IsPlainly r → (r ≡ Err Form) ⊎ ((x : A) → f x ≡ Err Form) → (r >>= f) ≡ Err Form
chain r f plain (inl e) = stops r f e
chain r f plain (inr h) = after r f plain h

IsPlainly-after : {A B : Type 0} (r : Result A TextKind) (f : A → Result B TextKind) → IsPlainly r → ((x : A) → IsPlainly (f x)) → IsPlainly (r >>= f)
IsPlainly-after r f p q e h = grind arith

-- a missing field, a process, a determinant and a list of them fail only with `Form`
pub IsPlainly-or_form : {A : Type 0} (o : Option A) → IsPlainly (or_form o)
IsPlainly-or_form o e h = grind arith

-- a process fails only with `Form`
pub IsPlainly-pid : (i : ℕ) (d : Data) → IsPlainly (pid_at i d)
unfolding pid_at
IsPlainly-pid i d e h = grind arith

IsPlainly-cond : {A : Type 0} (b : Bool) (r : Result A TextKind) → IsPlainly r → IsPlainly (cond b r (Err Form))
IsPlainly-cond b r p e h = grind arith

-- a determinant fails only with `Form`
pub IsPlainly-det : (d : Data) → IsPlainly (parse_det d)
unfolding parse_det
IsPlainly-det d = IsPlainly-cond (array_len d == 4) _ (IsPlainly-after (pid_at 0 d) _ (IsPlainly-pid 0 d) (λ a. IsPlainly-after (u32_at 1 d) _ (IsPlainly-or_form _) (λ b. IsPlainly-after (pid_at 2 d) _ (IsPlainly-pid 2 d) (λ c. IsPlainly-after (u32_at 3 d) _ (IsPlainly-or_form _) (λ e k h. grind arith)))))

IsPlainly-list : (ds : Items) → IsPlainly (parse_dets ds)
IsPlainly-list no_items e h = grind arith
IsPlainly-list (item d ds) e h = grind (arith, IsPlainly-det d, IsPlainly-list ds)

-- a list of determinants fails only with `Form`
pub IsPlainly-dets : (i : ℕ) (d : Data) → IsPlainly (dets_at i d)
unfolding dets_at
IsPlainly-dets i d e h = grind (arith, IsPlainly-list)

-- ---- fields that exist and do not fit

-- a value that does not fit is refused as a number below a limit
pub number_bad : (limit left i : ℕ) (d x : Data) → at i d ≡ Some x → value_fits left x ≡ false → number_at limit i d ≡ Err Form
number_bad limit left i d x is h = grind (arith, is)

-- a value that does not fit is refused as a number
pub u64_bad : (left i : ℕ) (d x : Data) → at i d ≡ Some x → value_fits left x ≡ false → u64_at i d ≡ Err Form
u64_bad left i d x is h = grind (arith, is)

-- a value that does not fit is refused as a process
pub pid_bad : (left i : ℕ) (d x : Data) → at i d ≡ Some x → value_fits left x ≡ false → pid_at i d ≡ Err Form
unfolding pid_at
pid_bad left i d x is h = stops (u8_at i d) _ (number_bad (2 ^ 8) left i d x is h)

-- a line is refused if its process does not fit, or the fields after it do not
pub process_or : {B : Type 0} (i : ℕ) (d x : Data) (more : Bool) (f : Pid → Result B TextKind) → at i d ≡ Some x → (value_fits 2 x && more) ≡ false → (more ≡ false → (p : Pid) → f p ≡ Err Form) → (pid_at i d >>= f) ≡ Err Form
process_or i d x more f is h go = chain (pid_at i d) f (IsPlainly-pid i d) (or_else (value_fits 2 x) more h (pid_bad 2 i d x is) go)

-- a line is refused if its number of 32 bits does not fit, or the fields after it do not
pub number_or : {B : Type 0} (i : ℕ) (d x : Data) (more : Bool) (f : ℕ → Result B TextKind) → at i d ≡ Some x → (value_fits 2 x && more) ≡ false → (more ≡ false → (n : ℕ) → f n ≡ Err Form) → (u32_at i d >>= f) ≡ Err Form
number_or i d x more f is h go = chain (u32_at i d) f (IsPlainly-or_form _) (or_else (value_fits 2 x) more h (number_bad (2 ^ 32) 2 i d x is) go)

-- a determinant, or a list of determinants, with a part that does not fit
pub det_bad : (left : ℕ) (d : Data) → may_have_items left 4 ≡ true → value_fits left d ≡ false → parse_det d ≡ Err Form
unfolding parse_det
det_bad left (array (item a (item b (item c (item e (item x ds)))))) m h = rw (ne_eqb (suc (suc (suc (suc (suc (items_len ds)))))) 4 (λ e. omega arith)) refl
det_bad left (array (item a (item b (item c (item e no_items))))) m h =
    let d : Data = array (item a (item b (item c (item e no_items)))) in
    chain (pid_at 0 d) _ (IsPlainly-pid 0 d) (or_else (value_fits (left - 1) a) _ h (pid_bad (left - 1) 0 d a refl) (λ h2 source.
    chain (u32_at 1 d) _ (IsPlainly-or_form _) (or_else (value_fits (left - 1) b) _ h2 (number_bad (2 ^ 32) (left - 1) 1 d b refl) (λ h3 ssn.
    chain (pid_at 2 d) _ (IsPlainly-pid 2 d) (or_else (value_fits (left - 1) c) _ h3 (pid_bad (left - 1) 2 d c refl) (λ h4 dest.
    stops (u32_at 3 d) _ (number_bad (2 ^ 32) (left - 1) 3 d e refl (last_false (value_fits (left - 1) e) _ m h4))))))))
det_bad left _ m h = refl

list_bad : (n : ℕ) (ds : Items) → items_fit 2 n ds ≡ false → parse_dets ds ≡ Err Form
list_bad n no_items h = absurd (let no : true ≡ false = h in cc)
list_bad n (item d ds) h =
    chain (parse_det d) _ (IsPlainly-det d) (or_else (value_fits 1 d) _ h (det_bad 1 d refl) (λ more det. stops (parse_dets ds) _ (list_bad (count_capped n) ds more)))

field_bad : (x : Data) → value_fits 2 x ≡ false → (or_form (as_array x) >>= parse_dets) ≡ Err Form
field_bad (array ds) h = list_bad 0 ds h
field_bad _ h = refl

-- a value that does not fit is refused as a list of determinants
pub dets_bad : (i : ℕ) (d x : Data) → at i d ≡ Some x → value_fits 2 x ≡ false → dets_at i d ≡ Err Form
unfolding dets_at
dets_bad i d x is h = ap (λ o. or_form (option_and_then as_array o) >>= parse_dets) is ∙ field_bad x h

-- ---- lines by their length

-- the first field of a line is this name
abbrev pub IsNamed : List ℕ → Data → Type 0
IsNamed name d = bytes_eq (unwrap_or (option_and_then as_str (at 0 d)) []) name ≡ true

-- the test of n items is the test of each item
abbrev pub OfEach : ℕ → (Items → Type 0) → Type 0
OfEach zero P = P no_items
OfEach (suc n) P = (x : Data) → OfEach n (λ xs. P (item x xs))

of_each : (n : ℕ) (P : Items → Type 0) (xs : Items) → items_len xs ≡ n → OfEach n P → P xs
of_each zero P no_items e h = h
of_each (suc n) P (item x xs) e h = of_each n (λ ys. P (item x ys)) xs (omega (arith, e)) (h x)
of_each _ P _ e h = absurd (omega (arith, e))

-- a line with a known name that does not fit is an array of the right length with a field that does not fit
pub of_line : (n : ℕ) (name : List ℕ) (R : Data → Type 0) (d : Data) → value_fits levels d ≡ false → is_array_named d name (suc n) ≡ true
    → OfEach (suc n) (λ xs. value_fits levels (array xs) ≡ false → IsNamed name (array xs) → R (array xs)) → R d
of_line n name R (array xs) h is all =
    let p = and_parts _ _ is in
    of_each (suc n) (λ ys. value_fits levels (array ys) ≡ false → IsNamed name (array ys) → R (array ys)) xs (eqb-true (items_len xs) (suc n) p.1) all h p.0
of_line n name R _ h is all = absurd (omega (arith, eqb-true 0 (suc n) (and_parts _ _ is).1))

-- the fields after the name
pub fields : (name : List ℕ) (x : Data) (more : Bool) → bytes_eq [] name ≡ false → (value_fits 2 x && more) ≡ false → bytes_eq (unwrap_or (as_str x) []) name ≡ true → more ≡ false
fields name x more none h is = grind arith

-- a choice fails with `Form` if both alternatives do
pub either : {A : Type 0} (b : Bool) (x y : Result A TextKind) → (b ≡ true → x ≡ Err Form) → y ≡ Err Form → cond b x y ≡ Err Form
either b x y h k = grind arith
