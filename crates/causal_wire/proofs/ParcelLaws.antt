-- The two laws of the format: what is read has these bytes, and what is written is read back.
use Rattle.std.proofs.Common.{◌≡◌, ℕ, ◌+◌, ◌≤◌, ◌^◌, false, cond, eqb, List, [], ◌∷◌, ◌++◌, length, Result, Ok, Err, refl, sym, ap, subst, ◌∙◌, append_assoc, arith}
use Rattle.std.specs.Prelude.{IfOk}
use Rattle.std.specs.List.{AllByRecursion}
use Rattle.std.specs.FinSet as set
use Rattle.std.proofs.lemmas.List.Elements.{All-from_recursion}
use Rattle.causal_name.specs.declared.Det.{Det}
use Rattle.causal_wire.specs.declared.parcel.ParcelItem.{ParcelItem}
use Rattle.causal_wire.specs.declared.parcel.LogEntry.{LogEntry}
use Rattle.std.specs.Int.{w32, w64}
use Rattle.std.proofs.lemmas.Bool.{eqb-true}
use Rattle.std.proofs.lemmas.List.{append-nil, nil_from_length}
use Rattle.causal_wire.specs.declared.fault.WireFault.TheVariants as faults
use Rattle.causal_wire.specs.declared.fault.ParcelFault.{ParcelFault}
use Rattle.causal_wire.specs.declared.fields.ParcelKind.{ParcelKind}
use Rattle.causal_wire.specs.declared.fields.ParcelKind.TheVariants as kinds
use Rattle.causal_wire.specs.declared.parcel.RunId.{RunId}
use Rattle.causal_wire.specs.declared.parcel.Head.{Head}
use Rattle.causal_wire.specs.declared.parcel.Parcel.{Parcel}
use Rattle.causal_wire.specs.Parcels.{Contents, message, acknowledgement, question, answer, own_number, not_up, AreContents, IsItem, IsRun, IsParcel, IsWritable, parcel_value}
use Rattle.causal_wire.specs.Bytes.{byte, det_bytes, number_bytes, head_bytes, item_bytes, entry_bytes, list_bytes, body_bytes, view_bytes, kind_byte, contents_bytes, parcel_bytes}
use Rattle.causal_wire.specs.Reading.{◌>>=◌, ReturnsRead, read_number, read_body, read_items, read_entries, read_view, read_head, read_contents, read_parcel}
use Rattle.causal_wire.proofs.FieldLaws.{IsBytes, bind_ok, guard_passed, ok_is, Takes, Takes-then, wide32, wide64, number_takes, number_again, body_takes, body_again, number_of, head_takes, head_again}
use Rattle.causal_wire.proofs.ItemLaws.{items_take, items_again, entries_take, entries_again, view_takes, view_again}

-- contents that were read
record IsRead (n source : ℕ) (kind : ParcelKind) (bytes : List ℕ) (x : Contents × List ℕ) : Type 0 where
  takes : Takes bytes (contents_bytes x.0) x.1
  contents : AreContents n source x.0
  kind_is : number_of kind ≡ kind_byte x.0

contents_take : (n source : ℕ) (kind : ParcelKind) (bytes : List ℕ) (x : Contents × List ℕ) → IsBytes bytes → read_contents n source kind bytes ≡ Ok x → IsRead n source kind bytes x
unfolding read_contents
contents_take n source kinds.Message bytes x fits e =
    let a = bind_ok (read_number w32 bytes) (λ ssn. read_items n source ssn.1 >>= λ items. read_body items.1 >>= λ body. Ok (message ssn.0 items.0 body.0, body.1)) x e in
    let b = bind_ok (read_items n source a.0.1) (λ items. read_body items.1 >>= λ body. Ok (message a.0.0 items.0 body.0, body.1)) x a.2 in
    let c = bind_ok (read_body b.0.1) (λ body. Ok (message a.0.0 b.0.0 body.0, body.1)) x b.2 in
    let t0 = number_takes w32 (2 ^ 32) wide32 bytes a.0 fits a.1 in
    let t1 = items_take n source a.0.1 b.0 t0.0.rest_fits b.1 in
    let t2 = body_takes b.0.1 c.0 t1.0.rest_fits c.1 in
    let e12 = Takes-then a.0.1 (list_bytes item_bytes b.0.0) b.0.1 (body_bytes c.0.0) c.0.1 t1.0 t2.0 in
    let e02 = Takes-then bytes (number_bytes w32 a.0.0) a.0.1 (list_bytes item_bytes b.0.0 ++ body_bytes c.0.0) c.0.1 t0.0 e12 in
    let made : Contents × List ℕ = (message a.0.0 b.0.0 c.0.0, c.0.1) in
    subst (IsRead n source kinds.Message bytes) (ok_is made x c.2) (record { takes = e02; contents = (t0.1, t1.1, t2.1); kind_is = refl })
contents_take n source kinds.Acknowledgement bytes x fits e =
    let a = bind_ok (read_items n source bytes) (λ items. Ok (acknowledgement items.0, items.1)) x e in
    let t = items_take n source bytes a.0 fits a.1 in
    let made : Contents × List ℕ = (acknowledgement a.0.0, a.0.1) in
    subst (IsRead n source kinds.Acknowledgement bytes) (ok_is made x a.2) (record { takes = t.0; contents = t.1; kind_is = refl })
contents_take n source kinds.Question bytes x fits e =
    let a = bind_ok (read_number w64 bytes) (λ round. read_view n round.1 >>= λ view. Ok (question round.0 view.0, view.1)) x e in
    let b = bind_ok (read_view n a.0.1) (λ view. Ok (question a.0.0 view.0, view.1)) x a.2 in
    let t0 = number_takes w64 (2 ^ 64) wide64 bytes a.0 fits a.1 in
    let t1 = view_takes n a.0.1 b.0 t0.0.rest_fits b.1 in
    let made : Contents × List ℕ = (question a.0.0 b.0.0, b.0.1) in
    subst (IsRead n source kinds.Question bytes) (ok_is made x b.2)
    (record { takes = Takes-then bytes (number_bytes w64 a.0.0) a.0.1 (view_bytes b.0.0) b.0.1 t0.0 t1.0; contents = (t0.1, t1.1); kind_is = refl })
contents_take n source kinds.Answer bytes x fits e =
    let a = bind_ok (read_number w64 bytes) (λ round. read_entries n source round.1 >>= λ entries. Ok (answer round.0 entries.0, entries.1)) x e in
    let b = bind_ok (read_entries n source a.0.1) (λ entries. Ok (answer a.0.0 entries.0, entries.1)) x a.2 in
    let t0 = number_takes w64 (2 ^ 64) wide64 bytes a.0 fits a.1 in
    let t1 = entries_take n source a.0.1 b.0 t0.0.rest_fits b.1 in
    let made : Contents × List ℕ = (answer a.0.0 b.0.0, b.0.1) in
    subst (IsRead n source kinds.Answer bytes) (ok_is made x b.2)
    (record { takes = Takes-then bytes (number_bytes w64 a.0.0) a.0.1 (list_bytes entry_bytes b.0.0) b.0.1 t0.0 t1.0; contents = (t0.1, t1.1); kind_is = refl })
contents_take n source kinds.OwnNumber bytes x fits e =
    let a = bind_ok (read_number w64 bytes) (λ round. Ok (own_number round.0, round.1)) x e in
    let t = number_takes w64 (2 ^ 64) wide64 bytes a.0 fits a.1 in
    let made : Contents × List ℕ = (own_number a.0.0, a.0.1) in
    subst (IsRead n source kinds.OwnNumber bytes) (ok_is made x a.2) (record { takes = t.0; contents = t.1; kind_is = refl })
contents_take n source kinds.NotUp bytes x fits e =
    let a = bind_ok (read_number w64 bytes) (λ round. Ok (not_up round.0, round.1)) x e in
    let t = number_takes w64 (2 ^ 64) wide64 bytes a.0 fits a.1 in
    let made : Contents × List ℕ = (not_up a.0.0, a.0.1) in
    subst (IsRead n source kinds.NotUp bytes) (ok_is made x a.2) (record { takes = t.0; contents = t.1; kind_is = refl })

-- the kind of contents
abbrev kind_for : Contents → ParcelKind
kind_for (message ssn items body) = kinds.Message
kind_for (acknowledgement items) = kinds.Acknowledgement
kind_for (question round view) = kinds.Question
kind_for (answer round entries) = kinds.Answer
kind_for (own_number round) = kinds.OwnNumber
kind_for (not_up round) = kinds.NotUp

kind_number : (contents : Contents) → kind_byte contents ≡ number_of (kind_for contents)
kind_number contents = grind arith

contents_again : (n source : ℕ) (contents : Contents) (rest : List ℕ) → n ≤ 256 → AreContents n source contents → read_contents n source (kind_for contents) (contents_bytes contents ++ rest) ≡ Ok (contents, rest)
unfolding read_contents
contents_again n source (message ssn items body) rest few fits =
    let regrouped : contents_bytes (message ssn items body) ++ rest ≡ number_bytes w32 ssn ++ (list_bytes item_bytes items ++ (body_bytes body ++ rest)) =
    append_assoc (number_bytes w32 ssn) (list_bytes item_bytes items ++ body_bytes body) rest ∙ ap (λ (t : List ℕ). number_bytes w32 ssn ++ t) (append_assoc (list_bytes item_bytes items) (body_bytes body) rest) in
    ap (read_contents n source kinds.Message) regrouped
    ∙ rw (number_again w32 (2 ^ 32) wide32 ssn (list_bytes item_bytes items ++ (body_bytes body ++ rest)) fits.0, items_again n source items (body_bytes body ++ rest) few fits.1, body_again body rest fits.2) refl
contents_again n source (acknowledgement items) rest few fits = rw (items_again n source items rest few fits) refl
contents_again n source (question round view) rest few fits =
    ap (read_contents n source kinds.Question) (append_assoc (number_bytes w64 round) (view_bytes view) rest)
    ∙ rw (number_again w64 (2 ^ 64) wide64 round (view_bytes view ++ rest) fits.0, view_again n view rest fits.1) refl
contents_again n source (answer round entries) rest few fits =
    ap (read_contents n source kinds.Answer) (append_assoc (number_bytes w64 round) (list_bytes entry_bytes entries) rest)
    ∙ rw (number_again w64 (2 ^ 64) wide64 round (list_bytes entry_bytes entries ++ rest) fits.0, entries_again n source entries rest few fits.1) refl
contents_again n source (own_number round) rest few fits = rw (number_again w64 (2 ^ 64) wide64 round rest fits) refl
contents_again n source (not_up round) rest few fits = rw (number_again w64 (2 ^ 64) wide64 round rest fits) refl

-- ---- whole parcels

abbrev IsParcelOf : RunId → List ℕ → Head × Contents → Type 0
IsParcelOf run bytes p = IsParcel run p × (bytes ≡ parcel_bytes run p)

pub parcel_takes : (run : RunId) (bytes : List ℕ) (p : Head × Contents) → IsBytes bytes → read_parcel run bytes ≡ Ok p → IsParcelOf run bytes p
unfolding read_parcel
parcel_takes run bytes p fits e =
    let a = bind_ok (read_head run bytes) (λ head. read_contents run.processes head.1.source.0 head.0 head.2 >>= λ contents. cond (eqb (length contents.1) 0) (Ok (head.1, contents.0)) (Err faults.Trailing)) p e in
    let b = bind_ok (read_contents run.processes a.0.1.source.0 a.0.0 a.0.2) (λ contents. cond (eqb (length contents.1) 0) (Ok (a.0.1, contents.0)) (Err faults.Trailing)) p a.2 in
    let g = guard_passed (eqb (length b.0.1) 0) faults.Trailing (a.0.1, b.0.0) p b.2 in
    let t = head_takes run bytes a.0 fits a.1 in
    let u = contents_take run.processes a.0.1.source.0 a.0.0 a.0.2 b.0 t.takes.rest_fits b.1 in
    let none : b.0.1 ≡ [] = nil_from_length b.0.1 (eqb-true _ _ g.0) in
    let both = (Takes-then bytes (head_bytes run (number_of a.0.0) a.0.1) a.0.2 (contents_bytes b.0.0) b.0.1 t.takes u.takes).parts in
    let text : List ℕ = head_bytes run (number_of a.0.0) a.0.1 ++ contents_bytes b.0.0 in
    let whole : bytes ≡ parcel_bytes run (a.0.1, b.0.0) = both ∙ ap (λ (r : List ℕ). text ++ r) none ∙ append-nil text ∙ ap (λ (k : ℕ). head_bytes run k a.0.1 ++ contents_bytes b.0.0) u.kind_is in
    subst (IsParcelOf run bytes) g.1 (record { head = t.head; contents = u.contents }, whole)

pub parcel_again : (run : RunId) (p : Head × Contents) → IsRun run → IsParcel run p → read_parcel run (parcel_bytes run p) ≡ Ok p
unfolding read_parcel
parcel_again run p is_run fits =
    let text : List ℕ = contents_bytes p.1 in
    let spelled : parcel_bytes run p ≡ head_bytes run (number_of (kind_for p.1)) p.0 ++ text = ap (λ (k : ℕ). head_bytes run k p.0 ++ text) (kind_number p.1) in
    let rest : read_contents run.processes p.0.source.0 (kind_for p.1) text ≡ Ok (p.1, []) = ap (read_contents run.processes p.0.source.0 (kind_for p.1)) (sym (append-nil text)) ∙ contents_again run.processes p.0.source.0 p.1 [] is_run.processes fits.contents in
    ap (read_parcel run) spelled
    ∙ rw (head_again run (kind_for p.1) p.0 text is_run.id (omega (arith, is_run.processes)) is_run.f fits.head, rest) refl

pub is_found : (run : RunId) (bytes : List ℕ) (r : Result Parcel ParcelFault) → IsBytes bytes → ReturnsRead parcel_value r (read_parcel run bytes) → IfOk r (λ p. IsParcelOf run bytes (parcel_value p))
is_found run bytes (Ok p) fits given = parcel_takes run bytes (parcel_value p) fits given
is_found run bytes (Err e) fits given = tt

-- ---- what can be written

others_apart : (n source : ℕ) (items : List ParcelItem) → AllByRecursion (IsItem n source) items → AllByRecursion (λ (item : ParcelItem). set.contains item.others source ≡ false) items
others_apart n source [] each = tt
others_apart n source (item ∷ items) each = (each.0.others.others, others_apart n source items each.1)

entries_apart : (n source : ℕ) (entries : List LogEntry) → AllByRecursion (λ (entry : LogEntry). IsItem n source entry.item) entries → AllByRecursion (λ (entry : LogEntry). set.contains entry.item.others source ≡ false) entries
entries_apart n source [] each = tt
entries_apart n source (entry ∷ entries) each = (each.0.others.others, entries_apart n source entries each.1)

pub is_writable : (n source : ℕ) (contents : Contents) → AreContents n source contents → IsWritable source contents
is_writable n source (message ssn items body) fits = (fits.1.count, All-from_recursion (λ (item : ParcelItem). set.contains item.others source ≡ false) items (others_apart n source items fits.1.each), fits.2)
is_writable n source (acknowledgement items) fits = (fits.count, All-from_recursion (λ (item : ParcelItem). set.contains item.others source ≡ false) items (others_apart n source items fits.each))
is_writable n source (question round view) fits = tt
is_writable n source (answer round entries) fits = (fits.1.count, All-from_recursion (λ (entry : LogEntry). set.contains entry.item.others source ≡ false) entries (entries_apart n source entries fits.1.each))
is_writable n source (own_number round) fits = tt
is_writable n source (not_up round) fits = tt

-- the bytes of a determinant, a count and a list
pub length_of_item : (d : Det) (count : ℕ) (listed : List ℕ) → length (det_bytes d ++ (byte count ++ listed)) ≡ 11 + length listed
unfolding number_bytes
length_of_item d count listed = omega arith
