-- The opening of a history, and a list compared, element by element, with the items of a seat.
use Rattle.std.proofs.Common.{◌≡◌, ◌≤◌, ◌<◌, ◌+◌, refl, ℕ, suc, true, List, [], ◌∷◌, length, take, ◌-◌, drop, get_or, drop-cons, add-one, arith, ◌∙◌, sym, ap, reverse, length-drop, take-append-drop}
use Rattle.std.specs.Prelude.{◌==◌}
use Rattle.std.proofs.lemmas.Bool.Decides.{nat_tests}
use Rattle.std.proofs.Math.Seq.{take-length, take-append_seam}
use Rattle.causal_shared.specs.declared.item.Item.{Item}
use Rattle.causal_shared.specs.History.{items_of, run_length, run_at, next_first, AllLegal}
use Rattle.std.proofs.lemmas.List.{reverse-reverse, reverse-append, length-reverse}
use Rattle.causal_trace.specs.Rows.{Recording}
use Rattle.causal_protocol.specs.Run.{Run}
use Rattle.causal_shared.specs.Shared.{Opening, opening_from}
use Rattle.causal_shared.specs.Finish.{before_items}
use Rattle.causal_shared.specs.Inside.FinishChecks.{entries_before}
use Rattle.causal_shared.proofs.Cuts.{cut-whole}
use Rattle.causal_shared.proofs.Histories.{next_first-le}

-- two lists are equal if and only if their remaining parts are
pub record Follows {X : Type 0} (xs ys left_xs left_ys : List X) : Type 0 where
  -- if the remaining parts are equal, so are the lists
  pub whole : left_xs ≡ left_ys → xs ≡ ys
  -- if the lists are equal, so are the remaining parts
  pub left : xs ≡ ys → left_xs ≡ left_ys

-- one more equal element preserves `Follows`
pub Follows-next : {X : Type 0} (xs ys left_xs left_ys : List X) (x : X) (more_xs more_ys : List X) → left_xs ≡ x ∷ more_xs → left_ys ≡ x ∷ more_ys → Follows xs ys left_xs left_ys → Follows xs ys more_xs more_ys
Follows-next xs ys left_xs left_ys x more_xs more_ys is_xs is_ys follows = grind arith

pub items_of-cons_mine : (seat : ℕ) (item : Item) (items : List Item) → item.seat ≡ seat → items_of seat (item ∷ items) ≡ item ∷ items_of seat items
items_of-cons_mine seat item items same = let b : (item.seat == seat) ≡ true = grind (arith, nat_tests) in rw b refl

-- if the next history item belongs to the seat, it is the seat's next item
pub items_of_drop_mine : (seat : ℕ) (items : List Item) (i : ℕ) (d : Item) → i < length items → (get_or items i d).seat ≡ seat → items_of seat (drop i items) ≡ get_or items i d ∷ items_of seat (drop (i + 1) items)
items_of_drop_mine seat items i d lt same = rw (add-one, drop-cons items i d lt) (items_of-cons_mine seat (get_or items i d) (drop (suc i) items) same)

-- a nonempty list is its first element and the rest that a slice pattern binds
pub head_rest : {X : Type 0} (rest : List X) (d x : X) → 1 ≤ length rest → get_or rest 0 d ≡ x → rest ≡ x ∷ take (length rest - 1) (drop 1 rest)
head_rest [] d x le is = absurd (omega arith)
head_rest (y ∷ ys) d x le is = grind (arith, take-length ys)

-- the first n elements of a reversed list
take-reverse : {X : Type 0} (xs : List X) (n : ℕ) → n ≤ length xs → take n (reverse xs) ≡ reverse (drop (length xs - n) xs)
take-reverse xs n le =
    grind (
      arith,
      take-append-drop (length xs - n) xs,
      reverse-append (take (length xs - n) xs) (drop (length xs - n) xs),
      length-reverse (drop (length xs - n) xs),
      length-drop (length xs - n) xs,
      take-append_seam (reverse (drop (length xs - n) xs)) (reverse (take (length xs - n) xs)),
    )

cut-past : (r : Run) (n : ℕ) → (run_at r n).recording.past ≡ drop (run_length r - n) r.recording.past
unfolding run_at
cut-past r n = refl

cut-processes : (r : Run) (n : ℕ) → (run_at r n).recording.processes ≡ r.recording.processes
unfolding run_at
cut-processes r n = refl

entries_before-is : (r : Run) (history : List Item) → AllLegal r history → entries_before (reverse r.recording.past) history ≡ reverse (before_items r history).recording.past
entries_before-is r [] legal = ap (λ (r : Run). reverse r.recording.past) (sym (cut-whole r (run_length r) refl))
entries_before-is r (item ∷ items) legal =
    let le = next_first-le r (item ∷ items) legal in
    take-reverse r.recording.past item.first le ∙ ap reverse (sym (cut-past r item.first))

-- process count, failure bound and entries determine the opening
pub before_items-is : (r : Run) (history : List Item) (o : Recording) (faults : ℕ) → AllLegal r history → r.recording.processes ≡ o.processes → r.faults ≡ faults
    → entries_before (reverse r.recording.past) history ≡ reverse o.past → before_items r history ≡ opening_from o faults
before_items-is r history o faults legal processes same_faults entries =
    grind (
      arith,
      entries_before-is r history legal,
      reverse-reverse ((before_items r history).recording).past,
      reverse-reverse o.past,
      cut-processes r (next_first r history),
    )

-- the entries before the first item are those recorded at the opening
pub before_items-entries : (r : Run) (history : List Item) (o : Recording) (faults : ℕ) → AllLegal r history → before_items r history ≡ opening_from o faults → entries_before (reverse r.recording.past) history ≡ reverse o.past
before_items-entries r history o faults legal same = entries_before-is r history legal ∙ ap (λ (o : Opening). reverse o.recording.past) same

-- a run has the process count of its opening
pub before_items-processes : (r : Run) (history : List Item) (o : Recording) (faults : ℕ) → before_items r history ≡ opening_from o faults → r.recording.processes ≡ o.processes
before_items-processes r history o faults same = sym (cut-processes r (next_first r history)) ∙ ap (λ (o : Opening). o.recording.processes) same
