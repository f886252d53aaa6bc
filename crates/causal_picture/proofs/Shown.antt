-- The entries that a picture shows, each with an event to draw.
use Rattle.std.proofs.Common.{◌≡◌, ℕ, ◌+◌, ◌<◌, ◌≤◌, zero, suc, inl, inr, true, false, List, [], ◌∷◌, length, refl, ◌∙◌, arith, ◌-◌}
use Rattle.std.specs.Prelude.{map, Option, Some, None, ◌||◌, IfSome}
use Rattle.std.specs.List.{filter_map, range_with_len}
use Rattle.std.specs.Option.{option_map, option_map_or, option_and_then}
use Rattle.std.proofs.lemmas.Bool.{false≢true, ne_eqb, cond-true, cond-false, le-leb, lt-ltb, ltb-true, ltb-false}
use Rattle.std.proofs.lemmas.Bool.Decides.{eqb_tells}
use Rattle.causal_name.specs.declared.Pid.{Pid}
use Rattle.causal_trace.specs.declared.entry.Entry.{Entry}
use Rattle.causal_trace.specs.declared.entry.Entry.TheVariants.{Send, Deliver}
use Rattle.causal_trace.specs.Past.{entry_at, is_send_to, is_sent_to, message_sent, det_from}
use Rattle.causal_trace.specs.Rows.{AreLegalEntries, first_fault}
use Rattle.causal_trace.proofs.Lemmas.EntryFacts.{delivers_sent, sent_within}
use Rattle.causal_picture.specs.declared.marks.MarkEvent.{MarkEvent}
use Rattle.causal_picture.specs.declared.marks.Mark.{Mark}
use Rattle.causal_picture.specs.declared.entry_range.EntryRange.{EntryRange}
use Rattle.causal_picture.specs.Marks.{mark_event_of, mark_at, marks_of, HasAllMarks}
use Rattle.causal_picture.specs.declared.focus.Focus.{Focus}
use Rattle.causal_picture.specs.declared.entry_range.Grid.{Grid}
use Rattle.std.specs.Ordering.{nat_cmp}
use Rattle.std.specs.FinSet.{FinSet}
use Rattle.causal_picture.specs.EntryRanges.{first_around, choose_grid, one_range_grid, two_range_grid, grid_around_focus, grid_around_chain, instant_of, least_of, is_within, is_shown, GridFits, ReachesInstant, ShowsFirst}
use Rattle.causal_picture.specs.declared.marks.MarkEvent.TheVariants as shown

-- the delivered message was sent
abbrev IsSupplied : List Entry → Entry → Type 0
IsSupplied past (Deliver to send rsn listed) = is_sent_to past send to.0 ≡ true
IsSupplied past _ = Unit {0}

supplied_next : (n : ℕ) (past : List Entry) (e : Entry) → first_fault n past e ≡ None → IsSupplied past e
supplied_next n past e h = grind (arith, delivers_sent)

-- it was sent also after one more entry
supplied_then : (e : Entry) (past : List Entry) (x : Entry) → IsSupplied past x → IsSupplied (e ∷ past) x
supplied_then e past (Deliver to send rsn listed) h = grind (arith, sent_within past send to.0 h, cond-false, ne_eqb)
supplied_then e past _ h = tt

-- each delivery in a well-formed run has a send
supplied_at : (n : ℕ) (past : List Entry) → AreLegalEntries n past → (k : ℕ) → k < length past
    → (x : Entry) × (entry_at past k ≡ Some x) × IsSupplied past x
supplied_at n [] all k h = absurd (omega arith)
supplied_at n (e ∷ past) all k h =
    elim (eqb_tells k (length past)) [
      | inl here ↦ (e, cond-true _ _ _ here.0, supplied_then e past e (supplied_next n past e all.1))
      | inr apart ↦
          let rest = supplied_at n past all.0 k (let other = apart.1 in omega arith) in
          (rest.0, cond-false _ _ _ apart.0 ∙ rest.1, supplied_then e past rest.0 rest.2)
    ]

-- a delivery of a sent message has an event
delivery_told : (to : Pid) (send rsn : ℕ) (o : Option Entry) → option_map_or (is_send_to to.0) o false ≡ true
    → (what : MarkEvent) × (option_map (λ m. shown.Delivery (det_from to rsn m) send) (option_and_then message_sent o) ≡ Some what)
delivery_told to send rsn (Some (Send from other ssn)) h = (_, refl)
delivery_told to send rsn _ h = absurd (false≢true h)

event_told : (past : List Entry) (x : Entry) → IsSupplied past x → (what : MarkEvent) × (mark_event_of past x ≡ Some what)
event_told past (Deliver to send rsn listed) h = delivery_told to send rsn (entry_at past send) h
event_told past _ h = (_, refl)

-- each position of a well-formed run has an event
mark_there : (n : ℕ) (past : List Entry) → AreLegalEntries n past → (k : ℕ) → k < length past
    → (m : Mark) × (mark_at past k ≡ Some m) × (m.position ≡ k)
mark_there n past all k h =
    let at = supplied_at n past all k h in
    let what = event_told past at.0 at.2 in
    (record { position = k; event = what.0 }, rw (at.1, what.1), refl)

positions_shown : (h : ℕ → Option Mark) (a c : ℕ)
    → ((k : ℕ) → a ≤ k → k < a + c → (m : Mark) × (h k ≡ Some m) × (m.position ≡ k))
    → map (λ (m : Mark). m.position) (filter_map h (range_with_len a c)) ≡ range_with_len a c
positions_shown h a zero each = refl
positions_shown h a (suc c) each =
    let first = each a (omega arith) (omega arith) in
    rw (first.1, first.2, positions_shown h (a + 1) c (λ k low high. each k (omega arith) (omega arith))) refl

-- the events drawn for a range are those of its entries, one for each
pub each_shown : (n : ℕ) (past : List Entry) (s : EntryRange) (marks : List Mark)
    → AreLegalEntries n past → s.first + s.count ≤ length past → marks ≡ marks_of past s → HasAllMarks s marks
each_shown n past s marks all within is =
    rw is (positions_shown (mark_at past) s.first s.count (λ k low high. mark_there n past all k (omega arith)))

-- ---- loops over consecutive numbers

-- the numbers from k up to an end begin with k
pub range_first : (k end : ℕ) → k < end → range_with_len k (end - k) ≡ k ∷ range_with_len (k + 1) (end - (k + 1))
range_first k end h = let e : end - k ≡ suc (end - (k + 1)) = omega arith in rw e refl

-- ---- facts on the entries that a picture shows

-- a position from the start of a range and before its end is in the range
within-true : (s : EntryRange) (k : ℕ) → s.first ≤ k → k < s.first + s.count → is_within s k ≡ true
within-true s k low high = rw (le-leb s.first k low, lt-ltb (k - s.first) s.count (omega arith)) refl

shown-early : (g : Grid) (k : ℕ) → is_within g.early k ≡ true → is_shown g k ≡ true
shown-early g k h = rw h refl

shown-late : (g : Grid) (k : ℕ) → is_within g.late k ≡ true → is_shown g k ≡ true
shown-late g k h = elim (is_within g.early k) as (λ b. (b || is_within g.late k) ≡ true) [ true ↦ refl | false ↦ h ]

-- the grid chosen for a focus and a selected entry is as required
pub record IsChosen (entries : ℕ) (focus : Option Focus) (around : Option ℕ) (g : Grid) : Type 0 where
  pub within : GridFits entries g
  pub few : g.early.count + g.late.count ≤ 200
  -- without a selected entry, the entry before the instant and the first entry of the chain are shown
  pub reaches : around ≡ None → IfSome focus (ReachesInstant entries g)
  pub first : around ≡ None → IfSome focus (ShowsFirst entries g)
  pub selected : IfSome around (λ position. position < entries → is_shown g position ≡ true)

-- the grid of a run around instant t whose chain begins at position `least` is as required
record IsGood (entries least t : ℕ) (g : Grid) : Type 0 where
  within : GridFits entries g
  few : g.early.count + g.late.count ≤ 200
  instant : 0 < t → is_shown g (t - 1) ≡ true
  first : least < t → is_shown g least ≡ true

module _ (entries n : ℕ) (shown : FinSet nat_cmp) where
  one-good : (least t : ℕ) → t ≤ entries → first_around entries least t ≤ least → IsGood entries least t (one_range_grid entries n shown (first_around entries least t))
  one-good least t inside near = grind (arith, shown-early, within-true)

  two-good : (least t : ℕ) → t ≤ entries → least < first_around entries least t → IsGood entries least t (two_range_grid entries n shown least t)
  two-good least t inside far = grind (arith, shown-late, within-true, shown-early)

  either-good : (least t : ℕ) → t ≤ entries → IsGood entries least t (grid_around_chain entries n shown least t)
  either-good least t inside = grind (arith, two-good, ltb-true, one-good, ltb-false)

  placed-good : (f : Focus) → IsGood entries (least_of entries f.chain.now) (instant_of entries f) (grid_around_focus entries n shown f)
  placed-good f = either-good (least_of entries f.chain.now) (instant_of entries f) (omega arith)

  -- a chosen grid is as required
  pub chosen : (focus : Option Focus) (around : Option ℕ) → IsChosen entries focus around (choose_grid entries n shown focus around)
  chosen focus (Some position) = grind (arith, shown-early, within-true)
  chosen None None = grind arith
  chosen (Some f) None = grind (arith, placed-good f)
