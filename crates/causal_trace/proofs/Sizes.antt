-- Every number of a well-formed recording is bounded.
use Rattle.std.proofs.Common.{ℕ, ◌≡◌, ◌<◌, ◌≤◌, true, List, [], ◌∷◌, ◌++◌, length, reverse, Option, None, sym, subst, arith}
use Rattle.std.specs.Prelude.{IfSome}
use Rattle.std.proofs.lemmas.Bool.{false≢true, eqb-true}
use Rattle.std.proofs.lemmas.List.{reverse-append}
use Rattle.causal_name.specs.declared.Det.{Det}
use Rattle.causal_trace.specs.declared.entry.Entry.{Entry}
use Rattle.causal_trace.specs.declared.entry.Entry.TheVariants.{Deliver}
use Rattle.causal_trace.specs.Past.{restarts, message_at, det_of, is_delivered}
use Rattle.causal_trace.specs.Rows.{rows_within, first_fault, are_delivered_with, AreLegalEntries}
use Rattle.causal_trace.specs.Sizes.{DetIsBounded, DetsAreBounded, EntryIsBounded, EntriesAreBounded, NumbersAreBounded, LimitsAreKept}
use Rattle.causal_trace.proofs.Lemmas.CountBounds.{sends_few, deliveries_few}
use Rattle.causal_trace.proofs.Lemmas.WellFormed.{short_next, formed_short}
use Rattle.causal_trace.proofs.Lemmas.EntryFacts.{sent_within}

module _ (limit : ℕ) where
  message_small : (past : List Entry) (send : ℕ) → EntriesAreBounded limit past → IfSome (message_at past send) (λ m. (m.source.0 < limit) × (m.ssn < 16777216))
  message_small [] send h = tt
  message_small (e ∷ past) send h = grind (arith, message_small past send h.1)

  det_of_small : (past : List Entry) (e : Entry) → EntriesAreBounded limit past → EntryIsBounded limit e → IfSome (det_of past e) (DetIsBounded limit)
  det_of_small past e h k = grind (arith, message_small past)

  delivered_small : (past : List Entry) (d : Det) → EntriesAreBounded limit past → is_delivered past d ≡ true → DetIsBounded limit d
  delivered_small [] d h t = absurd (false≢true t)
  delivered_small (e ∷ past) d h t = grind (arith, delivered_small past d h.1, det_of_small past e h.1 h.0)

  all_small : (past : List Entry) (own : Option Det) (ds : List Det) → EntriesAreBounded limit past → IfSome own (DetIsBounded limit) → are_delivered_with past own ds ≡ true → DetsAreBounded limit ds
  all_small past own [] h k t = tt
  all_small past own (d ∷ ds) h k t = grind (arith, delivered_small past d h, all_small past own ds h k)

  -- a legal entry has bounded numbers
  entry_small : (n : ℕ) (past : List Entry) (e : Entry) → n ≤ limit → EntriesAreBounded limit past → length past < 16777216 → first_fault n past e ≡ None → EntryIsBounded limit e
  unfolding rows_within
  entry_small n past (Deliver to send rsn listed) few h short next =
      grind (arith, eqb-true, sent_within past send to.0, deliveries_few, message_small past send h, all_small past (det_of past (Deliver to send rsn listed)) listed h)
  entry_small n past e few h short next = grind (arith, eqb-true, sends_few, delivered_small, all_small past None)

pub restarts_few : (n : ℕ) (past : List Entry) → AreLegalEntries n past → restarts past ≤ 65536
unfolding rows_within
restarts_few n [] h = omega arith
restarts_few n (e ∷ past) h = grind (arith, restarts_few n past h.0)

pub accepted_small : (limit n : ℕ) (past : List Entry) → n ≤ limit → AreLegalEntries n past → EntriesAreBounded limit past
accepted_small limit n [] few h = tt
accepted_small limit n (e ∷ past) few h = grind (arith, accepted_small limit n past few h.0, short_next, entry_small)

small_append : (limit : ℕ) (es fs : List Entry) → EntriesAreBounded limit es → EntriesAreBounded limit fs → EntriesAreBounded limit (es ++ fs)
small_append limit [] fs h k = k
small_append limit (e ∷ es) fs h k = (h.0, small_append limit es fs h.1 k)

pub small_reverse : (limit : ℕ) (es : List Entry) → EntriesAreBounded limit es → EntriesAreBounded limit (reverse es)
small_reverse limit [] h = tt
small_reverse limit (e ∷ es) h = subst (EntriesAreBounded limit) (sym (reverse-append (e ∷ []) es)) (small_append limit (reverse es) (e ∷ []) (small_reverse limit es h.1) (h.0, tt))

-- a well-formed recording of at most `limit` processes has bounded numbers
pub numbers_small : NumbersAreBounded
numbers_small r limit formed few = small_reverse limit r.past (accepted_small limit r.processes r.past few formed.accepted)

-- a well-formed recording is within the limits of any trace
pub limits_kept : LimitsAreKept
limits_kept r formed = let s = formed_short r formed in (s.entries, s.listed, restarts_few r.processes r.past formed.accepted)
