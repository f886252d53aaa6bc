-- The logs of the theory that the logs of nodes represent, after an acknowledgement and after a forgetting.
use Rattle.std.proofs.Common.{ℕ, ◌≡◌, ◌∙◌, ◌<◌, Bool, true, false, not, cond, ◌&&◌, ◌||◌, List, [], ◌∷◌, map, filter, Option, Some, None, is_some, unwrap_or, refl, sym, ap, arith}
use Rattle.std.specs.Prelude.{nat_le}
use Rattle.std.specs.List.{list_any}
use Rattle.std.specs.FinMap as fin
use Rattle.std.specs.FinMap.Entries.{find, is_sorted, below_all}
use Rattle.std.specs.FinSet as set
use Rattle.std.proofs.lemmas.Bool.{false≢true, and_parts, eq-eqb}
use Rattle.std.proofs.Math.Bool.{and_comm, or_comm}
use Rattle.causal_name.specs.declared.Det.{Det}
use Rattle.causal_name.specs.declared.Slot.{Slot}
use Rattle.causal_name.specs.Names.{det_cmp, same_det, same_pid, is_ascending}
use Rattle.causal_name.proofs.Lemmas.DetOrder.{dets_total, det_ties, same_is}
use Rattle.causal_trace.specs.Past.{list_has}
use Rattle.causal_log.specs.declared.known.Known.{Known}
use Rattle.causal_log.specs.declared.batch.Item.{Item}
use Rattle.causal_log.specs.Knowledge.{unknown}
use Rattle.causal_log.specs.Logs.{LogMap, known_of, item_of, is_forgotten, forgotten_in, after_forget}
use Rattle.causal_log.proofs.Lemmas.KnowledgeGrows.{logged_all, known_all, holds_either, stable_either}
use Rattle.causal_log.proofs.Lemmas.Searches.{any_kept, any_logged, passes, kept_if, shown}
use Rattle.causal_log.proofs.Lemmas.Ascents.{filter_ascends}
use Rattle.causal_protocol.specs.MemoryQueries.{has_entry, log_knows_holder, log_knows_stable, has_item, item_holder}
use Rattle.causal_steps.specs.Transit.{TransitParcel}
use Rattle.causal_node.specs.NodeAcknowledgements.{known_by_item, logged_items, log_with_holders}
use Rattle.causal_nodes.specs.NodeSteps as theory
use Rattle.causal_calls.specs.Views.{log_view}
use Rattle.causal_calls.specs.Parcels.{items_of_logged}
use Rattle.causal_calls.proofs.Lemmas.LogViews.{same_log}

-- an acknowledgement is taken
module _ (log : LogMap) (items : List Item) where
  -- of the items whose determinants are logged
  some_logged : (d : Det) (P : Item → Bool) (xs : List Item) → list_any (λ item. is_some (fin.get log item.det) && (same_det d item.det && P item)) xs ≡ (has_entry d log && list_any (λ item. same_det d item.det && P item) xs)
  some_logged d P [] = grind arith
  some_logged d P (x ∷ xs) = grind (arith, some_logged d P xs, same_is d x.det)

  abbrev news : List (Det × Known)
  news = map known_by_item (logged_items log items)

  news_of : (d : Det) (P : Item → Bool) (Q : Known → Bool) → ((item : Item) → Q (known_by_item item).1 ≡ P item) → list_any (λ e. same_det d e.0 && Q e.1) news ≡ (has_entry d log && list_any (λ item. same_det d item.det && P item) items)
  news_of d P Q is =
      any_kept known_by_item (λ item. is_some (fin.get log item.det)) (λ e. same_det d e.0 && Q e.1) (λ item. is_some (fin.get log item.det) && (same_det d item.det && P item)) (λ item. ap (λ b. is_some (fin.get log item.det) && (same_det d item.det && b)) (is item)) items
      ∙ some_logged d P items

  any_plain : {X : Type 0} (test : X → Bool) (xs : List X) → list_any test xs ≡ list_any (λ x. test x && true) xs
  any_plain test [] = refl
  any_plain test (x ∷ xs) = grind (arith, any_plain test xs)

  marks_none : (d : Det) (xs : List Item) → list_any (λ item. same_det d item.det && false) xs ≡ false
  marks_none d [] = refl
  marks_none d (x ∷ xs) = grind (arith, marks_none d xs)

  learned_has : (d : Det) → has_entry d (log_with_holders items log) ≡ has_entry d log
  learned_has d = grind (arith, logged_all news log d, any_plain (λ e. same_det d e.0) news ∙ news_of d (λ item. true) (λ k. true) (λ item. refl))

  pub learned_holder : (d : Det) (q : ℕ) → log_knows_holder d q (log_with_holders items log) ≡ ((has_entry d log && item_holder d q items) || log_knows_holder d q log)
  learned_holder d q =
      known_all (λ k. set.contains k.holders q) (holds_either q) news log d
      ∙ ap (λ b. log_knows_holder d q log || b) (news_of d (λ item. set.contains item.holders q) (λ k. set.contains k.holders q) (λ item. refl))
      ∙ or_comm (log_knows_holder d q log) (has_entry d log && item_holder d q items)

  learned_stable : (d : Det) → log_knows_stable d (log_with_holders items log) ≡ log_knows_stable d log
  learned_stable d = grind (arith, known_all (λ k. k.stable) stable_either news log d, news_of d (λ item. false) (λ k. k.stable) (λ item. refl), marks_none d items)

  -- the log after an acknowledgement is the theory's
  pub learned : (t : TransitParcel) → ((d : Det) (q : ℕ) → t.names_holder d q ≡ item_holder d q items) → log_view (log_with_holders items log) ≡ theory.log_after_acknowledgement t (log_view log)
  learned t names = same_log _ _ learned_has (λ d q. learned_holder d q ∙ ap (λ b. (has_entry d log && b) || log_knows_holder d q log) (sym (names d q))) learned_stable

-- a test of one determinant of a list
at_one : (d : Det) (P : Det → Bool) (xs : List Det) → list_any (λ x. same_det d x && P x) xs ≡ (list_has xs d && P d)
at_one d P [] = refl
at_one d P (x ∷ xs) = grind (arith, at_one d P xs, same_is d x)

-- what an acknowledgement says
module _ (log : LogMap) (dets : List Det) (d : Det) where
  pub acknowledged_dets : has_item d (items_of_logged log dets) ≡ (list_has dets d && has_entry d log)
  acknowledged_dets =
      any_kept (λ det. item_of (det, known_of log det)) (λ det. has_entry det log) (λ item. same_det d item.det) (λ det. same_det d det && has_entry det log) (λ det. and_comm (has_entry det log) (same_det d det)) dets
      ∙ at_one d (λ det. has_entry det log) dets

  pub acknowledged_holders : (q : ℕ) → item_holder d q (items_of_logged log dets) ≡ (list_has dets d && (has_entry d log && log_knows_holder d q log))
  acknowledged_holders q =
      any_kept (λ det. item_of (det, known_of log det)) (λ det. has_entry det log) (λ item. same_det d item.det && set.contains item.holders q) (λ det. same_det d det && (has_entry det log && log_knows_holder det q log)) (λ det. grind arith) dets
      ∙ at_one d (λ det. has_entry det log && log_knows_holder det q log) dets

-- a determinant's entry among those that pass a test
module _ {X : Type 0} where
  none_below : (d : Det) (es : List (Det × X)) → below_all det_cmp d es ≡ true → find det_cmp d es ≡ None
  none_below d [] h = refl
  none_below d (e ∷ es) h = grind (arith, none_below d es)

  found_kept : (p : Det × X → Bool) (q : Det) (es : List (Det × X)) → is_sorted det_cmp es ≡ true → find det_cmp q (filter p es) ≡ kept_if (λ x. p (q, x)) (find det_cmp q es)
  found_kept p q [] h = refl
  found_kept p q ((d, x) ∷ es) h = grind (arith, found_kept p q es, same_is, det_ties, none_below)

-- a forgetting
module _ (next : Slot) (log : LogMap) (d : Det) where
  -- whether d is forgotten, if this is known of it
  abbrev goes : Known → Bool
  goes known = is_forgotten next (d, known)

  pub forgotten_listed : list_has (forgotten_in next log) d ≡ passes goes (fin.get log d)
  forgotten_listed =
      any_kept (λ e. e.0) (is_forgotten next) (same_det d) (λ e. same_det d e.0 && goes e.1) (λ e. grind (arith, same_is d e.0)) (fin.entries log)
      ∙ any_logged goes d log

  left : fin.get (after_forget next log) d ≡ kept_if (λ known. not (goes known)) (fin.get log d)
  left =
      fin.get-from_entries dets_total (filter (λ e. not (is_forgotten next e)) (fin.entries log)) d
      ∙ found_kept (λ e. not (is_forgotten next e)) d (fin.entries log) (shown _ (fin.entries_sorted log))
      ∙ ap (kept_if (λ known. not (goes known))) (sym (fin.get-entries log d))

  -- what a look-up says, if it says nothing of what is not there
  said_left : (says : Option Known → Bool) → says None ≡ false → says (fin.get (after_forget next log) d) ≡ (not (list_has (forgotten_in next log) d) && says (fin.get log d))
  said_left says nothing = ap says left ∙ by (fin.get log d) ∙ ap (λ b. not b && says (fin.get log d)) (sym forgotten_listed)
    where
      by : (o : Option Known) → says (kept_if (λ known. not (goes known)) o) ≡ (not (passes goes o) && says o)
      by None = refl
      by (Some known) = at (goes known)
        where
          at : (b : Bool) → says (cond (not b) (Some known) None) ≡ (not b && says (Some known))
          at true = nothing
          at false = refl

  -- what is forgotten was known to be stable, and is of no delivery that is still to be made
  known_once : (o : Option Known) → passes goes o ≡ true → ((unwrap_or o unknown).stable ≡ true) × (not (same_pid d.dest next.dest && nat_le next.rsn d.rsn) ≡ true)
  known_once None h = absurd (false≢true h)
  known_once (Some known) h = and_parts _ _ h

  pub forgotten_stable : list_has (forgotten_in next log) d ≡ true → log_knows_stable d log ≡ true
  forgotten_stable h = (known_once (fin.get log d) (sym forgotten_listed ∙ h)).0

  pub forgotten_made : list_has (forgotten_in next log) d ≡ true → d.dest.0 ≡ next.dest.0 → d.rsn < next.rsn
  forgotten_made h mine = grind (arith, eq-eqb d.dest.0 next.dest.0 mine, (known_once (fin.get log d) (sym forgotten_listed ∙ h)).1)

-- the log after a forgetting is the theory's
pub forgotten : (next : Slot) (log : LogMap) → log_view (after_forget next log) ≡ theory.log_without (forgotten_in next log) (log_view log)
forgotten next log = same_log _ _
    (λ d. said_left next log d is_some refl)
    (λ d q. said_left next log d (λ o. set.contains (unwrap_or o unknown).holders q) (set.contains-empty _ q))
    (λ d. said_left next log d (λ o. (unwrap_or o unknown).stable) refl)

-- what is forgotten ascends
pub forgotten_ascends : (next : Slot) (log : LogMap) → is_ascending (forgotten_in next log) ≡ true
forgotten_ascends next log = filter_ascends (is_forgotten next) log
