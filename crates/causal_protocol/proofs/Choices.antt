-- Members of the lists that are made from logs.
use Rattle.std.proofs.Common.{ℕ, ◌≡◌, ◌<◌, Bool, true, cond, not, ◌&&◌, ◌||◌, List, [], ◌∷◌, find, Some, None, is_some, sym, ap, ◌∙◌, arith, true≢false}
use Rattle.std.specs.Prelude.{◌⊎◌}
use Rattle.std.specs.Option.{option_map}
use Rattle.std.specs.FinMap as fin
use Rattle.std.specs.FinSet as set
use Rattle.std.proofs.lemmas.Bool.{false≢true, both_ways, or_cases, and_parts, not_from_false}
use Rattle.std.proofs.lemmas.Bool.Decides.{nat_tests}
use Rattle.std.proofs.Math.Bool.{and_comm}
use Rattle.causal_name.specs.declared.Det.{Det}
use Rattle.causal_name.specs.Names.{det_cmp, same_det}
use Rattle.causal_name.proofs.Lemmas.DetOrder.{dets_total, exact_dets, det_ties, same_is, same_itself}
use Rattle.causal_trace.specs.declared.entry.Entry.{Entry}
use Rattle.causal_trace.specs.declared.entry.Entry.TheVariants.{Stable}
use Rattle.causal_trace.specs.Past.{list_has, is_stable}
use Rattle.causal_log.specs.Knowledge.{is_carried, as_stable}
use Rattle.causal_log.specs.Logs.{LogMap, known_of, item_of, is_in_batch, batch_items, stable_in, after_mark, unstable_in}
use Rattle.causal_log.specs.Stores as store
use Rattle.causal_log.proofs.Lemmas.MessageItems.{carried, swap_first}
use Rattle.causal_log.proofs.Lemmas.Searches.{any_kept, any_logged, passes}
use Rattle.causal_protocol.specs.Gathering.{stable_set, without_dets}
use Rattle.causal_protocol.specs.MemoryQueries.{has_entry, log_knows_holder, log_knows_stable, has_item, item_holder}

-- membership in what a log chooses for a message
module _ (f : ℕ) (log : LogMap) (d : Det) where
  pub chosen_item : has_item d (batch_items f log) ≡ is_in_batch f (fin.get log d)
  chosen_item = grind (arith, any_kept, and_comm, any_logged (is_carried f) d log, carried f (fin.get log d))

  pub chosen_holder : (q : ℕ) → item_holder d q (batch_items f log) ≡ passes (λ k. is_carried f k && set.contains k.holders q) (fin.get log d)
  chosen_holder q =
      any_kept item_of (λ e. is_carried f e.1) (λ item. same_det d item.det && set.contains item.holders q) (λ e. same_det d e.0 && (is_carried f e.1 && set.contains e.1.holders q)) (λ e. swap_first (is_carried f e.1) (same_det d e.0) (set.contains e.1.holders q)) (fin.entries log)
      ∙ any_logged (λ k. is_carried f k && set.contains k.holders q) d log

  -- a message carries only determinants that its sender's log has
  pub chosen_logged : has_item d (batch_items f log) ≡ true → has_entry d log ≡ true
  chosen_logged h = grind (arith, chosen_item, false≢true)

  -- the sender's log has each holder that the message names
  pub chosen_known : (q : ℕ) → item_holder d q (batch_items f log) ≡ true → log_knows_holder d q log ≡ true
  chosen_known q h = grind (arith, chosen_holder q, passes, false≢true, and_parts)

  -- what a log has is carried, or is known to be stable, or has more than f known holders
  pub chosen_left : has_entry d log ≡ true → (has_item d (batch_items f log) ≡ true) ⊎ ((log_knows_stable d log ≡ true) ⊎ (f < set.len (known_of log d).holders))
  chosen_left h = grind (arith, not_from_false, nat_tests, false≢true, chosen_item)

-- membership in the lists of what a log knows to be stable, and of the rest
pub stable_have : (log : LogMap) (d : Det) → list_has (stable_in log) d ≡ log_knows_stable d log
stable_have log d =
    let kept = any_kept (λ e. e.0) (λ e. e.1.stable) (same_det d) (λ e. same_det d e.0 && e.1.stable) (λ e. and_comm e.1.stable (same_det d e.0)) (fin.entries log) in
    grind (arith, kept, any_logged (λ k. k.stable) d log)

-- a flush writes only what the log has
pub unstable_logged : (log : LogMap) (d : Det) → list_has (unstable_in log) d ≡ true → has_entry d log ≡ true
unstable_logged log d h =
    let kept = any_kept (λ e. e.0) (λ e. not e.1.stable) (same_det d) (λ e. same_det d e.0 && not e.1.stable) (λ e. and_comm (not e.1.stable) (same_det d e.0)) (fin.entries log) in
    grind (arith, kept, any_logged (λ k. not k.stable) d log)

module _ (log : LogMap) (det d : Det) where
  marked_get : fin.get (after_mark log det) d ≡ cond (same_det d det) (option_map as_stable (fin.get log d)) (fin.get log d)
  marked_get = grind (arith, fin.get-insert dets_total log det, det_ties d det, same_is d det)

  -- a mark does not change what the log has
  pub marked_entry : has_entry d (after_mark log det) ≡ has_entry d log
  marked_entry = grind (arith, marked_get)

  -- a mark does not change the known holders
  pub marked_holder : (q : ℕ) → log_knows_holder d q (after_mark log det) ≡ log_knows_holder d q log
  marked_holder q = grind (arith, marked_get)

  -- what is known to be stable after a mark was known before, or is logged and was marked
  pub marked_stable : log_knows_stable d (after_mark log det) ≡ (log_knows_stable d log || (same_det d det && has_entry d log))
  marked_stable = grind (arith, marked_get, false≢true)

-- a log without some determinants
module _ (listed : List Det) (log : LogMap) (d : Det) where
  without_get : fin.get (without_dets listed log) d ≡ cond (not (list_has listed d)) (fin.get log d) None
  without_get = fin.get-retain_keys log (λ x. not (list_has listed x)) d (λ x ties. ap (λ y. not (list_has listed y)) (sym (exact_dets d x ties)))

  -- a log without some determinants has the others
  pub without_entry : has_entry d (without_dets listed log) ≡ (not (list_has listed d) && has_entry d log)
  without_entry = grind (arith, without_get)

  -- a log without some determinants has the known holders of the others
  pub without_holder : (q : ℕ) → log_knows_holder d q (without_dets listed log) ≡ (not (list_has listed d) && log_knows_holder d q log)
  without_holder q = grind (arith, without_get, set.contains-empty)

  -- a log without some determinants has the marks of the others
  pub without_stable : log_knows_stable d (without_dets listed log) ≡ (not (list_has listed d) && log_knows_stable d log)
  without_stable = grind (arith, without_get)

-- the stable set of a past has exactly the determinants of its stable entries
pub stable_has : (past : List Entry) (d : Det) → store.set_has (stable_set past) d ≡ is_stable past d
unfolding stable_set
stable_has [] d = ap is_some (fin.get-empty det_cmp d)
stable_has (Stable det ∷ past) d = grind (arith, fin.get-insert dets_total (stable_set past) det tt d, det_ties d det, stable_has past d)
stable_has (_ ∷ past) d = stable_has past d

-- what a search returns is in the list and passes the test
pub first_passes : (p : Det → Bool) (ds : List Det) (d : Det) → find p ds ≡ Some d → (p d ≡ true) × (list_has ds d ≡ true)
first_passes p [] d h = absurd (true≢false (sym (ap is_some h)))
first_passes p (x ∷ ds) d h = grind (arith, first_passes p ds d, same_itself)

-- if a member of a list passes, a search returns one
pub first_there : (p : Det → Bool) (ds : List Det) (d : Det) → list_has ds d ≡ true → p d ≡ true → is_some (find p ds) ≡ true
first_there p [] d h fit = absurd (false≢true h)
first_there p (x ∷ ds) d h fit = grind (arith, or_cases (same_det d x) (list_has ds d) h, first_there p ds d, both_ways, same_is)
