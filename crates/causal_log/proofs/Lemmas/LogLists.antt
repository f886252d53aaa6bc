-- The determinants of a log as lists: those known to be stable, and the others.
use Rattle.std.proofs.Common.{arith, ◌≡◌, ◌∙◌, ◌+◌, Bool, true, not, ◌&&◌, map, filter, length, Option, Some, None, is_some, ap, sym, refl, cond, ℕ, slice_get}
use Rattle.std.proofs.lemmas.Option.{slice_get_read}
use Rattle.std.proofs.lemmas.Map.Views.{Contains-from_lookup}
use Rattle.std.proofs.lemmas.Map.Entries.{lookup_from_place}
use Rattle.std.proofs.Math.Bool.{and_comm}
use Rattle.std.specs.List.{list_any}
use Rattle.std.specs.FinMap as fin
use Rattle.std.specs.Map.{keys_of}
use Rattle.std.proofs.lemmas.List.{length-map}
use Rattle.std.proofs.lemmas.List.Filters.{length-filter_both}
use Rattle.causal_name.specs.declared.Det.{Det}
use Rattle.causal_name.specs.Names.{same_det, is_ascending}
use Rattle.causal_log.specs.declared.known.Known.{Known}
use Rattle.causal_log.specs.Knowledge.{as_stable}
use Rattle.causal_log.specs.Logs.{LogMap, known_of, stable_in, unstable_in, after_drop_stable, mark, after_mark}
use Rattle.causal_log.proofs.EntryLemmas.{det_equiv, find_lookup, keys_distinct, own_entries}
use Rattle.causal_log.proofs.Lemmas.Ascents.{filter_ascends}
use Rattle.causal_log.proofs.Lemmas.Searches.{any_map, any_kept, any_dets, any_logged, passes, find_kept, shown}
use Rattle.std.specs.Option.{option_map}
use Rattle.causal_name.proofs.Lemmas.DetOrder.{dets_total, det_ties, same_is}

-- a determinant is logged if and only if it is one of the log's determinants
pub keys_logged : (log : LogMap) (det : Det) → list_any (same_det det) (fin.keys log) ≡ is_some (fin.get log det)
keys_logged log det = any_map (λ e. e.0) (same_det det) (λ e. same_det det e.0) (λ e. refl) (fin.entries log) ∙ any_dets det log

-- the determinants of the entries that pass a test
module _ (P : Known → Bool) where
  pub passing_logged : (log : LogMap) (det : Det) → list_any (same_det det) (map (λ e. e.0) (filter (λ e. P e.1) (fin.entries log))) ≡ passes P (fin.get log det)
  passing_logged log det = grind (arith, any_kept, and_comm, any_logged P det log)

-- `stable_in` ascends
pub stable_ascends : (log : LogMap) → is_ascending (stable_in log) ≡ true
stable_ascends = filter_ascends (λ e. e.1.stable)

-- a determinant is in `stable_in` if and only if it is known to be stable
pub stable_listed : (log : LogMap) (det : Det) → list_any (same_det det) (stable_in log) ≡ (known_of log det).stable
stable_listed log det = grind (arith, passing_logged (λ k. k.stable) log det)

-- `unstable_in` ascends
pub unstable_ascends : (log : LogMap) → is_ascending (unstable_in log) ≡ true
unstable_ascends = filter_ascends (λ e. not e.1.stable)

-- a determinant is in `unstable_in` if and only if it is logged and not known to be stable
pub unstable_listed : (log : LogMap) (det : Det) → list_any (same_det det) (unstable_in log) ≡ (is_some (fin.get log det) && not (known_of log det).stable)
unstable_listed log det = grind (arith, passing_logged (λ k. not k.stable) log det)

-- the two lists together have as many members as the log
pub stable_and_unstable : (log : LogMap) → length (stable_in log) + length (unstable_in log) ≡ fin.len log
stable_and_unstable log = grind (arith, length-map, length-filter_both, fin.len-entries)

-- `after_drop_stable` leaves exactly the determinants of `unstable_in`
pub unmarked_keys : (log : LogMap) → fin.keys (after_drop_stable log) ≡ unstable_in log
unmarked_keys log = ap keys_of (own_entries (filter (λ e. not e.1.stable) (fin.entries log)) (filter_ascends (λ e. not e.1.stable) log))

get_mark : (log : LogMap) (det other : Det) (o : Option Known) → fin.get log det ≡ o → (b : Bool) → same_det other det ≡ b → fin.get (mark log det o) other ≡ cond b (option_map as_stable (fin.get log other)) (fin.get log other)
get_mark log det other None was b is = grind (arith, same_is other det)
get_mark log det other (Some known) was b is = grind (arith, fin.get-insert dets_total log det (as_stable known) other, det_ties other det, same_is other det)

-- a mark changes only the marked entry
pub get_marked : (log : LogMap) (det other : Det) → fin.get (after_mark log det) other ≡ cond (same_det other det) (option_map as_stable (fin.get log other)) (fin.get log other)
get_marked log det other = get_mark log det other (fin.get log det) refl (same_det other det) refl

-- `after_drop_stable` leaves the entries without a mark unchanged
pub get_unmarked : (log : LogMap) (det : Det) → fin.get (after_drop_stable log) det ≡ cond (known_of log det).stable None (fin.get log det)
get_unmarked log det =
    grind (
      arith,
      fin.get-from_entries dets_total (filter (λ e. not e.1.stable) (fin.entries log)) det,
      find_kept (λ k. not k.stable) det (fin.entries log) (shown _ (fin.entries_sorted log)),
      fin.get-entries log det,
    )

-- what is at an index of the log is an entry of it
pub place_shown : (log : LogMap) (i : ℕ) (det : Det) (known : Known) → slice_get (fin.entries log) i ≡ Some (det, known) → fin.get log det ≡ Some known
place_shown log i det known at = fin.get-entries log det ∙ find_lookup (fin.entries log) det ∙ lookup_from_place det_equiv (fin.entries log) i det known (keys_distinct log) at

-- each entry of the log has an index
pub place_found : (log : LogMap) (det : Det) (known : Known) → fin.get log det ≡ Some known → (i : ℕ) × (slice_get (fin.entries log) i ≡ Some (det, known))
place_found log det known is = let at = Contains-from_lookup same_is det known (fin.entries log) (sym (find_lookup (fin.entries log) det) ∙ sym (fin.get-entries log det) ∙ is) in (at.0, slice_get_read _ _ at.0 _ refl at.1 (sym at.2))
