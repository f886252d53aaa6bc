-- The number of determinants that a restart lists: those of the store, and of each log those that neither the store nor
-- an earlier log has.
use Rattle.std.proofs.Common.{ℕ, ◌≡◌, ◌+◌, ◌∙◌, true, false, not, List, [], ◌∷◌, ◌++◌, filter, length, count_by, Some, None, is_some, refl, ap, arith}
use Rattle.std.specs.Prelude.{◌||◌}
use Rattle.std.specs.List.{list_any}
use Rattle.std.specs.FinMap as fin
use Rattle.std.proofs.lemmas.List.Sums.{length-filter}
use Rattle.causal_name.specs.declared.Pid.{Pid}
use Rattle.causal_name.specs.declared.Det.{Det}
use Rattle.causal_name.specs.Names.{det_cmp, same_det, is_ascending}
use Rattle.causal_name.proofs.Lemmas.DetOrder.{dets_total, exact_dets, same_itself}
use Rattle.causal_log.specs.Logs.{LogMap, after_learn}
use Rattle.causal_log.specs.Knowledge.{held_by, stable_and_held_by}
use Rattle.causal_log.specs.Stores.{DetSet, with_det, set_has, count_in}
use Rattle.causal_log.proofs.Lemmas.Searches.{or_nothing, before_apart}
use Rattle.causal_log.proofs.Lemmas.Ascents.{ascending_tail, first_before, map_ascends}
use Rattle.causal_log.proofs.Lemmas.KnowledgeGrows.{get_learned, united_logged}
use Rattle.causal_log.proofs.Lemmas.LogLists.{keys_logged}
use Rattle.causal_log.proofs.Lemmas.StoreSets.{listed, stored}
use Rattle.causal_protocol.specs.Memory.{Memory, Memories}
use Rattle.causal_protocol.specs.Gathering.{with_logs_of, with_held, with_stored, restart_log}
use Rattle.causal_core.specs.Inside.Gathers.{is_logged}
use Rattle.causal_core.proofs.RunAfterStep.{same_unit}

-- the union of all logs has a determinant exactly if one of the logs has it
united_has : (ms : Memories) (log : LogMap) (d : Det) → is_some (fin.get (with_logs_of ms log) d) ≡ (is_some (fin.get log d) || is_logged ms d)
unfolding with_logs_of
united_has [] log d = grind arith
united_has (each ∷ others) log d = grind (arith, united_has others, united_logged)

held_has : (ds : List Det) (p : Pid) (log : LogMap) (d : Det) → is_some (fin.get (with_held ds p log) d) ≡ (is_some (fin.get log d) || list_any (same_det d) ds)
unfolding with_held
held_has [] p log d = or_nothing (is_some (fin.get log d))
held_has (x ∷ ds) p log d = grind (arith, held_has ds p (after_learn log x (held_by p)) d, get_learned log x (held_by p) d)

stable_has : (ds : List Det) (p : Pid) (log : LogMap) (d : Det) → is_some (fin.get (with_stored ds p log) d) ≡ (is_some (fin.get log d) || list_any (same_det d) ds)
unfolding with_stored
stable_has [] p log d = or_nothing (is_some (fin.get log d))
stable_has (x ∷ ds) p log d = grind (arith, stable_has ds p (after_learn log x (stable_and_held_by p)) d, get_learned log x (stable_and_held_by p) d)

-- the gathered log has a determinant exactly if the store or a log has it
pub gathered_has : (ms : Memories) (stored : DetSet) (p : Pid) (d : Det) → is_some (fin.get (restart_log ms stored p) d) ≡ (set_has stored d || is_logged ms d)
gathered_has ms stored p d = grind (arith, united_has, fin.get-empty, stable_has, held_has, keys_logged, listed)

-- a set with these members added
abbrev with_all : List Det → DetSet → DetSet
with_all [] s = s
with_all (d ∷ ds) s = with_det (with_all ds s) d

all_have : (ds : List Det) (s : DetSet) (d : Det) → set_has (with_all ds s) d ≡ (set_has s d || list_any (same_det d) ds)
all_have [] s d = or_nothing (set_has s d)
all_have (x ∷ ds) s d = grind (arith, all_have ds s d, stored)

-- the first of an ascending list is listed once
once : (d : Det) (ds : List Det) → is_ascending (d ∷ ds) ≡ true → list_any (same_det d) ds ≡ false
once d ds h = grind (arith, first_before d ds d, before_apart d d, same_itself d)

-- adding a list to a set adds as many members as the list has that are not in the set
all_count : (ds : List Det) (s : DetSet) → is_ascending ds ≡ true → count_in (with_all ds s) ≡ count_in s + length (filter (λ d. not (set_has s d)) ds)
all_count [] s h = omega arith
all_count (d ∷ ds) s h = grind (arith, all_count ds s (ascending_tail d ds h), all_have ds s d, once d ds h, fin.len-insert, dets_total)

all_new : (ds : List Det) → filter (λ d. not (set_has fin.empty d)) ds ≡ ds
all_new [] = refl
all_new (d ∷ ds) = grind (arith, all_new ds, fin.get-empty)

-- a set with the determinants of these logs added
abbrev everything : Memories → DetSet → DetSet
everything [] s = s
everything (None ∷ ms) s = everything ms s
everything (Some m ∷ ms) s = everything ms (with_all (fin.keys m.log) s)

every_has : (ms : Memories) (s : DetSet) (d : Det) → set_has (everything ms s) d ≡ (set_has s d || is_logged ms d)
every_has [] s d = grind arith
every_has (each ∷ others) s d = grind (arith, every_has others, all_have, keys_logged)

every_last : (ms : Memories) (m : Memory) (s : DetSet) → everything (ms ++ Some m ∷ []) s ≡ with_all (fin.keys m.log) (everything ms s)
every_last [] m s = grind arith
every_last (each ∷ others) m s = grind (arith, every_last others)

-- a down process adds none
pub every_down : (ms : Memories) (s : DetSet) → everything (ms ++ None ∷ []) s ≡ everything ms s
every_down [] s = grind arith
every_down (each ∷ others) s = grind (arith, every_down others)

-- the number of determinants in a set and these logs
abbrev pub count_all : Memories → DetSet → ℕ
count_all ms s = count_in (everything ms s)

-- one more log adds the determinants that neither the set nor an earlier log has
pub count_more : (ms : Memories) (m : Memory) (s : DetSet) → count_all (ms ++ Some m ∷ []) s ≡ count_all ms s + count_by (λ d. not (set_has s d || is_logged ms d)) (fin.keys m.log)
count_more ms m s = grind (arith, every_last, all_count, map_ascends, every_has, length-filter)

-- the number of determinants in the store and the logs is that of a restart's list
pub count_gathered : (ms : Memories) (s : DetSet) (p : Pid) → count_all ms s ≡ length (fin.keys (restart_log ms s p))
count_gathered ms s p =
    let ds = fin.keys (restart_log ms s p) in
    let new = all_count ds fin.empty (map_ascends (restart_log ms s p)) in
    let whole = ap length (all_new ds) in
    ap count_in (fin.same_map dets_total exact_dets (everything ms s) (with_all ds fin.empty) (λ d. same_unit _ _ (grind (arith, every_has ms s d, all_have, gathered_has, keys_logged, fin.get-empty))))
    ∙ omega (arith, new, whole, fin.len-empty det_cmp (Unit {0}))
