use Rattle.std.proofs.Common.{◌≡◌, ◌≤◌, ◌++◌, ◌∷◌, List, true, drop, length}
use Rattle.causal_name.specs.declared.Det.{Det}
use Rattle.causal_name.specs.Names.{is_ascending}
use Rattle.causal_log.specs.Logs.{log_of, dets_of, AllBefore}
use Rattle.causal_log.specs.Inside.BatchCache.{CarriesBut}
use Rattle.causal_log.proofs.changed_batch.merge_changes.Given as goal

abbrev pub invariant-loop-det : goal.invariant-loop-det
invariant-loop-det l = record {
  within : l.place ≤ length l.kept;
  sorted : is_ascending (drop l.det-index l.changed) ≡ true;
  ascend : is_ascending (dets_of (l.out.items ++ drop l.place l.kept)) ≡ true;
  right : CarriesBut (drop l.det-index l.changed) l.f (log_of l.entries.entries) (l.out.items ++ drop l.place l.kept);
  before : (d : Det) (ds : List Det) → drop l.det-index l.changed ≡ d ∷ ds → AllBefore l.out.items d;
}
