use Rattle.std.proofs.Common.{drop}
use Rattle.std.specs.Map.{keys_of}
use Rattle.causal_log.specs.Logs.{LogMap}
use Rattle.causal_log.specs.Inside.BatchCache.{CacheIsRightBut}
use Rattle.causal_log.proofs.cached_batch.note_entries.Given as goal

abbrev pub invariant-loop-det : goal.invariant-loop-det
invariant-loop-det l = (log : LogMap) → CacheIsRightBut (keys_of l.entries) l.initial.cached log → CacheIsRightBut (keys_of (drop l.det-index l.entries)) l.cached log
