use Rattle.std.proofs.Common.{drop}
use Rattle.causal_log.specs.Logs.{LogMap, dets_of}
use Rattle.causal_log.specs.Inside.BatchCache.{CacheIsRightBut}
use Rattle.causal_log.proofs.cached_batch.note_items.Given as goal

abbrev pub invariant-loop-item : goal.invariant-loop-item
invariant-loop-item l = (log : LogMap) → CacheIsRightBut (dets_of l.items) l.initial.cached log → CacheIsRightBut (dets_of (drop l.item-index l.items)) l.cached log
