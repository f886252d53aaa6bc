use Rattle.std.proofs.Common.{◌≡◌, List, ◌++◌, length, reverse}
use Rattle.std.specs.Vec.Iter.{into_iter_items, into_iter_len}
use Rattle.causal_merge.specs.declared.event.EventAtLine.{EventAtLine}
use Rattle.causal_merge.specs.Inside.Merger.{HasMerged}
use Rattle.causal_merge.proofs.merger.merge_events.Given as goal

-- the events so far are merged; the others are left in the iterator
abbrev pub invariant-loop-placed : goal.invariant-loop-placed
invariant-loop-placed l = record {
  left : into_iter_len l.placed-iterator ≡ length (into_iter_items l.placed-iterator);
  so_far : (before : List EventAtLine) × (into_iter_items l.initial.placed-iterator ≡ reverse before ++ into_iter_items l.placed-iterator) × HasMerged l.limits.entries l.merger before;
  processes : l.merger.trace.recording.processes ≡ l.processes;
}
