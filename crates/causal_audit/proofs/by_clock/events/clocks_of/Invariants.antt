use Rattle.causal_audit.proofs.Common.{◌≡◌, instant, entries_of}
use Rattle.causal_audit.specs.Inside.ByClock.ClockOfRun.{IsClockWithLanes}
use Rattle.causal_audit.proofs.by_clock.events.clocks_of.Given as goal

abbrev pub invariant-loop-entry : goal.invariant-loop-entry
invariant-loop-entry l = record {
  items : l.entry-items ≡ entries_of l.trace.recording;
  mirrors : IsClockWithLanes l.trace.recording.processes (instant l.trace.recording.past l.entry-index) l.clocks l.present.items;
}
