use Rattle.std.proofs.Common.{◌≡◌, ◌≤◌, ℕ, None, vec_len}
use Rattle.causal_trace.specs.Past.{instant, deliveries_in}
use Rattle.causal_trace.specs.Survivors.{survives, SlotsAreSingle}
use Rattle.causal_replays.specs.Inside.Copies.{AreSized, IsCopyTable}
use Rattle.causal_replays.specs.Inside.Rivals.{AreNoted}
use Rattle.causal_replays.proofs.replays.stray_in.Given as goal

-- the copies are those of this instant, all survivors are in their slots, and no slot was shared so far
abbrev pub invariant-loop-t : goal.invariant-loop-t
invariant-loop-t l = record {
  sized : AreSized (deliveries_in l.trace.recording.past) l.copies;
  count : vec_len l.slots ≡ 256;
  copied : IsCopyTable l.trace.recording.past (instant l.trace.recording.past l.t) l.copies;
  noted : AreNoted l.trace.recording.past l.copies l.slots.items None (survives l.trace.recording.processes (instant l.trace.recording.past l.t));
  earlier : (u : ℕ) → u ≤ l.t → SlotsAreSingle l.trace.recording.processes (instant l.trace.recording.past u);
}
