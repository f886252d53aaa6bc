use Rattle.std.proofs.Common.{◌≡◌, Bool, None, take, vec_len}
use Rattle.std.specs.Prelude.{◌||◌}
use Rattle.causal_name.specs.declared.Det.{Det}
use Rattle.causal_trace.specs.Past.{list_has}
use Rattle.causal_replays.specs.Inside.Rivals.{AreNoted, AreOfSlots}
use Rattle.causal_replays.proofs.rivals.note_dets.Given as goal

-- the determinants so far are noted
abbrev pub invariant-loop-det : goal.invariant-loop-det
invariant-loop-det l = record {
  count : vec_len l.slots ≡ 256;
  of_slots : AreOfSlots l.trace.recording.past l.slots.items;
  noted : (test : Det → Bool) → AreNoted l.trace.recording.past l.copies l.initial.slots.items None test → AreNoted l.trace.recording.past l.copies l.slots.items l.least (λ d. test d || list_has (take l.det-index l.dets) d);
}
