use Rattle.causal_audit.proofs.Common.{take}
use Rattle.std.specs.List.{flat_map}
use Rattle.causal_trace.specs.Numbers.{delivered_dets}
use Rattle.causal_trace.specs.Past.{mentioned_dets}
use Rattle.causal_audit.specs.Inside.Index.Lists.{AreNumbersOf}
use Rattle.causal_audit.proofs.index.mentions.numbers_of.Given as goal

-- the numbers of the entries so far
abbrev pub invariant-loop-entry : goal.invariant-loop-entry
invariant-loop-entry l = AreNumbersOf l.among (delivered_dets l.trace.recording.past) (flat_map mentioned_dets (take l.entry-index l.entries)) l.numbers.items
