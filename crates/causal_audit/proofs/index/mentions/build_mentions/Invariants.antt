use Rattle.causal_audit.proofs.Common.{◌≡◌, List, Det, drop, length, past_at}
use Rattle.std.specs.List.{flat_map}
use Rattle.causal_trace.specs.Past.{mentioned_dets}
use Rattle.causal_audit.specs.Inside.Index.Lists.{AreMentions, AreNumbersOf}
use Rattle.causal_audit.specs.Inside.Index.Packed.{HaveCapacityFor}
use Rattle.causal_audit.proofs.index.mentions.build_mentions.Given as goal

-- the lists are correct for the entries so far, and the numbers left are those of the other entries
abbrev pub invariant-loop-i : goal.invariant-loop-i
invariant-loop-i l = record {
  many : length l.builder.lists ≡ l.among;
  spare : HaveCapacityFor l.builder l.rest;
  kept : (delivered : List Det) → AreNumbersOf l.among delivered (flat_map mentioned_dets l.entries) l.numbers → AreMentions (past_at l.entries l.i) delivered l.builder.lists;
  left : (delivered : List Det) → AreNumbersOf l.among delivered (flat_map mentioned_dets l.entries) l.numbers → AreNumbersOf l.among delivered (flat_map mentioned_dets (drop l.i l.entries)) l.rest;
}
