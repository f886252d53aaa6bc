use Rattle.causal_audit.proofs.Common.{ℕ, ◌≡◌, ◌++◌, List, length, take, drop, Det, Entry}
use Rattle.causal_audit.specs.Inside.Index.Lists.{AreMentions, AreMentionsWith, AreNumbersOf}
use Rattle.causal_audit.specs.Inside.Index.Packed.{HaveCapacityFor}
use Rattle.causal_audit.proofs.index.mentions.note.Given as goal

-- the lists of the determinants so far contain the entry's position
abbrev pub invariant-loop-number : goal.invariant-loop-number
invariant-loop-number l = record {
  count : length l.builder.lists ≡ length l.fn.builder.lists;
  spare : (rest : List ℕ) → HaveCapacityFor l.fn.builder (l.numbers ++ rest) → HaveCapacityFor l.builder (drop l.number-index l.numbers ++ rest);
  noted : (past : List Entry) (delivered dets : List Det) → length past ≡ l.i → AreNumbersOf (length l.fn.builder.lists) delivered dets l.numbers → AreMentions past delivered l.fn.builder.lists → AreMentionsWith past (take l.number-index dets) delivered l.builder.lists;
}
