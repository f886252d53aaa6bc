use Rattle.causal_audit.proofs.Common.{◌≡◌, length, take}
use Rattle.std.specs.Prelude.{sum}
use Rattle.causal_audit.specs.Inside.Index.Packed.{AreOccurrences}
use Rattle.causal_audit.proofs.index.mentions.occurrences.Given as goal

-- the numbers so far are counted
abbrev pub invariant-loop-number : goal.invariant-loop-number
invariant-loop-number l = record {
  many : length l.counts.items ≡ l.count;
  each : AreOccurrences l.counts.items (take l.number-index l.numbers);
  total : sum l.counts.items ≡ l.number-index;
}
