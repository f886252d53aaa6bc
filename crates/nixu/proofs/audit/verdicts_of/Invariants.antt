use Rattle.std.proofs.Common.{◌≡◌, take, length}
use Rattle.nixu.specs.VerdictArrays.{AreVerdictStructs}
use Rattle.nixu.proofs.audit.verdicts_of.Given as goal

-- the verdicts so far are written
abbrev pub invariant-loop-faults : goal.invariant-loop-faults
invariant-loop-faults l = record {
  verdict : AreVerdictStructs l.trace.recording (take l.faults-index l.faults) l.summaries.items;
  count : length l.summaries.items ≡ l.faults-index;
}
