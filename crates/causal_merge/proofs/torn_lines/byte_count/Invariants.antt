use Rattle.std.proofs.Common.{◌≡◌, ◌≤◌, take}
use Rattle.causal_merge.specs.TornLines.{byte_count}
use Rattle.causal_merge.proofs.torn_lines.byte_count.Given as goal

abbrev pub invariant-loop-other : goal.invariant-loop-other
invariant-loop-other l = (l.count ≡ byte_count l.byte (take l.other-index l.bytes)) × (l.count ≤ l.other-index)
