use Rattle.std.proofs.Common.{◌≡◌, ◌++◌}
use Rattle.causal_holders.specs.Members.{ascending}
use Rattle.causal_wire.specs.Bytes.{others_bytes}
use Rattle.causal_wire.proofs.writing.put_others.Given as goal

abbrev pub invariant-loop-other : goal.invariant-loop-other
invariant-loop-other l = l.out.items ++ ascending l.other-iterator ≡ l.fn.out.items ++ others_bytes l.fn.others
