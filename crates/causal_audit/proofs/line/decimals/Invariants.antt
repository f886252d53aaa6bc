use Rattle.std.proofs.Common.{◌≡◌, ◌++◌, map, string_bytes}
use Rattle.std.specs.Fmt.{decimal}
use Rattle.causal_holders.specs.Members.{ascending}
use Rattle.causal_audit.proofs.line.decimals.Given as goal

abbrev pub invariant-loop-process : goal.invariant-loop-process
invariant-loop-process l = map string_bytes l.numbers.items ++ map decimal (ascending l.process-iterator) ≡ map decimal (ascending l.fn.processes)
