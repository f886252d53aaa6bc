use Rattle.std.proofs.Common.{◌≡◌, ◌++◌, drop, flat_map, string_bytes}
use Rattle.causal_answers.specs.Findings.{next_process}
use Rattle.causal_answers.proofs.members.push_more_processes.Given as goal

abbrev pub invariant-loop-process : goal.invariant-loop-process
invariant-loop-process l = string_bytes l.fn.out ++ flat_map next_process l.processes ≡ string_bytes l.out ++ flat_map next_process (drop l.process-index l.processes)
