use Rattle.std.proofs.Common.{◌≡◌, length, map, take}
use Rattle.causal_run.specs.Runs.{spares_in}
use Rattle.causal_run.specs.ScriptProcesses.{script_processes_below}
use Rattle.causal_run.proofs.Objects.{value_of}
use Rattle.causal_run.proofs.script_run.pending_before.Given as goal

abbrev pub invariant-loop-me : goal.invariant-loop-me
invariant-loop-me g l = map (λ b. value_of b) l.boxes.items ≡ script_processes_below l.script.kind l.script.n l.script.param l.me

abbrev pub invariant-loop-command : goal.invariant-loop-command
invariant-loop-command g l = length l.spares.items ≡ spares_in (take l.command-index l.commands)
