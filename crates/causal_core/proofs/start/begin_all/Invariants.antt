use Rattle.std.proofs.Common.{length}
use Rattle.causal_core.specs.Inside.Begins.{HaveBegun}
use Rattle.causal_core.proofs.start.begin_all.Given as goal

abbrev pub invariant-loop-process : goal.invariant-loop-process
invariant-loop-process g l = HaveBegun (λ b. (goal.Process-dyn g (b.vtable, b.value)).answers b.value) (length l.fn.boxes.items) l.fn.run_data.run.faults l.yielded l.slots.items l.run_data
