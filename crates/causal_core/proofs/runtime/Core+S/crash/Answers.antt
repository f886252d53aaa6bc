use Rattle.std.proofs.Common.{arith}
use Rattle.std.proofs.lemmas.Grind.{common_steps}
use Rattle.causal_protocol.proofs.Lemmas.KeptByType.{step_preserves}
use Rattle.causal_core.proofs.RunAfterStep.{memories_count, crash_alone, crash_refused, crash_below, crash_filled, crash_stable}
use Rattle.causal_core.proofs.runtime.Core+S.crash.Goals as goal

pub invariant_of-self : goal.invariant_of-self
invariant_of-self g c = grind (arith, crash_refused)

pub returns-in-Err-clause-refused : goal.returns-in-Err-clause-refused
returns-in-Err-clause-refused g c = grind (arith, crash_refused)

pub drop_box-requires : goal.drop_box-requires
drop_box-requires g c = grind (arith, crash_below, memories_count, common_steps)

pub invariant_of-self-2 : goal.invariant_of-self-2
invariant_of-self-2 g c = grind (arith, crash_filled, crash_stable, crash_alone, step_preserves)
