use Rattle.std.proofs.Common.{arith, sym, ◌∙◌}
use Rattle.causal_core.proofs.FlushSteps.{flush_may}
use Rattle.causal_core.proofs.run_data.RunData.prepare_flush.Goals as goal

pub reserve_flush-requires : goal.reserve_flush-requires
reserve_flush-requires c = grind (arith, (flush_may c.args.self.now.run c.args.p (sym c.flush_fault.ensures ∙ c.in_default.is)).2)
