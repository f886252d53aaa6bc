use Rattle.std.proofs.Common.{◌∙◌, arith}
use Rattle.causal_protocol.specs.declared.request.Request.TheVariants as Requests
use Rattle.causal_protocol.specs.Steps.{reply_of_flush}
use Rattle.causal_protocol.proofs.Lemmas.KeptByType.{step_preserves}
use Rattle.causal_core.proofs.FlushSteps.{flush_may, flush_steps, unwritten_logged}
use Rattle.causal_core.proofs.flush.Core+S.flush.Goals as goal

pub flush_all-requires-clause-process : goal.flush_all-requires-clause-process
flush_all-requires-clause-process g c = grind (arith, flush_may c.args.self.now.run_data.run c.args.p c.in-Ok.ensures.legal)

pub flush_all-requires-clause-up : goal.flush_all-requires-clause-up
flush_all-requires-clause-up g c = grind (arith, flush_may c.args.self.now.run_data.run c.args.p c.in-Ok.ensures.legal)

pub flush_all-requires-clause-logged : goal.flush_all-requires-clause-logged
flush_all-requires-clause-logged g c = grind (arith, unwritten_logged c.args.self.now.run_data.run c.args.p)

pub flush_all-requires-clause-short : goal.flush_all-requires-clause-short
flush_all-requires-clause-short g c = grind (arith, flush_may c.args.self.now.run_data.run c.args.p c.in-Ok.ensures.legal)

pub invariant_of-self-2 : goal.invariant_of-self-2
invariant_of-self-2 g c =
    grind (
      arith,
      step_preserves c.args.self.now.run_data.run c.flush_all.new.run_data.run (Requests.Flush c.args.p) (reply_of_flush c.flush_all.result)
          (flush_steps c.args.self.now.run_data.run c.prepare_flush.new.self.run c.flush_all.new.run_data.run c.args.p _ c.flush_all.result
          c.prepare_flush.ensures.run c.in-Ok.ensures.legal (c.as_slice.ensures.value ∙ c.in-Ok.ensures.dets) c.flush_all.ensures.run
          c.flush_all.ensures.ok c.flush_all.ensures.part c.flush_all.ensures.why)
          c.args.self.now.invariant_holds,
      flush_steps c.args.self.now.run_data.run c.prepare_flush.new.self.run c.flush_all.new.run_data.run c.args.p,
    )
