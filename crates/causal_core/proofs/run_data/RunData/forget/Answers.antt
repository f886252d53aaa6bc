use Rattle.std.proofs.Common.{◌∙◌, [], refl, sym}
use Rattle.causal_protocol.specs.Steps.{LegalStep}
use Rattle.causal_protocol.specs.declared.request.Request.TheVariants as Requests
use Rattle.causal_core.proofs.MemoriesFit.{tells_reason}
use Rattle.causal_core.proofs.run_data.RunData.forget.Goals as goal

pub returns-in-Some-clause-step : goal.returns-in-Some-clause-step
unfolding LegalStep
returns-in-Some-clause-step c = record {
  appended = [];
  grown = refl;
  legal = (tells_reason c.args.self.now.run (Requests.Forget c.args.p) c.in-Some.fault (sym c.forget_fault.ensures ∙ c.in-Some.is), refl);
}
