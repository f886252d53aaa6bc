use Rattle.std.proofs.Common.{◌∙◌, sym}
use Rattle.causal_protocol.specs.declared.request.Request.TheVariants as Requests
use Rattle.causal_core.proofs.MemoriesFit.{tells_reason}
use Rattle.causal_core.proofs.RuntimeRestart.{none_listed}
use Rattle.causal_core.proofs.run_data.RunData.prepare_restart.Goals as goal

pub returns-in-Some-clause-refused : goal.returns-in-Some-clause-refused
returns-in-Some-clause-refused g c = tells_reason c.args.self.now.run (Requests.Restart c.args.p) c.in-Some.fault (none_listed c.args.self.now.run c.args.p c.in-Some.fault (sym c.listing_fault.ensures ∙ c.in-Some.is))
