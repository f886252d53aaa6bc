use Rattle.std.proofs.Common.{◌≡◌, ◌∙◌, ap, sym}
use Rattle.causal_protocol.specs.Refusals.{request_fault}
use Rattle.causal_protocol.specs.declared.request.Request.TheVariants as Requests
use Rattle.causal_core.specs.Inside.Gathers.{listing_fault}
use Rattle.causal_core.proofs.MemoriesFit.{tells_reason}
use Rattle.causal_core.proofs.RuntimeRestart.{log_lists}
use Rattle.causal_core.proofs.run_data.RunData.checked_restart_plan.Goals as goal
use Rattle.causal_core.proofs.run_data.RunData.checked_restart_plan.Goals.{After-listing_fault}

fault_is : (c : After-listing_fault) → request_fault c.args.self.now.run (Requests.Restart c.args.p) ≡ c.listing_fault.result
fault_is c = sym (log_lists c.args.self.now.run c.args.p c.args.log.map c.requires) ∙ ap (listing_fault c.args.self.now.run c.args.p) (sym c.len.ensures.value) ∙ sym c.listing_fault.ensures

pub returns-in-Some-clause-refused : goal.returns-in-Some-clause-refused
returns-in-Some-clause-refused c =
    tells_reason c.args.self.now.run (Requests.Restart c.args.p) c.in-Some.fault (fault_is (goal.at.returns-in-Some-clause-refused c).After-listing_fault ∙ c.in-Some.is)

pub returns-in-Ok-clause-legal : goal.returns-in-Ok-clause-legal
returns-in-Ok-clause-legal c = fault_is (goal.at.returns-in-Ok-clause-legal c).After-listing_fault ∙ c.in_default.is

pub returns-in-Err-clause-refused : goal.returns-in-Err-clause-refused
returns-in-Err-clause-refused c = fault_is (goal.at.returns-in-Err-clause-refused c).After-listing_fault ∙ c.in_default.is
