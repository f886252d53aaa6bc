use Rattle.std.proofs.Common.{◌∙◌, sym, ap}
use Rattle.std.specs.Prelude.{Ok}
use Rattle.causal_core.specs.CoreView.{core_state}
use Rattle.causal_core.proofs.ReplayDeliveries.{redelivered}
use Rattle.causal_core.proofs.replay.Core+S.deliver_named.Goals as goal

pub returns-in-Ok-clause-ok : goal.returns-in-Ok-clause-ok
returns-in-Ok-clause-ok g c =
    redelivered _ c.args.p c.in-Ok-Some.name c.in-Ok.delivered (core_state c.args.self.now) (core_state c.deliver.new.self) (sym c.named.ensures ∙ c.in-Ok-Some.is ∙ ap Ok c.in-Ok-Some.field-0-is) c.in-Ok.ensures.step c.in-Ok.ensures.ok
