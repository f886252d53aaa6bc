use Rattle.causal_audit.proofs.Exposure.{state_begun}
use Rattle.causal_audit.proofs.delivery_state.DeliveryState.begin.Goals as goal

pub returns : goal.returns
returns c past k d shown none = rw (c.none.ensures, c.none-2.ensures) (state_begun past k d c.args.down shown none)
