use Rattle.causal_audit.proofs.delivery_state.DeliveryState.apply_entry.Goals as goal

pub returns : goal.returns
returns c n past k d formed told tells state = record {
  down = c.down_after.ensures past state.down;
  holders = c.holders_after.ensures d past told state.holders;
  stable = c.stable_after.ensures past d told state.stable;
  dependents = c.dependents_after.ensures n past k formed tells state.dependents;
}
