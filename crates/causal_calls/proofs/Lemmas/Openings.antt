-- A node that is opened is in a state that calls reach.
use Rattle.std.proofs.Common.{ℕ, ◌∙◌, ◌==◌, ◌<◌, true, false, Some, None, replicate, refl, sym, subst}
use Rattle.std.specs.Prelude.{if◌then◌else◌}
use Rattle.std.proofs.lemmas.Bool.{both_ways}
use Rattle.std.proofs.lemmas.List.{length-replicate, length-set}
use Rattle.causal_node.specs.declared.node.Identity.{Identity}
use Rattle.causal_node.specs.NodeRecovery.{opened_node}
use Rattle.causal_calls.specs.Views.{IsNodeState, IsRecoveryState}
use Rattle.causal_protocol.proofs.Lemmas.LogMembers.{none_holds, none_entry}
use Rattle.causal_calls.proofs.Lemmas.Numbers.{set_here}

-- a node that is opened
pub opening : (who : Identity) (lane : ℕ) → who.me.0 < who.processes → IsNodeState (opened_node who lane)
opening who lane low = record {
  process = low;
  floors = length-set (replicate who.processes 0) who.me.0 lane ∙ length-replicate who.processes 0;
  own_floor = set_here (replicate who.processes 0) who.me.0 lane (subst (λ m. who.me.0 < m) (sym (length-replicate who.processes 0)) low);
  holders = λ d q h. absurd (both_ways _ (none_holds d q) h);
  own = λ d h. absurd (both_ways _ (none_entry d) h);
  received = λ m. refl;
  recovery = elim (lane == 0) as (λ b. IsRecoveryState who (if b then None else Some None)) [ true ↦ tt | false ↦ tt ];
}
