use Rattle.causal_holders.proofs.Order.{ascending-members, ascending-rises, length-ascending}
use Rattle.causal_holders.proofs.laws.ascending_law.Goals as goal

pub returns : goal.returns
returns c = record { members = ascending-members; rising = ascending-rises; counted = length-ascending }
