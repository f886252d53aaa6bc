use Rattle.causal_audit.proofs.Common.{arith, map-set, get_or-map}
use Rattle.causal_audit.proofs.index.lists.push_to_list.Goals as goal

pub returns-clause-added : goal.returns-clause-added
returns-clause-added c = grind (arith, get_or-map, map-set)
