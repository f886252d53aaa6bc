use Rattle.std.proofs.Common.{arith}
use Rattle.std.proofs.lemmas.List.{reverse-reverse}
use Rattle.causal_trace.proofs.ReceiptChains.{leads_on}
use Rattle.causal_trace.proofs.DeliveryPlaces.{place_on}
use Rattle.causal_trace.proofs.chains.Chains.find_from.Goals as goal

pub returns-then-is_of_first : goal.returns-then-is_of_first
returns-then-is_of_first c = grind (arith, reverse-reverse c.self.inside.nodes.items, place_on c.args.among c.args.det c.args.self.now.nodes, leads_on c.args.self.now.nodes)

pub loop-place-smaller : goal.loop-place-smaller
loop-place-smaller c = grind (arith, reverse-reverse c.self.inside.nodes.items, place_on c.args.among c.args.det c.args.self.now.nodes, leads_on c.args.self.now.nodes)

pub loop-place-preserved : goal.loop-place-preserved
loop-place-preserved c = grind (arith, reverse-reverse c.self.inside.nodes.items, place_on c.args.among c.args.det c.args.self.now.nodes, leads_on c.args.self.now.nodes)
