use Rattle.std.proofs.Common.{arith}
use Rattle.std.proofs.lemmas.List.{reverse-reverse}
use Rattle.causal_trace.proofs.ReceiptChains.{leads_on, chain_ends}
use Rattle.causal_trace.proofs.chains.Chains.is_newest_in.Goals as goal
use Rattle.causal_trace.proofs.chains.Chains.is_newest_in.Goals.{In-Some, After-index}

pub returns-then-eq : goal.returns-then-eq
returns-then-eq c = grind (arith, reverse-reverse c.self.inside.nodes.items, leads_on c.args.self.now.nodes)

pub loop-place-smaller : goal.loop-place-smaller
loop-place-smaller c = grind (arith, reverse-reverse c.self.inside.nodes.items, leads_on c.args.self.now.nodes)

pub loop-place-preserved : goal.loop-place-preserved
loop-place-preserved c = grind (arith, reverse-reverse c.self.inside.nodes.items, leads_on c.args.self.now.nodes)

pub returns : goal.returns
returns c = grind (arith, chain_ends)
