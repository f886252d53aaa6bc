use Rattle.std.proofs.Common.{arith}
use Rattle.causal_replays.proofs.HolderLemmas.{holder_found}
use Rattle.causal_replays.proofs.holdings.has_holder.Goals as goal

pub returns : goal.returns
returns c = rw c.is_some.ensures (holder_found c.args.holders.now.items c.args.number c.index.result.now c.least.result (grind (arith, c.requires)) c.index.ensures c.least.ensures)
