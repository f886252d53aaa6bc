use Rattle.std.proofs.Common.{arith}
use Rattle.causal_log.proofs.MergeLemmas.{found_chosen}
use Rattle.causal_log.proofs.log.Log.cache_batch.Goals as goal

pub invariant_of-self : goal.invariant_of-self
invariant_of-self c = record { ascending = c.self.invariant.ascending; carries = λ q none. grind (arith, found_chosen) }
