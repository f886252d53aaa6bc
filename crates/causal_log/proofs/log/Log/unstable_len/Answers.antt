use Rattle.std.proofs.Common.{arith, not}
use Rattle.std.proofs.lemmas.List.{length-map}
use Rattle.causal_log.proofs.PlaceLemmas.{same_count}
use Rattle.causal_log.proofs.log.Log.unstable_len.Goals as goal

pub returns : goal.returns
returns c = grind (arith, same_count c.self.inside.entries.entries c.entries.ensures.distinct (λ known. not known.stable), length-map)
