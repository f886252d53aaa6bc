use Rattle.std.proofs.Common.{arith}
use Rattle.std.specs.Map.{keys_of}
use Rattle.causal_log.specs.Stores.{set_of, dets_in}
use Rattle.causal_log.proofs.Lemmas.Ascents.{map_ascends}
use Rattle.causal_log.proofs.Lemmas.StoreSets.{has_list, listed}
use Rattle.causal_log.proofs.PlaceLemmas.{least_first}
use Rattle.causal_log.proofs.memory.MemStableStable.least_of.Goals as goal

pub returns : goal.returns
returns c =
    let dets = keys_of c.self.inside.members.entries in
    grind (arith, least_first c.args.slot.dest c.args.slot.rsn dets (dets_in (set_of dets)) c.least_of.result (map_ascends (set_of dets)), has_list dets, listed (set_of dets))
