use Rattle.causal_world.proofs.Lemmas.ReachableWorlds.{worlds_are_safe, worlds_share_no_slot}
use Rattle.causal_world.proofs.laws.worlds_are_safe.Goals as goal

pub returns : goal.returns
returns c = record { safe = worlds_are_safe; single = worlds_share_no_slot }
