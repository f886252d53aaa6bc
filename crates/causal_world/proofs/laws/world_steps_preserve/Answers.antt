use Rattle.causal_world.proofs.Worlds.{world_steps_preserve}
use Rattle.causal_world.proofs.laws.world_steps_preserve.Goals as goal

pub returns : goal.returns
returns c = record { preserved = world_steps_preserve }
