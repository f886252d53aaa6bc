use Rattle.causal_core.specs.CoreView.{core_run}
use Rattle.causal_driver.specs.Inside.Turns.{HaveMade}
use Rattle.causal_driver.proofs.driver.drive.Given as goal

abbrev pub invariant-loop-made : goal.invariant-loop-made
invariant-loop-made g l = HaveMade l.fn.schedule l.word l.made l.calls.items (core_run l.fn.core) (core_run l.core)
