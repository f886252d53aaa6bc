use Rattle.std.proofs.Common.{◌≡◌, ◌++◌, ◌-◌, flat_map}
use Rattle.std.specs.List.{range_with_len}
use Rattle.causal_core.specs.CoreView.{core_run}
use Rattle.causal_driver.specs.Options.{moves_of, moves}
use Rattle.causal_driver.proofs.options.moves.Given as goal

abbrev pub invariant-loop-p : goal.invariant-loop-p
invariant-loop-p g l = moves (core_run l.core) ≡ l.found.items ++ flat_map (moves_of (core_run l.core)) (range_with_len l.p (l.p-end - l.p))
