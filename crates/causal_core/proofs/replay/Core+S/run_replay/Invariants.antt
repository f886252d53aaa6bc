use Rattle.causal_core.specs.CoreView.{core_state}
use Rattle.causal_core.specs.Replays.{IsReplay}
use Rattle.causal_core.proofs.replay.Core+S.run_replay.Given as goal

abbrev pub invariant-loop-count : goal.invariant-loop-count
invariant-loop-count g l = IsReplay (λ b. (goal.Process-dyn g (b.vtable, b.value)).answers b.value) l.p l.count (core_state l.fn.self) (core_state l.self)
