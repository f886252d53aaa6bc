-- Each legal step preserves the invariant.
use Rattle.causal_steps.specs.Steps.{silent, sends, delivers, crashes, restarts, writes, forgets, EachStepPreserves}
use Rattle.causal_steps.proofs.SendPreserves.{send_preserves}
use Rattle.causal_steps.proofs.SilentPreserves.{silent_preserves}
use Rattle.causal_steps.proofs.StablePreserves.{stable_preserves}
use Rattle.causal_steps.proofs.ForgetPreserves.{forget_preserves}
use Rattle.causal_steps.proofs.CrashPreserves.{crash_preserves}
use Rattle.causal_steps.proofs.RestartPreserves.{restart_preserves}
use Rattle.causal_steps.proofs.DeliverPreserves.{delivery_preserves}

pub step_preserves : EachStepPreserves
step_preserves n f past next v w (silent s) forward k = silent_preserves n f past v w k s
step_preserves n f past next v w (sends from to ssn new s) forward k = send_preserves n f past v w from to ssn new s forward k
step_preserves n f past next v w (delivers to send rsn listed s) forward k = delivery_preserves n f past v w to send rsn listed s forward k
step_preserves n f past next v w (crashes who s) forward k = crash_preserves n f past v w who s forward k
step_preserves n f past next v w (restarts who listed s) forward k = restart_preserves n f past v w who listed s forward k
step_preserves n f past next v w (writes det s) forward k = stable_preserves n f past v w det s forward k
step_preserves n f past next v w (forgets who listed s) forward k = forget_preserves n f past v w who listed s forward k
