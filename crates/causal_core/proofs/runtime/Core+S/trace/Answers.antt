use Rattle.std.proofs.Common.{sym, subst}
use Rattle.causal_trace.specs.Judgement.{IsSafeTrace}
use Rattle.causal_protocol.proofs.Lemmas.KeptByType.{invariant_safe}
use Rattle.causal_core.proofs.runtime.Core+S.trace.Goals as goal

pub returns-clause-safe : goal.returns-clause-safe
returns-clause-safe g c = subst (λ r. IsSafeTrace r c.args.self.now.run_data.run.faults) (sym c.trace.ensures) (invariant_safe c.args.self.now.run_data.run c.args.self.now.invariant_holds)
