use Rattle.std.proofs.Common.{arith, subst}
use Rattle.causal_audit.specs.Verdicts.{IsVerdict}
use Rattle.causal_explain.proofs.CauseLemmas.{excess_told, orphan_told}
use Rattle.causal_trace.proofs.Lemmas.AtInstants.{state_at}
use Rattle.causal_explain.proofs.cause.cause_of.Goals as goal

pub returns-in-Exceeded : goal.returns-in-Exceeded
returns-in-Exceeded c f v = grind (arith, state_at, excess_told)

pub returns-in-Orphan : goal.returns-in-Orphan
returns-in-Orphan c f v =
    grind (
      arith,
      state_at,
      orphan_told c.args.trace.now.recording f c.in-Orphan.instant c.in-Orphan.delivery c.in-Orphan.crash c.in-Orphan.orphan c.entries-in-Orphan.ensures.formed.accepted c.new_orphans_law.ensures.newly c.new_orphans_law.ensures.receiver (subst (IsVerdict c.args.trace.now.recording f) c.in-Orphan.is v),
    )
