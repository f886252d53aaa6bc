use Rattle.std.proofs.Common.{length, subst}
use Rattle.causal_audit.specs.Parts.{EarliestOf}
use Rattle.causal_audit.proofs.Lemmas.Parts.{whole}
use Rattle.causal_workers.proofs.parallel_audit.run_shares.Goals as goal

pub returns-clause-least : goal.returns-clause-least
returns-clause-least g c =
    let all = c.args.prepared.now in
    subst (λ followed. EarliestOf followed c.in_ok-least.least) (whole all c.share_end.ensures.lengths)
    (c.in_ok-least.ensures all (length all.positions) (c.share_end.result, c.judge-first.ensures.found, c.if-not-start_workers.ensures.shares))
