use Rattle.causal_audit.proofs.Common.{◌∙◌, not, ap, subst, nat_cmp_total, contains, contains-difference, and_from}
use Rattle.std.proofs.lemmas.Bool.{not_from_false}
use Rattle.causal_audit.specs.Inside.Group.Walk.{IsSuspect}
use Rattle.causal_audit.proofs.group.suspects.suspect_places.Goals as goal
use Rattle.std.proofs.Common.{arith}

pub returns-in-Deliver : goal.returns-in-Deliver
returns-in-Deliver c j s = grind (arith, contains-difference, not_from_false)

pub returns-in-Restart : goal.returns-in-Restart
returns-in-Restart c j s =
    let step = c.args.step.now in
    let told = subst (λ e. IsSuspect e step.newly step.mentioned c.args.present.now c.args.held.now c.args.processes j) c.in-Restart.is s in
    ap (λ s. contains s j) c.minus-in-Restart.ensures ∙ contains-difference nat_cmp_total c.lacking_places.result step.mentioned j
    ∙ and_from (contains c.lacking_places.result j) (not (contains step.mentioned j)) (c.lacking_places.ensures j told.1) (not_from_false (contains step.mentioned j) told.0)
