use Rattle.causal_audit.proofs.Common.{inr, arith}
use Rattle.causal_audit.specs.declared.group.walk_input.OpenDelivery.{OpenDelivery}
use Rattle.causal_audit.proofs.safety_scan.SurveyAsks.{no_more, newly_told, one_more_listed}
use Rattle.causal_audit.proofs.safety_scan.open_delivery_search.OpenDeliverySearch.collect_if_open.Goals as goal

pub returns-then-until-eq0-clause-more : goal.returns-then-until-eq0-clause-more
returns-then-until-eq0-clause-more c = no_more c.args.self.now c.args.found.now.items

pub returns-then-until-eq0-clause-listed : goal.returns-then-until-eq0-clause-listed
returns-then-until-eq0-clause-listed c = inr (λ t within. c.open_until-until.ensures t (omega (arith, c.if-until-eq0.true)) within)

pub returns-clause-more : goal.returns-clause-more
returns-clause-more c =
    let delivery : OpenDelivery = record { position = c.args.k; until = c.open_until-until.result } in
    rw c.in_ok-push.ensures.items (one_more_listed c.args.self.now c.args.found.now.items delivery (c.args.det, c.requires.delivery) c.open_until-until.ensures)

pub returns-clause-listed : goal.returns-clause-listed
returns-clause-listed c =
    let delivery : OpenDelivery = record { position = c.args.k; until = c.open_until-until.result } in
    rw c.in_ok-push.ensures.items (newly_told c.args.self.now c.args.found.now.items delivery)
