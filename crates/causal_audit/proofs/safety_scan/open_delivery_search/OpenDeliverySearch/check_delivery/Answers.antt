use Rattle.causal_audit.proofs.Common.{subst}
use Rattle.causal_audit.specs.Inside.Group.OpenDeliveries.{IsListedOrSafe}
use Rattle.causal_audit.proofs.DeliveryNumbers.{numbered_one}
use Rattle.causal_audit.proofs.safety_scan.SurveyAsks.{before_end, det_of_number, legal, numbered_here}
use Rattle.causal_audit.proofs.safety_scan.open_delivery_search.OpenDeliverySearch.check_delivery.Goals as goal

pub collect_if_open-requires : goal.collect_if_open-requires
collect_if_open-requires c = record {
  delivery = det_of_number _ _ (legal _ _ c.self.view_is _ _ _ _ c.self.invariant c.args.number c.requires.few) _ _ c.args.det c.requires.own
      (numbered_here _ _ c.self.view_is _ _ _ _ c.self.invariant c.args.number c.requires.few);
  early = before_end _ _ c.self.view_is _ _ _ _ c.self.invariant c.args.number c.requires.few;
  at_risk = c.requires.at_risk;
}

pub returns-clause-listed : goal.returns-clause-listed
returns-clause-listed c k numbered =
    subst (IsListedOrSafe c.args.self.now c.collect_if_open.new.found.items)
    (numbered_one _ _ _ k (numbered_here _ _ c.self.view_is _ _ _ _ c.self.invariant c.args.number c.requires.few) numbered) c.in_ok-collect_if_open.ensures.listed
