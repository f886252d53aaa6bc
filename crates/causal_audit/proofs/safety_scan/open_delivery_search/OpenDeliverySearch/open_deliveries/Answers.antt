use Rattle.causal_audit.proofs.Common.{◌≡◌, ◌+◌, ◌-◌, sym, subst, arith, All-nil}
use Rattle.causal_audit.specs.Inside.Group.OpenDeliveries.{AreOpenBetween}
use Rattle.causal_audit.proofs.safety_scan.SurveyAsks.{one_more_number}
use Rattle.causal_audit.proofs.safety_scan.open_delivery_search.OpenDeliverySearch.open_deliveries.Goals as goal

pub loop-number-init : goal.loop-number-init
loop-number-init c =
    let scope = c.args.self.now in
    record { high = omega arith; searched = subst (AreOpenBetween scope c.args.to c.args.to) (sym c.new-found.ensures.items) (grind (arith, All-nil, c.requires.within)) }

pub loop-number-preserved : goal.loop-number-preserved
loop-number-preserved c =
    let scope = c.args.self.now in
    let number = c.loop-number.number - 1 in
    let found = c.loop-number.found.items in
    let was = c.loop-number.invariant in
    let next : c.loop-number.number ≡ number + 1 = omega (arith, c.loop-number-test.true) in
    record {
      high = omega (arith, was.high);
      searched = one_more_number scope number c.args.to found c.check_determinant.new.found.items c.in_ok-check_determinant.ensures.more c.in_ok-check_determinant.ensures.listed
          (subst (λ n. AreOpenBetween scope n c.args.to found) next was.searched);
    }
