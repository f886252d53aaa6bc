use Rattle.causal_audit.proofs.Common.{◌≡◌, Some, ap, ◌∙◌, arith}
use Rattle.causal_audit.proofs.safety_scan.SurveyAsks.{det_here, own_here, one_determinant}
use Rattle.causal_audit.proofs.safety_scan.open_delivery_search.OpenDeliverySearch.check_determinant.Goals as goal

-- the position is that of a delivery, which has a determinant
pub unreachable-requires : goal.unreachable-requires
unreachable-requires c = grind (arith, det_here _ _ c.self.view_is _ _ _ _ c.self.invariant c.args.number c.requires.few _ c.det_at.ensures)

pub scan_determinant-requires : goal.scan_determinant-requires
scan_determinant-requires c = own_here _ _ c.self.view_is _ _ _ _ c.self.invariant c.args.number c.requires.few _ c.in-Some.det c.det_at.ensures c.in-Some.is

pub is_newest-requires-clause-own : goal.is_newest-requires-clause-own
is_newest-requires-clause-own c = own_here _ _ c.self.view_is _ _ _ _ c.self.invariant c.args.number c.requires.few _ c.in-Some.det c.det_at.ensures c.in-Some.is

pub returns-then-not-is_newest-clause-listed : goal.returns-then-not-is_newest-clause-listed
returns-then-not-is_newest-clause-listed c det newest k early at =
    let same : det ≡ c.in-Some.det =
    one_determinant c.args.self.now det c.in-Some.det c.args.number newest (own_here _ _ c.self.view_is _ _ _ _ c.self.invariant c.args.number c.requires.few _ c.in-Some.det c.det_at.ensures c.in-Some.is) in
    grind (arith, same, newest, c.is_newest.ensures, c.if-not-is_newest.true)

pub returns-clause-listed : goal.returns-clause-listed
returns-clause-listed c det newest k early at =
    let same : det ≡ c.in-Some.det =
    one_determinant c.args.self.now det c.in-Some.det c.args.number newest (own_here _ _ c.self.view_is _ _ _ _ c.self.invariant c.args.number c.requires.few _ c.in-Some.det c.det_at.ensures c.in-Some.is) in
    c.in_ok-check_sharers.ensures.listed k early (at ∙ ap (λ d. Some d) same)
