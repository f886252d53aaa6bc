use Rattle.std.proofs.Common.{ℕ, ◌≤◌, refl, subst, arith}
use Rattle.causal_audit.specs.declared.safety_scan.det_safety.DetSafety.TheVariants.{Safe}
use Rattle.causal_audit.specs.Inside.SafetyScan.Scans.{RulesOut}
use Rattle.causal_audit.proofs.safety_scan.LookFindings.{none_more, one_more}
use Rattle.causal_audit.proofs.safety_scan.at_risk_intervals.AtRiskIntervals.note.Goals as goal

pub returns-in-Safe-clause-at_risk : goal.returns-in-Safe-clause-at_risk
returns-in-Safe-clause-at_risk c look t next passed found =
    let r = look.run.trace.now.recording in
    let none : (u : ℕ) → t ≤ u → u ≤ c.args.stretch.last → RulesOut Safe r.processes look.limit r.past look.det u = λ u above below.
    subst (λ s. RulesOut s r.processes look.limit r.past look.det u) c.in-Safe.is (passed.stands u above below) in
    none_more look t next c.args.stretch passed c.args.self.now c.args.self.now refl found refl (omega arith) (omega (arith, found.bound, passed.order, passed.last))
    (λ u _ above below thin. absurd (none u above below thin)) (λ u _ above below without_receiver. none u above below without_receiver.thin)

pub returns-in-AtRisk-clause-at_risk : goal.returns-in-AtRisk-clause-at_risk
returns-in-AtRisk-clause-at_risk c look t next passed found =
    let r = look.run.trace.now.recording in
    none_more look t next c.args.stretch passed c.args.self.now _ refl found refl (omega (arith, found.bound, passed.order)) (omega (arith, passed.last))
    (λ u _ above below thin. below) (λ u _ above below without_receiver. subst (λ s. RulesOut s r.processes look.limit r.past look.det u) c.in-AtRisk.is (passed.stands u above below) without_receiver)

pub returns-in_ok-push-in-AtRiskWithoutReceiver-clause-at_risk : goal.returns-in_ok-push-in-AtRiskWithoutReceiver-clause-at_risk
returns-in_ok-push-in-AtRiskWithoutReceiver-clause-at_risk c look t next passed found =
    one_more look t next c.args.stretch passed c.args.self.now _ refl found c.in_ok-push-in-AtRiskWithoutReceiver.ensures.items refl
