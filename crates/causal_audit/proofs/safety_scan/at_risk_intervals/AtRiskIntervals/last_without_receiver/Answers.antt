use Rattle.causal_audit.proofs.Common.{◌≡◌, ◌<◌, ◌≤◌, ◌-◌, length, get_or, true, false, sym, subst, arith, rules, IsPartitionPoint, IsPartitionedBy, leb-true, leb-false, IsPartitionPoint-from_clause, IsPartitionedBy-leb}
use Rattle.std.proofs.Math.Dec.{leb}
use Rattle.causal_audit.specs.declared.safety_scan.det_safety.SafetyInterval.{SafetyInterval}
use Rattle.causal_audit.proofs.safety_scan.LookFindings.{none_before, last_before}
use Rattle.causal_audit.proofs.safety_scan.at_risk_intervals.AtRiskIntervals.last_without_receiver.Goals as goal

pub returns-then-passed-eq0-clause-last : goal.returns-then-passed-eq0-clause-last
returns-then-passed-eq0-clause-last c rising u low one =
    let xs = c.args.self.now.without_receiver.items in
    let b = c.args.bound in
    let passed = c.partition_point-passed.result in
    let point : IsPartitionPoint (λ (s : SafetyInterval). leb s.first b ≡ true) (λ (s : SafetyInterval). leb s.first b ≡ false) xs passed =
    subst (λ l. IsPartitionPoint (λ (s : SafetyInterval). leb s.first b ≡ true) (λ (s : SafetyInterval). leb s.first b ≡ false) l passed) c.deref.ensures.value
    (IsPartitionPoint-from_clause (λ (s : SafetyInterval). leb s.first b) c.deref.result.now passed c.partition_point-passed.ensures.partitioned
    (subst (λ l. IsPartitionedBy (λ (s : SafetyInterval). leb s.first b) l) (sym c.deref.ensures.value) (IsPartitionedBy-leb (λ (s : SafetyInterval). s.first) xs b rising.firsts)) (λ a r f' k. search rules)) in
    absurd (none_before xs b passed
    (λ i v below high. leb-true (get_or xs i v).first b (point.0 i v below high), λ i v below high. leb-false (get_or xs i v).first b (point.1 i v below high))
    c.if-passed-eq0.true u low one)

pub returns-clause-last : goal.returns-clause-last
returns-clause-last c rising u low one =
    let xs = c.args.self.now.without_receiver.items in
    let b = c.args.bound in
    let passed = c.partition_point-passed.result in
    let point : IsPartitionPoint (λ (s : SafetyInterval). leb s.first b ≡ true) (λ (s : SafetyInterval). leb s.first b ≡ false) xs passed =
    subst (λ l. IsPartitionPoint (λ (s : SafetyInterval). leb s.first b ≡ true) (λ (s : SafetyInterval). leb s.first b ≡ false) l passed) c.deref.ensures.value
    (IsPartitionPoint-from_clause (λ (s : SafetyInterval). leb s.first b) c.deref.result.now passed c.partition_point-passed.ensures.partitioned
    (subst (λ l. IsPartitionedBy (λ (s : SafetyInterval). leb s.first b) l) (sym c.deref.ensures.value) (IsPartitionedBy-leb (λ (s : SafetyInterval). s.first) xs b rising.firsts)) (λ a r f' k. search rules)) in
    let inside : passed ≤ length xs = subst (λ l. passed ≤ length l) c.deref.ensures.value c.partition_point-passed.ensures.bound in
    let there : passed - 1 < length xs = omega (arith, inside, c.if-passed-eq0.false) in
    omega (
      arith,
      last_before xs b passed
          (λ i v below high. leb-true (get_or xs i v).first b (point.0 i v below high), λ i v below high. leb-false (get_or xs i v).first b (point.1 i v below high))
          rising (omega (arith, c.if-passed-eq0.false)) inside c.index.result.now c.index.ensures u low one,
      c.min.ensures,
    )
