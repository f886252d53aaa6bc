use Rattle.causal_audit.proofs.Common.{refl, arith}
use Rattle.causal_audit.proofs.safety_scan.LookSteps.{passed_to, written, onward_stop, over}
use Rattle.causal_audit.proofs.safety_scan.SafetyScan.next.Goals as goal

pub returns-then-last-self-clause-passed : goal.returns-then-last-self-clause-passed
returns-then-last-self-clause-passed c =
    passed_to _ _ _ _ c.entries-entries.ensures.formed.accepted (c.requires (omega (arith, c.if-scan_position-self.false)))
    c.next-mention.ensures.bounds c.next_change-last.ensures.bounds c.next-mention.ensures.none c.next_change-last.ensures.kept
    _ _ refl refl refl (omega (arith, c.next-mention.ensures.bounds, c.next_change-last.ensures.bounds)) (omega arith) (λ u above under. absurd (omega (arith, above, under, c.if-last-self.true)))

pub returns-then-writes_det-clause-passed : goal.returns-then-writes_det-clause-passed
returns-then-writes_det-clause-passed c =
    passed_to _ _ _ _ c.entries-entries.ensures.formed.accepted (c.requires (omega (arith, c.if-scan_position-self.false)))
    c.next-mention.ensures.bounds c.next_change-last.ensures.bounds c.next-mention.ensures.none c.next_change-last.ensures.kept
    _ _ refl refl refl (omega (arith, c.next-mention.ensures.bounds, c.next_change-last.ensures.bounds)) (omega arith)
    (written _ _ _ _ c.entries-entries.ensures.formed.accepted (c.requires (omega (arith, c.if-scan_position-self.false)))
    c.next-mention.ensures.bounds c.next_change-last.ensures.bounds c.next-mention.ensures.none c.next_change-last.ensures.kept
    _ c.entries-entries.ensures.value _ c.index-entries-last.is c.if-last-self.false (c.writes_det.ensures c.if-writes_det.true))

pub returns-then-is_safe-clause-passed : goal.returns-then-is_safe-clause-passed
returns-then-is_safe-clause-passed c =
    passed_to _ _ _ _ c.entries-entries.ensures.formed.accepted (c.requires (omega (arith, c.if-scan_position-self.false)))
    c.next-mention.ensures.bounds c.next_change-last.ensures.bounds c.next-mention.ensures.none c.next_change-last.ensures.kept
    _ _ refl refl refl (omega (arith, c.next-mention.ensures.bounds, c.next_change-last.ensures.bounds)) (omega arith)
    (over _ _ _ _ c.entries-entries.ensures.formed.accepted (c.requires (omega (arith, c.if-scan_position-self.false)))
    c.next-mention.ensures.bounds c.next_change-last.ensures.bounds c.next-mention.ensures.none c.next_change-last.ensures.kept
    _ c.entries-entries.ensures.value _ c.index-entries-last.is c.if-last-self.false
    _ c.next-mention.ensures.cursor c.next-mention.ensures.found _ c.next_change-last.ensures.passed _ c.down.ensures _ c.apply_entry.ensures.down (c.apply_entry.ensures.holders c.args.self.now.det) c.if-lasting.true
    (rw (c.is_safe.ensures c.if-is_safe.true) at c.safety_after-scan_position.ensures))

pub returns-clause-scan_position : goal.returns-clause-scan_position
returns-clause-scan_position c later =
    onward_stop _ _ _ _ c.entries-entries.ensures.formed.accepted (c.requires (omega (arith, c.if-scan_position-self.false)))
    c.next-mention.ensures.bounds c.next_change-last.ensures.bounds c.next-mention.ensures.none c.next_change-last.ensures.kept
    _ c.entries-entries.ensures.value _ c.index-entries-last.is c.if-last-self.false _ c.next-mention.ensures.cursor c.next-mention.ensures.found _ c.next_change-last.ensures.passed _ c.down.ensures
    _ c.apply_entry.ensures.down (c.apply_entry.ensures.holders c.args.self.now.det) _ refl refl refl refl c.safety_after-scan_position.ensures

pub returns-clause-passed : goal.returns-clause-passed
returns-clause-passed c =
    passed_to _ _ _ _ c.entries-entries.ensures.formed.accepted (c.requires (omega (arith, c.if-scan_position-self.false)))
    c.next-mention.ensures.bounds c.next_change-last.ensures.bounds c.next-mention.ensures.none c.next_change-last.ensures.kept
    _ _ refl refl refl (omega arith) (omega (arith, c.next-mention.ensures.bounds, c.next_change-last.ensures.bounds, c.if-last-self.false)) (λ u above under. absurd (omega (arith, above, under)))

pub returns-then-last-self-clause-scan_position : goal.returns-then-last-self-clause-scan_position
returns-then-last-self-clause-scan_position c early = absurd (omega (arith, early))

pub returns-then-writes_det-clause-scan_position : goal.returns-then-writes_det-clause-scan_position
returns-then-writes_det-clause-scan_position c early = absurd (omega (arith, early))

pub returns-then-is_safe-clause-scan_position : goal.returns-then-is_safe-clause-scan_position
returns-then-is_safe-clause-scan_position c early = absurd (omega (arith, early))

pub next_change-last-requires-clause-scan_position : goal.next_change-last-requires-clause-scan_position
next_change-last-requires-clause-scan_position c = c.requires (omega (arith, c.if-scan_position-self.false))
