use Rattle.std.proofs.Common.{◌+◌, subst, sym, arith}
use Rattle.causal_audit.specs.Breaches.{FirstExcess}
use Rattle.causal_audit.specs.Verdicts.{IsVerdict}
use Rattle.causal_audit.proofs.VerdictLemmas.{accepted, exceeded, few_before, few_ever, found_breach, no_orphan_by, no_orphan_before, orphaned}
use Rattle.causal_audit.proofs.clock_audit.decide_verdict.Goals as goal

pub returns-in-None-None : goal.returns-in-None-None
returns-in-None-None c r f excess least = accepted r f (rw (c.in-None-None.is-0, c.in-None-None.is-1) at least) (rw c.in-None-None.is-0 at excess)

pub returns-in-Some-None : goal.returns-in-Some-None
returns-in-Some-None c r f excess least =
    let both = c.in-Some-None in
    rw c.exceeded_verdict.ensures (exceeded r f both.x (rw both.is-0 at excess) (no_orphan_by r f both.x.instant (rw (both.is-0, both.is-1) at least) both.x.instant (omega arith)))

pub returns-then-x-b : goal.returns-then-x-b
returns-then-x-b c r f excess least =
    let both = c.in-Some-Some in
    let one = found_breach r f c.args.excess c.args.breach both.b both.is-1 least in
    let first = subst (FirstExcess r f) both.is-0 excess in
    subst (IsVerdict r f) (sym c.exceeded_verdict-then-x-b.ensures) (exceeded r f both.x first (no_orphan_before r f both.b one both.x.instant c.if-x-b.true))

pub returns-in-None-Some : goal.returns-in-None-Some
returns-in-None-Some c r f excess least =
    let both = c.in-None-Some in
    let one = found_breach r f c.args.excess c.args.breach both.b both.is-1 least in
    let none = subst (FirstExcess r f) both.is-0 excess in
    subst (IsVerdict r f) (sym c.orphan_verdict.ensures) (orphaned r f both.b one (few_ever r f none (both.b.instant + 1)))

pub returns-else-x-b : goal.returns-else-x-b
returns-else-x-b c r f excess least =
    let both = c.in-Some-Some in
    let one = found_breach r f c.args.excess c.args.breach both.b both.is-1 least in
    let first = subst (FirstExcess r f) both.is-0 excess in
    subst (IsVerdict r f) (sym c.orphan_verdict-else-x-b.ensures) (orphaned r f both.b one (few_before r f both.x first (both.b.instant + 1) (omega (arith, c.if-x-b.false))))
