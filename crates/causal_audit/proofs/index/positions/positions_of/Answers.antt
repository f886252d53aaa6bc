use Rattle.causal_audit.proofs.Common.{◌≡◌, length, refl, subst, arith, past_at, past_length, past_more}
use Rattle.causal_audit.specs.Numbers.{ArePositions}
use Rattle.causal_audit.proofs.index.positions.positions_of.Goals as goal

pub loop-i-init : goal.loop-i-init
loop-i-init c = rw c.new-positions.ensures.items (record { count = refl; each = λ i low. absurd (omega (arith, low)) })

pub loop-i-preserved : goal.loop-i-preserved
loop-i-preserved c =
    let past = past_at c.args.entries.now c.loop-i.i in
    rw (past_more c.args.entries.now c.loop-i.i c.index-entries-i.result c.loop-i-test.true c.index-entries-i.is)
    (c.in_ok-note.ensures past (past_length c.args.entries.now c.loop-i.i (omega (arith, c.loop-i-test.true))) c.loop-i.invariant)

pub returns : goal.returns
returns c =
    let all : c.loop-i.i ≡ length c.args.entries.now = omega (arith, c.loop-i-test.false, c.loop-i.auto.i-end) in
    subst (λ n. ArePositions (past_at c.args.entries.now n) c.loop-i.positions.items) all c.loop-i.invariant
