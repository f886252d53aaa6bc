use Rattle.causal_audit.proofs.Common.{◌≡◌, length, subst, arith, past_at, past_length, past_more}
use Rattle.causal_audit.specs.Inside.Index.RunIndexes.{IsTransitionIndex}
use Rattle.causal_audit.proofs.index.transitions.Transitions.of.Goals as goal

pub loop-i-preserved : goal.loop-i-preserved
loop-i-preserved c =
    let past = past_at c.args.entries.now c.loop-i.i in
    rw (past_more c.args.entries.now c.loop-i.i c.index-entries-i.result c.loop-i-test.true c.index-entries-i.is)
    (c.in_ok-note.ensures past (past_length c.args.entries.now c.loop-i.i (omega (arith, c.loop-i-test.true))) c.loop-i.invariant)

pub build-requires : goal.build-requires
build-requires c = (past_at c.args.entries.now c.loop-i.i, c.loop-i.invariant)

pub returns : goal.returns
returns c =
    let all : c.loop-i.i ≡ length c.args.entries.now = omega (arith, c.loop-i-test.false, c.loop-i.auto.i-end) in
    subst (λ n. IsTransitionIndex (past_at c.args.entries.now n) c.build.result) all (c.build.ensures (past_at c.args.entries.now c.loop-i.i) c.loop-i.invariant)
