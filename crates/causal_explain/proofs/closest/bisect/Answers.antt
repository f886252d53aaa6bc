use Rattle.std.proofs.Common.{arith}
use Rattle.causal_explain.proofs.RangeLemmas.{none_fewer}
use Rattle.causal_explain.proofs.closest.bisect.Goals as goal

pub loop-low-init : goal.loop-low-init
loop-low-init c = record { small = omega (arith, c.from-low.ensures); none = rw c.from-low.ensures c.requires.none; fails = c.requires.fails }

pub returns : goal.returns
returns c =
    let found = c.loop-low.invariant in
    record {
      least = rw c.faults_of.ensures found.fails.least;
      fewer = λ f low. none_fewer c.args.trace.now.recording f c.loop-low.low (omega (arith, low, c.faults_of.ensures, c.len.ensures.counted, c.loop-low-test.false)) found.none;
    }
