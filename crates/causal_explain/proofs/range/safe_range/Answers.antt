use Rattle.std.proofs.Common.{arith}
use Rattle.causal_explain.proofs.RangeLemmas.{range_never, range_to, orphan_of_breach, orphan_unless}
use Rattle.causal_explain.proofs.range.safe_range.Goals as goal

pub returns-in-Never : goal.returns-in-Never
returns-in-Never c = grind (arith, range_never)

pub returns-in-At : goal.returns-in-At
returns-in-At c =
    let r = c.args.trace.now.recording in
    let from = c.most_down-from.result in
    let leaves = rw c.in-At.is at c.in_ok-closest_failure-in-Accept.ensures.safe in
    let first = rw c.in-At.is at c.in_ok-closest_failure-in-Accept.ensures.closest in
    range_to r from c.in-At.faults c.most_down-from.ensures.fewer (orphan_of_breach r c.in-At.faults _ first.least) (λ g more below. (leaves.1 g more).1 below)

pub returns-in_default : goal.returns-in_default
returns-in_default c = grind (arith, range_to, orphan_unless)
