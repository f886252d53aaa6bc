use Rattle.std.proofs.Common.{ℕ, ◌<◌, ◌≤◌, length, get_or, arith}
use Rattle.causal_audit.proofs.Steps.{entry_read}
use Rattle.causal_audit.proofs.index.DownAfterTurns.{left_above, none_restarts, passed_one_more}
use Rattle.causal_audit.proofs.index.transitions.Transitions.next_in_between.Goals as goal
use Rattle.causal_audit.proofs.index.transitions.Transitions.next_in_between.Goals.{In-Some}

pub loop-position-preserved : goal.loop-position-preserved
loop-position-preserved c = grind (arith, passed_one_more, entry_read)

-- no transition that is left is before the next one
left : (c : In-Some) (i v : ℕ) → c.loop-position.passed ≤ i → i < length c.args.self.now.positions.items → c.in-Some.position.now ≤ get_or c.args.self.now.positions.items i v
left c i v ahead inside =
    left_above c.args.trace.now.recording.past c.args.self.now.positions.items c.args.self.now.downs.items c.requires.transitions.turned c.args.members c.args.from c.loop-position.passed c.loop-position.invariant.none c.in-Some.position.now
    (rw c.deref.ensures.value at c.in-Some.ensures.lookup.3.0) (rw c.deref.ensures.value at (c.in-Some.ensures.lookup.3.1 c.in-Some.position.now)) i v ahead inside

pub returns-then-position-end-clause-none : goal.returns-then-position-end-clause-none
returns-then-position-end-clause-none c =
    none_restarts _ _ _ c.requires.transitions.turned _ _ _ c.loop-position.invariant.none c.args.end
    (λ i v ahead inside. omega (arith, left (goal.at.returns-then-position-end-clause-none c).In-Some i v ahead inside, c.if-position-end.true))

pub returns-then-restarts_one-clause-none : goal.returns-then-restarts_one-clause-none
returns-then-restarts_one-clause-none c = none_restarts _ _ _ c.requires.transitions.turned _ _ _ c.loop-position.invariant.none _ (left (goal.at.returns-then-restarts_one-clause-none c).In-Some)

pub returns-clause-none : goal.returns-clause-none
returns-clause-none c =
    let beyond : length c.args.self.now.positions.items ≤ c.loop-position.passed = rw c.deref.ensures.value at c.in_default.ensures.lookup.3 in
    none_restarts _ _ _ c.requires.transitions.turned _ _ _ c.loop-position.invariant.none c.args.end (λ i v ahead inside. absurd (omega (arith, ahead, inside, beyond)))
