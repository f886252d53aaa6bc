use Rattle.std.proofs.Common.{drop, arith}
use Rattle.causal_log.specs.Logs.{log_of}
use Rattle.causal_log.proofs.MergeLemmas.{back, dets_append, looked_up, looked_up_ascends, before_next}
use Rattle.causal_log.proofs.changed_batch.merge_change.Goals as goal

pub first_after-requires-clause-ascending : goal.first_after-requires-clause-ascending
first_after-requires-clause-ascending c = grind (arith, back, dets_append c.copy_before.new.out.items (drop c.in_ok-next.next c.args.kept.now))

pub returns-clause-ascending : goal.returns-clause-ascending
returns-clause-ascending c =
    rw c.in_ok-push_if_open.ensures (looked_up_ascends c.args.f (log_of c.args.entries.now.entries) c.args.det c.copy_before.new.out.items (drop c.in_ok-next.next c.args.kept.now) _ c.in_ok-next.ensures.before c.first_after.ensures.after _)

pub returns-clause-right : goal.returns-clause-right
returns-clause-right c = λ others right.
    rw c.in_ok-push_if_open.ensures
    (looked_up c.args.f (log_of c.args.entries.now.entries) c.args.det c.copy_before.new.out.items (drop c.in_ok-next.next c.args.kept.now) _ c.in_ok-next.ensures.before c.first_after.ensures.after c.first_after.ensures.elsewhere others
    (rw c.in_ok-next.ensures.same right))

pub returns-clause-before : goal.returns-clause-before
returns-clause-before c = λ d low.
    rw c.in_ok-push_if_open.ensures
    (before_next c.args.f (log_of c.args.entries.now.entries) c.args.det c.copy_before.new.out.items (drop c.in_ok-next.next c.args.kept.now) _ c.in_ok-next.ensures.before c.first_after.ensures.after _ d low)
