use Rattle.causal_audit.proofs.Common.{◌≡◌, true, subst, contains}
use Rattle.causal_audit.proofs.group.GroupWalk.{held_delivery, held_crash, held_forget}
use Rattle.causal_audit.proofs.group.held_places.note_held.Goals as goal

pub returns-in-Deliver-clause-keeps : goal.returns-in-Deliver-clause-keeps
returns-in-Deliver-clause-keeps c =
    let old = c.args.held.now.items in
    rw c.in-Deliver.is
    (held_delivery c.in-Deliver.to c.in-Deliver.send c.in-Deliver.rsn _ c.args.mentioned old c.put_row.new.rows.items c.put_row.ensures.others
    (λ j h. rw (c.union.ensures, c.set_at-before.ensures, c.deref.ensures.value, c.from.ensures) at (c.put_row.ensures.here j h)))

pub returns-in-Forget-clause-keeps : goal.returns-in-Forget-clause-keeps
returns-in-Forget-clause-keeps c =
    let old = c.args.held.now.items in
    rw c.in-Forget.is
    (held_forget c.in-Forget.who _ c.args.mentioned old c.put_row-in-Forget.new.rows.items c.put_row-in-Forget.ensures.others
    (λ j h. rw (c.minus.ensures, c.set_at-before-in-Forget.ensures, c.deref-in-Forget.ensures.value, c.from-in-Forget.ensures) at (c.put_row-in-Forget.ensures.here j h)))

pub returns-in-Crash-clause-keeps : goal.returns-in-Crash-clause-keeps
returns-in-Crash-clause-keeps c =
    rw c.in-Crash.is
    (λ past j d says. held_crash c.in-Crash.who c.args.held.now.items c.put_row-in-Crash.new.rows.items c.put_row-in-Crash.ensures.others
    (λ k h. subst (λ s. contains s k ≡ true) c.none.ensures (c.put_row-in-Crash.ensures.here k h)) past j d)
