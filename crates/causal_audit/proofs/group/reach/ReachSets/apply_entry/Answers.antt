use Rattle.causal_audit.proofs.Common.{◌∙◌, sym, arith, refl}
use Rattle.causal_audit.proofs.group.GroupReach.{sent, passed, crashed, restarted, delivered}
use Rattle.causal_trace.proofs.Lemmas.RunProcesses.{deliver_inside}
use Rattle.causal_audit.proofs.group.reach.ReachSets.apply_entry.Goals as goal

pub returns-in_ok-set_row-in-Send-clause-sees : goal.returns-in_ok-set_row-in-Send-clause-sees
returns-in_ok-set_row-in-Send-clause-sees c =
    rw c.in-Send.is (λ n past k j d few formed long at is_own told.
    rw (c.none.ensures, c.in_ok-set_row-in-Send.ensures, c.set_at-places.ensures, c.deref.ensures.value, c.from.ensures)
    (sent n past _ k j _ _ told d _ _ _ c.args.t formed long c.requires.row.row (λ is. at (is ∙ long))))

pub returns-in-Deliver-clause-sees : goal.returns-in-Deliver-clause-sees
returns-in-Deliver-clause-sees c =
    let self = c.args.self.now in
    rw c.in-Deliver.is (λ n past k j d few formed long at is_own told.
    rw (c.minus.ensures, c.union-reached.ensures, c.union.ensures, c.set_at-before.ensures, c.deref-in-Deliver.ensures.value, c.from-in-Deliver.ensures, c.from-in-Deliver-2.ensures)
    (delivered n past _ k j _ _ told _ _ _ _ formed c.args.own (λ h. is_own.0 h ∙ sym long, λ is. is_own.1 (is ∙ long)) c.reaching_places-brought.result
    (λ from to ssn event. c.reaching_places-brought.ensures n past k j from to ssn formed.0 told event)
    (omega (arith, c.requires.row.present, few, deliver_inside n past _ _ _ _ formed.1))))

pub returns-in-Crash-clause-sees : goal.returns-in-Crash-clause-sees
returns-in-Crash-clause-sees c =
    rw c.in-Crash.is (λ n past k j d few formed long at is_own told.
    rw (c.none-in-Crash-2.ensures, c.none-in-Crash.ensures, c.from-in-Crash.ensures)
    (crashed n past _ k j _ _ told _ (omega (arith, few, c.requires.row.present)) formed))

pub returns-in-Restart-clause-sees : goal.returns-in-Restart-clause-sees
returns-in-Restart-clause-sees c =
    rw c.in-Restart.is (λ n past k j d few formed long at is_own told.
    rw (c.none-in-Restart-2.ensures, c.none-in-Restart.ensures, c.from-in-Restart.ensures)
    (restarted n past _ k j _ _ told _ _ (omega (arith, few, c.requires.row.present)) formed))

pub returns-in-Stable-clause-sees : goal.returns-in-Stable-clause-sees
returns-in-Stable-clause-sees c =
    rw c.in-Stable.is (λ n past k j d few formed long at is_own told.
    rw c.none-in-Stable.ensures (passed n past _ k j _ _ told _ formed refl refl refl))

pub returns-in-Forget-clause-sees : goal.returns-in-Forget-clause-sees
returns-in-Forget-clause-sees c =
    rw c.in-Forget.is (λ n past k j d few formed long at is_own told.
    rw c.none-in-Forget.ensures (passed n past _ k j _ _ told _ formed refl refl refl))
