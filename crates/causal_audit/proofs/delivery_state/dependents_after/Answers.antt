use Rattle.causal_audit.proofs.Common.{inl, inr, refl}
use Rattle.causal_audit.proofs.Between.{reached_event, unreached, crashed, restarted}
use Rattle.causal_audit.proofs.delivery_state.dependents_after.Goals as goal

pub returns-then-reached : goal.returns-then-reached
returns-then-reached c n past k formed tells are = rw c.with_member.ensures (reached_event n _ past k formed _ tells _ are _ _ c.in-Send.is refl c.if-reached.true)

pub returns-else-reached : goal.returns-else-reached
returns-else-reached c n past k formed tells are = unreached n _ past k formed _ tells _ are _ c.in-Send.is refl (inr c.if-reached.false)

pub returns-then-reached-2 : goal.returns-then-reached-2
returns-then-reached-2 c n past k formed tells are = rw c.with_member-then-reached-2.ensures (reached_event n _ past k formed _ tells _ are _ _ c.in-Deliver.is refl c.if-reached-2.true)

pub returns-else-reached-2 : goal.returns-else-reached-2
returns-else-reached-2 c n past k formed tells are = unreached n _ past k formed _ tells _ are _ c.in-Deliver.is refl (inr c.if-reached-2.false)

pub returns-in-Crash : goal.returns-in-Crash
returns-in-Crash c n past k formed tells are = rw c.without_member.ensures (crashed n _ past k formed _ tells _ are _ c.in-Crash.is)

pub returns-in-Restart : goal.returns-in-Restart
returns-in-Restart c n past k formed tells are = rw c.without_member-in-Restart.ensures (restarted n _ past k formed _ tells _ are _ _ c.in-Restart.is)

pub returns-in-Stable : goal.returns-in-Stable
returns-in-Stable c n past k formed tells are = unreached n _ past k formed _ tells _ are _ c.in-Stable.is refl (inl refl)

pub returns-in-Forget : goal.returns-in-Forget
returns-in-Forget c n past k formed tells are = unreached n _ past k formed _ tells _ are _ c.in-Forget.is refl (inl refl)
