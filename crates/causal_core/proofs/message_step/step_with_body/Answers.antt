use Rattle.causal_core.proofs.message_step.step_with_body.Goals as goal

pub returns-clause-given : goal.returns-clause-given
returns-clause-given g c = rw (← c.replace-lent.ensures.value) c.step_box-sends.ensures

pub returns-clause-body : goal.returns-clause-body
returns-clause-body g c = cc (c.in-Message.is, c.replace-lent.ensures.value)
