use Rattle.std.proofs.Common.{rules}
use Rattle.causal_core.specs.Restarts.{refused_fault}
use Rattle.causal_protocol.specs.declared.request.Request.TheVariants as Requests
use Rattle.causal_protocol.specs.Steps.{reply_of_restart}
use Rattle.causal_shared.specs.Locked.{locked_state}
use Rattle.causal_shared.proofs.Answered.{err_answered, if_err_answered, is_recorded, ok_answered, tells_restart}
use Rattle.causal_shared.proofs.Histories.{count_below}
use Rattle.causal_shared.proofs.locked.Locked+S.restart.Goals as goal

pub returns-clause-item : goal.returns-clause-item
returns-clause-item g c =
    is_recorded (locked_state c.args.self.now) _ c.args.seat c.args.call c.in-Ok.first c.reserve_item.new.history.items _ (Requests.Restart c.args.p) c.restart_reply.result (reply_of_restart refused_fault c.restart-answer.result) _
    (tells_restart c.restart-answer.result c.from_restart_result.result c.from_restart_result.ensures) c.restart_reply.ensures c.restart-answer.ensures.step c.in-Ok.ensures.first c.reserve_item.ensures.items c.append_item.ensures.history c.append_item.ensures.seats (search rules)

pub returns-clause-ok : goal.returns-clause-ok
returns-clause-ok g c = ok_answered _ _ c.restart-answer.result c.from_restart_result.result c.from_restart_result.ensures c.restart-answer.ensures.ok

pub returns-clause-refused : goal.returns-clause-refused
returns-clause-refused g c = err_answered _ _ c.restart-answer.result c.from_restart_result.result c.from_restart_result.ensures c.restart-answer.ensures.refused

pub returns-clause-spare : goal.returns-clause-spare
returns-clause-spare g c = if_err_answered _ _ _ c.restart-answer.result c.from_restart_result.result c.from_restart_result.ensures (λ e p. p) c.restart-answer.ensures.spare

pub append_item-requires-clause-call : goal.append_item-requires-clause-call
append_item-requires-clause-call g c = count_below _ _ _ _ _ c.args.self.now.is_consistent c.requires.0 c.requires.1 c.requires.2
