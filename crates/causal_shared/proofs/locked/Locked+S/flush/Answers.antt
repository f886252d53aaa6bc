use Rattle.std.proofs.Common.{rules}
use Rattle.causal_protocol.specs.declared.request.Request.TheVariants as Requests
use Rattle.causal_protocol.specs.Steps.{reply_of_flush}
use Rattle.causal_shared.specs.Locked.{locked_state}
use Rattle.causal_shared.proofs.Answered.{if_err_answered, is_recorded, tells_flush}
use Rattle.causal_shared.proofs.Histories.{count_below}
use Rattle.causal_shared.proofs.locked.Locked+S.flush.Goals as goal

pub returns-clause-item : goal.returns-clause-item
returns-clause-item g c =
    is_recorded (locked_state c.args.self.now) _ c.args.seat c.args.call c.in_ok-first.first c.reserve_item.new.history.items _ (Requests.Flush c.args.p) c.of_flush.result (reply_of_flush c.flush-answer.result) _
    (tells_flush c.flush-answer.result c.from_flush_result.result c.from_flush_result.ensures) c.of_flush.ensures c.flush-answer.ensures.step c.in_ok-first.ensures.first c.reserve_item.ensures.items c.append_item.ensures.history c.append_item.ensures.seats (search rules)

pub returns-clause-fault : goal.returns-clause-fault
returns-clause-fault g c = if_err_answered _ _ _ c.flush-answer.result c.from_flush_result.result c.from_flush_result.ensures (λ e p. p) c.flush-answer.ensures.fault

pub append_item-requires-clause-call : goal.append_item-requires-clause-call
append_item-requires-clause-call g c = count_below _ _ _ _ _ c.args.self.now.is_consistent c.requires.0 c.requires.1 c.requires.2
