use Rattle.std.proofs.Common.{◌∙◌, sym}
use Rattle.causal_shared.specs.Locked.{locked_state}
use Rattle.causal_shared.specs.Inside.CountingCalls.{reply_of, request_of}
use Rattle.causal_shared.proofs.Seats.{called, never_full, not_wrong, section_heard}
use Rattle.causal_shared.proofs.seat.task_locked.Goals as goal

pub returns-clause-section : goal.returns-clause-section
returns-clause-section g c =
    section_heard (reply_of c.args.task) (locked_state c.args.locked.now) (locked_state c.perform-answer.new.locked) c.args.seat.now.view c.begin_call.new.seat c.record_reply.new.seat (request_of c.args.task c.args.p) c.request.result c.perform-answer.result c.to_shared_result.result c.count_item_reply.result c.number.result c.count.result c.in_ok-first.first
    c.record_reply.ensures c.in_ok-first.ensures.ok c.perform-answer.ensures c.number.ensures c.count.ensures c.request.ensures c.count_item_reply.ensures c.to_shared_result.ensures c.begin_call.ensures.view

pub returns-clause-no_record : goal.returns-clause-no_record
returns-clause-no_record g c = λ _. c.in_ok-first.ensures.ok.room

pub returns-clause-wrong : goal.returns-clause-wrong
returns-clause-wrong g c = not_wrong c.perform-answer.result c.to_shared_result.result c.begin_call.result c.in_ok-first.first _ c.to_shared_result.ensures c.in_ok-first.was c.begin_call.ensures.wrong

pub returns-clause-full : goal.returns-clause-full
returns-clause-full g c = λ e. absurd (never_full c.perform-answer.result (sym c.to_shared_result.ensures ∙ e))

pub perform-answer-requires : goal.perform-answer-requires
perform-answer-requires g c = called (locked_state c.args.locked.now) c.begin_call.new.seat c.in_ok-first.first c.number.result c.count.result c.in_ok-first.ensures.ok c.number.ensures c.count.ensures
