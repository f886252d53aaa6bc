use Rattle.std.proofs.Common.{◌∙◌, refl, sym}
use Rattle.causal_protocol.specs.declared.request.Request.TheVariants as Requests
use Rattle.causal_protocol.specs.declared.request.Reply.TheVariants as Replies
use Rattle.causal_shared.specs.Locked.{locked_state}
use Rattle.causal_shared.proofs.Seats.{called, never_full, not_wrong, section_heard}
use Rattle.causal_shared.proofs.seat.deliver_locked.Goals as goal

pub returns-clause-section : goal.returns-clause-section
returns-clause-section g c =
    section_heard Replies.Delivered (locked_state c.args.locked.now) (locked_state c.deliver-answer.new.self) c.args.seat.now.view c.begin_call.new.seat c.record_reply.new.seat (Requests.Deliver c.args.q c.args.source c.args.ssn) _ c.deliver-answer.result c.to_shared_result.result c.delivery_item_reply.result c.number.result c.count.result c.in_ok-first.first
    c.record_reply.ensures c.in_ok-first.ensures.ok c.deliver-answer.ensures.item c.number.ensures c.count.ensures refl c.delivery_item_reply.ensures c.to_shared_result.ensures c.begin_call.ensures.view

pub returns-clause-no_record : goal.returns-clause-no_record
returns-clause-no_record g c = λ _. c.in_ok-first.ensures.ok.room

pub returns-clause-wrong : goal.returns-clause-wrong
returns-clause-wrong g c = not_wrong c.deliver-answer.result c.to_shared_result.result c.begin_call.result c.in_ok-first.first _ c.to_shared_result.ensures c.in_ok-first.was c.begin_call.ensures.wrong

pub returns-clause-full : goal.returns-clause-full
returns-clause-full g c = λ e. absurd (never_full c.deliver-answer.result (sym c.to_shared_result.ensures ∙ e))

pub deliver-answer-requires : goal.deliver-answer-requires
deliver-answer-requires g c = called (locked_state c.args.locked.now) c.begin_call.new.seat c.in_ok-first.first c.number.result c.count.result c.in_ok-first.ensures.ok c.number.ensures c.count.ensures
