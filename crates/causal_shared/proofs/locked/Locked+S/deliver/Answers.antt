use Rattle.std.proofs.Common.{refl, rules}
use Rattle.causal_core.specs.CoreView.{core_run}
use Rattle.causal_protocol.specs.declared.request.Reply.TheVariants as Replies
use Rattle.causal_protocol.specs.declared.request.Request.TheVariants as Requests
use Rattle.causal_protocol.specs.Steps.{reply_of_delivery}
use Rattle.causal_shared.specs.History.{history_item}
use Rattle.causal_shared.specs.Locked.{locked_state}
use Rattle.causal_shared.proofs.Histories.{count_below, shows_delivery}
use Rattle.causal_shared.proofs.Answered.{err_answered, is_recorded, keeps_on, ok_answered, tells}
use Rattle.causal_shared.proofs.locked.Locked+S.deliver.Goals as goal

pub invariant_of-self-2-clause-is_consistent : goal.invariant_of-self-2-clause-is_consistent
invariant_of-self-2-clause-is_consistent g c =
    let old = core_run c.args.self.now.core in
    let new = core_run c.deliver-answer.new.self in
    let item = history_item c.args.seat c.args.call (Requests.Deliver c.args.q c.args.source c.args.ssn) c.of_delivery.result c.in_ok-first.first in
    keeps_on old new item (reply_of_delivery c.deliver-answer.result) c.args.self.now.history.items c.reserve_item.new.history.items _ c.args.self.now.seats.items _
    c.append_item.ensures.is_consistent c.reserve_item.ensures.items c.args.self.now.is_consistent c.of_delivery.ensures c.deliver-answer.ensures.step c.in_ok-first.ensures.first c.requires.1
    (shows_delivery old new c.args.q c.args.source c.args.ssn c.deliver-answer.result item c.deliver-answer.ensures.step c.deliver-answer.ensures.det c.of_delivery.ensures c.in_ok-first.ensures.first)

pub returns-clause-item : goal.returns-clause-item
returns-clause-item g c =
    is_recorded (locked_state c.args.self.now) _ c.args.seat c.args.call c.in_ok-first.first c.reserve_item.new.history.items _ (Requests.Deliver c.args.q c.args.source c.args.ssn) c.of_delivery.result (reply_of_delivery c.deliver-answer.result) _
    (tells Replies.Delivered reply_of_delivery (λ x. refl) (λ f. refl) c.deliver-answer.result c.from_core_result.result c.from_core_result.ensures) c.of_delivery.ensures c.deliver-answer.ensures.step c.in_ok-first.ensures.first c.reserve_item.ensures.items c.append_item.ensures.history c.append_item.ensures.seats (search rules)

pub returns-clause-ok : goal.returns-clause-ok
returns-clause-ok g c = ok_answered _ _ c.deliver-answer.result c.from_core_result.result c.from_core_result.ensures c.deliver-answer.ensures.ok

pub returns-clause-refused : goal.returns-clause-refused
returns-clause-refused g c = err_answered _ _ c.deliver-answer.result c.from_core_result.result c.from_core_result.ensures c.deliver-answer.ensures.refused

pub append_item-requires-clause-call : goal.append_item-requires-clause-call
append_item-requires-clause-call g c = count_below _ _ _ _ _ c.args.self.now.is_consistent c.requires.0 c.requires.1 c.requires.2
