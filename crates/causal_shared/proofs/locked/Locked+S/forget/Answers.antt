use Rattle.std.proofs.Common.{refl, rules}
use Rattle.causal_protocol.specs.declared.request.Reply.TheVariants as Replies
use Rattle.causal_protocol.specs.declared.request.Request.TheVariants as Requests
use Rattle.causal_protocol.specs.Steps.{reply_of_forget}
use Rattle.causal_shared.specs.Locked.{locked_state}
use Rattle.causal_shared.proofs.Answered.{is_recorded, tells}
use Rattle.causal_shared.proofs.Histories.{count_below}
use Rattle.causal_shared.proofs.locked.Locked+S.forget.Goals as goal

pub returns-clause-item : goal.returns-clause-item
returns-clause-item g c =
    is_recorded (locked_state c.args.self.now) _ c.args.seat c.args.call c.in_ok-first.first c.reserve_item.new.history.items _ (Requests.Forget c.args.p) c.of_forget.result (reply_of_forget c.forget-answer.result) _
    (tells Replies.Forgotten reply_of_forget (λ x. refl) (λ f. refl) c.forget-answer.result c.from_core_result.result c.from_core_result.ensures) c.of_forget.ensures c.forget-answer.ensures.step c.in_ok-first.ensures.first c.reserve_item.ensures.items c.append_item.ensures.history c.append_item.ensures.seats (search rules)

pub append_item-requires-clause-call : goal.append_item-requires-clause-call
append_item-requires-clause-call g c = count_below _ _ _ _ _ c.args.self.now.is_consistent c.requires.0 c.requires.1 c.requires.2
