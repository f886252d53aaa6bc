use Rattle.std.proofs.Common.{◌≡◌, ◌∙◌, ap, length, sym, Ok, Err, ℕ}
use Rattle.std.specs.Prelude.{Result}
use Rattle.causal_protocol.specs.declared.request.Request.TheVariants as Requests
use Rattle.causal_shared.specs.Locked.{locked_state, ItemCall}
use Rattle.causal_shared.specs.declared.fault.SharedFault.{SharedFault}
use Rattle.causal_shared.specs.declared.fault.SharedFault.TheVariants.{WrongSeat}
use Rattle.causal_shared.specs.Inside.SeatChecks.{refusal_of}
use Rattle.causal_shared.specs.Seat.{seat_restart_reply}
use Rattle.causal_shared.proofs.Answered.{if_err_answered}
use Rattle.causal_shared.proofs.Seats.{called, heard_again, restarts_never_full, restarts_never_wrong}
use Rattle.causal_shared.proofs.seat.restart_locked.Goals as goal

pub returns-clause-section : goal.returns-clause-section
returns-clause-section g c =
    let seat = c.begin_call.new.seat.view in
    let item : ItemCall (locked_state c.args.locked.now) (locked_state c.restart-answer.new.self) seat.number (length seat.items) (Requests.Restart c.args.p) c.restart_item_reply.result =
    rw c.restart_item_reply.ensures (rw (c.number.ensures, c.count.ensures) at c.restart-answer.ensures.item) in
    let heard : seat_restart_reply c.to_shared_restart.result ≡ c.restart_item_reply.result = rw (c.to_shared_restart.ensures, c.restart_item_reply.ensures) (heard_again c.restart-answer.result) in
    rw heard (rw c.begin_call.ensures.view at (c.record_reply.ensures (locked_state c.args.locked.now) c.in-Ok.ensures.ok item))

pub returns-clause-spare : goal.returns-clause-spare
returns-clause-spare g c = if_err_answered _ _ _ c.restart-answer.result c.to_shared_restart.result c.to_shared_restart.ensures (λ e p. p) c.restart-answer.ensures.spare

pub returns-clause-no_record : goal.returns-clause-no_record
returns-clause-no_record g c = λ _. c.in-Ok.ensures.ok.room

pub returns-clause-wrong : goal.returns-clause-wrong
returns-clause-wrong g c = (
  λ e. absurd (restarts_never_wrong c.restart-answer.result (ap refusal_of (sym c.to_shared_restart.ensures) ∙ e)),
  λ no. absurd (let e : ◌≡◌ {A = Result ℕ SharedFault} (Ok c.in-Ok.first) (Err WrongSeat) = sym c.in-Ok.is ∙ c.begin_call.ensures.wrong.1 no in cc),
)

pub returns-clause-full : goal.returns-clause-full
returns-clause-full g c = λ e. absurd (restarts_never_full c.restart-answer.result (ap refusal_of (sym c.to_shared_restart.ensures) ∙ e))

pub restart-answer-requires : goal.restart-answer-requires
restart-answer-requires g c = called (locked_state c.args.locked.now) c.begin_call.new.seat c.in-Ok.first c.number.result c.count.result c.in-Ok.ensures.ok c.number.ensures c.count.ensures
