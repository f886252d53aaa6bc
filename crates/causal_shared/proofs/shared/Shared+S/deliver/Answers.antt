use Rattle.causal_shared.proofs.Seats.{seat_called}
use Rattle.causal_shared.proofs.shared.Shared+S.deliver.Goals as goal

pub returns-clause-item : goal.returns-clause-item
returns-clause-item g c = seat_called _ _ _ _ _ _ c.deliver_locked.ensures.section

pub returns-clause-foreign_seat : goal.returns-clause-foreign_seat
returns-clause-foreign_seat g c = λ other. c.deliver_locked.ensures.wrong.1 (λ seated. other seated.0)
