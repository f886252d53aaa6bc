use Rattle.causal_shared.proofs.Seats.{seat_called}
use Rattle.causal_shared.proofs.shared.Shared+S.restart.Goals as goal

pub returns-clause-item : goal.returns-clause-item
returns-clause-item g c = seat_called _ _ _ _ _ _ c.restart_locked.ensures.section
