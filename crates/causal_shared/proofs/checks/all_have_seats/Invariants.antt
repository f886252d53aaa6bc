use Rattle.std.proofs.Common.{take}
use Rattle.std.specs.Prelude.{All}
use Rattle.causal_shared.specs.Finish.{HasSeat}
use Rattle.causal_shared.proofs.checks.all_have_seats.Given as goal

abbrev pub invariant-loop-item : goal.invariant-loop-item
invariant-loop-item l = All (HasSeat l.seats) (take l.item-index l.history)
