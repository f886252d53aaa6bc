use Rattle.std.proofs.Common.{◌≢◌, ◌<◌, ℕ, get_or}
use Rattle.causal_shared.specs.Seat.{SeatMemory}
use Rattle.causal_shared.proofs.checks.all_distinct.Given as goal

abbrev pub invariant-loop-j : goal.invariant-loop-j
invariant-loop-j l = (a : ℕ) (d : SeatMemory) → a < l.j → (get_or l.seats a d).view.number ≢ (get_or l.seats l.i d).view.number

abbrev pub invariant-loop-i : goal.invariant-loop-i
invariant-loop-i l = (a b : ℕ) (d : SeatMemory) → a < b → b < l.i → (get_or l.seats a d).view.number ≢ (get_or l.seats b d).view.number
