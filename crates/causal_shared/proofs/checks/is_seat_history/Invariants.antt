use Rattle.std.proofs.Common.{drop}
use Rattle.causal_shared.specs.History.{items_of}
use Rattle.causal_shared.proofs.Openings.{Follows}
use Rattle.causal_shared.proofs.checks.is_seat_history.Given as goal

abbrev pub invariant-loop-item : goal.invariant-loop-item
invariant-loop-item l = Follows (items_of l.seat l.history) l.own (items_of l.seat (drop l.item-index l.history)) l.rest
