use Rattle.std.proofs.Common.{◌≡◌, ℕ, ◌<◌, length, get_or}
use Rattle.causal_audit.proofs.by_clock.events.first_lanes.Given as goal

abbrev pub invariant-loop-p : goal.invariant-loop-p
invariant-loop-p l = (length l.lanes.items ≡ l.p) × ((q : ℕ) → q < l.p → get_or l.lanes.items q 0 ≡ q)
