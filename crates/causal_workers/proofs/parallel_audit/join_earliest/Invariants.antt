use Rattle.std.proofs.Common.{◌≡◌, ℕ, length}
use Rattle.std.specs.Vec.Iter.{into_iter_items, into_iter_len}
use Rattle.causal_audit.specs.Parts.{FollowedDeliveries}
use Rattle.causal_workers.specs.Inside.Shares.{Covers}
use Rattle.causal_workers.proofs.parallel_audit.join_earliest.Given as goal

abbrev pub invariant-loop-handle : goal.invariant-loop-handle
invariant-loop-handle g l =
    (into_iter_len l.handle-iterator ≡ length (into_iter_items l.handle-iterator))
    × ((followed : FollowedDeliveries) (to : ℕ) → Covers followed l.initial.least (into_iter_items l.initial.handle-iterator) to → Covers followed l.least (into_iter_items l.handle-iterator) to)
