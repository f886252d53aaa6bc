use Rattle.std.proofs.Common.{subst}
use Rattle.causal_replays.specs.Inside.Copies.{AreSized}
use Rattle.causal_replays.proofs.SlotLemmas.{no_number}
use Rattle.causal_replays.proofs.RunLemmas.{copied_first, noted_first}
use Rattle.causal_replays.proofs.replays.first_stray.Goals as goal

pub stray_in-requires-clause-sized : goal.stray_in-requires-clause-sized
stray_in-requires-clause-sized c = subst (λ m. AreSized m c.in_ok-copies.copies) c.deliveries.ensures c.in_ok-copies.ensures.sized

pub stray_in-requires-clause-count : goal.stray_in-requires-clause-count
stray_in-requires-clause-count c = c.in_ok-slots.ensures.count

pub stray_in-requires-clause-copied : goal.stray_in-requires-clause-copied
stray_in-requires-clause-copied c = copied_first c.args.trace.now.recording c.in_ok-copies.copies c.in_ok-copies.ensures.unheld c.in_ok-copies.ensures.unstored

pub stray_in-requires-clause-noted : goal.stray_in-requires-clause-noted
stray_in-requires-clause-noted c =
    noted_first c.args.trace.now.recording c.in_ok-copies.copies c.in_ok-slots.slots.items (λ p s. no_number c.in_ok-slots.slots.items 256 p s c.in_ok-slots.ensures.empty)
