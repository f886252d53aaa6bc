use Rattle.std.proofs.Common.{ℕ, ◌≡◌, Some, take}
use Rattle.std.specs.Prelude.{◌==◌, ◌&&◌, not}
use Rattle.causal_name.specs.declared.Det.{Det}
use Rattle.causal_trace.specs.Past.{deliveries_in, list_has}
use Rattle.causal_replays.specs.Inside.Holdings.{holds}
use Rattle.causal_replays.specs.Inside.Copies.{number_in, AreSized}
use Rattle.causal_replays.proofs.copies.forget_dets.Given as goal

-- the determinants so far
abbrev pub invariant-loop-det : goal.invariant-loop-det
invariant-loop-det l = record {
  held : (d : Det) (i p : ℕ) → number_in l.trace.recording.past d ≡ Some i → holds l.copies.holders.items i p ≡ (not (l.who == p && list_has (take l.det-index l.listed) d) && holds l.initial.copies.holders.items i p);
  stored : l.copies.stable.items ≡ l.initial.copies.stable.items;
  sized : AreSized (deliveries_in l.trace.recording.past) l.copies;
}
