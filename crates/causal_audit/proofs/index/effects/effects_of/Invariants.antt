use Rattle.causal_audit.proofs.Common.{◌≡◌, ◌≤◌, length, Recording, IsWellFormed, entries_of}
use Rattle.causal_audit.specs.Inside.Index.Departures.{process_at}
use Rattle.causal_audit.proofs.index.Reachable.{AreReachedFrom}
use Rattle.causal_audit.proofs.index.Receivers.{AreSpreadsFrom}
use Rattle.causal_audit.proofs.index.effects.effects_of.Given as goal

-- the departures of the entries from i on, and the sets for the events from there on
abbrev pub invariant-loop-i : goal.invariant-loop-i
invariant-loop-i l = record {
  within : l.i ≤ length l.entries;
  count : length l.departures.items ≡ length l.entries;
  lanes : length l.outs ≡ 256;
  sets : length l.sets.items ≡ 256;
  departures : (r : Recording) → IsWellFormed r → l.entries ≡ entries_of r → AreSpreadsFrom r.past (process_at r.past) l.i l.departures.items l.outs;
  reached : (r : Recording) → IsWellFormed r → l.entries ≡ entries_of r → AreReachedFrom r.past l.i l.sets.items;
}

abbrev pub decreases-loop-i : goal.decreases-loop-i
decreases-loop-i l = l.i
