-- The tables of a recorded run for the audit by vector clocks.
use Rattle.std.specs.Prelude.{ℕ, ◌≤◌, List, length}
use Rattle.causal_audit.specs.Inside.Common.{max_entries, Recording, IsWellFormed}
use Rattle.causal_clock.specs.declared.Event.{Event}
use Rattle.causal_audit.specs.Inside.Index.RunIndexes.{IsMentionIndex}
use Rattle.causal_audit.specs.Numbers.{ArePositions}
use Rattle.causal_audit.specs.Inside.ByClock.ClockOfRun.{IsClockOf}
use Rattle.causal_audit.specs.declared.index.mentions.Mentions.{Mentions}

-- the positions of the deliveries, a clock of the entries, and the mentions of each determinant
pub record AreTables (r : Recording) (positions : List ℕ) (events : List Event) (mentions : Mentions) : Type 0 where
  pub formed : IsWellFormed r
  pub short : length r.past ≤ max_entries
  pub numbered : ArePositions r.past positions
  pub stands : IsClockOf r.past events
  pub mentioned : IsMentionIndex r.past r.past mentions
