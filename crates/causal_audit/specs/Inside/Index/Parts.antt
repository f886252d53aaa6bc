-- The parts of the index of a run.
use Rattle.std.specs.Prelude.{◌≡◌, ℕ, ◌≤◌, List, length}
use Rattle.causal_audit.specs.Inside.Common.{Entry, entries_of, instant, Recording, IsWellFormed, FinSet, max_entries, nat_cmp}
use Rattle.causal_audit.specs.declared.index.mentions.Mentions.{Mentions}
use Rattle.causal_audit.specs.declared.index.transitions.Transitions.{Transitions}
use Rattle.causal_audit.specs.Inside.Index.RunIndexes.{IsMentionIndex, IsTransitionIndex}
use Rattle.causal_audit.specs.Inside.Index.Departures.{AreDepartures, process_at}
use Rattle.causal_audit.specs.Inside.Index.Reachability.{AreReached}

-- the run is well-formed, and these are its transitions
pub record IsTransitionPart (r : Recording) (transitions : Transitions) : Type 0 where
  pub formed : IsWellFormed r
  pub short : length r.past ≤ max_entries
  pub turned : IsTransitionIndex r.past transitions

-- these are the departures of the run's entries and its reachable sets
pub record IsEffectPart (r : Recording) (departures : List ℕ) (reached : List (FinSet nat_cmp)) : Type 0 where
  pub staying : AreDepartures r.past (process_at r.past) departures
  pub reaching : AreReached r.past reached

-- these are the departures and the reachable sets of each well-formed run of these entries, oldest first
abbrev pub AreEffectsOf : List Entry → List ℕ → List (FinSet nat_cmp) → Type 0
AreEffectsOf entries departures reached = (r : Recording) → IsWellFormed r → entries ≡ entries_of r → IsEffectPart r departures reached

-- these are the mentions before the instant `end`
pub record IsPrefixIndex (r : Recording) (end : ℕ) (mentions : Mentions) : Type 0 where
  pub within : end ≤ length r.past
  pub mentioned : IsMentionIndex r.past (instant r.past end) mentions
