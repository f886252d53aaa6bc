-- The search for the deliveries that must be followed, and parts of it.
use Rattle.std.specs.Prelude.{◌≡◌, ℕ, ◌<◌, ◌≤◌, ◌⊎◌, Contains, List, Some, length}
use Rattle.causal_name.specs.declared.Det.{Det}
use Rattle.causal_trace.specs.Judgement.{HasOrphan}
use Rattle.causal_trace.specs.Numbers.{delivered_dets, number_of}
use Rattle.causal_trace.specs.Past.{deliveries_in, det_at, instant}
use Rattle.causal_trace.specs.Rows.{Recording}
use Rattle.causal_audit.specs.Parts.{FollowedDeliveries}

-- the scope of a search: the run, f, and the instant up to which it searches
pub record SearchScope : Type 0 where
  pub run : Recording
  pub f : ℕ
  pub end : ℕ

-- the scope of a search, from its parts
abbrev pub search_scope : Recording → ℕ → ℕ → SearchScope
search_scope r f end = record { run = r; f = f; end = end }

-- an index for the search up to the last instant of the run
abbrev pub IsWholeIndex : Recording → ℕ → SearchScope → Type 0
IsWholeIndex r f index = index ≡ search_scope r f (length r.past)

-- the scope in which these deliveries are followed
abbrev pub scope_of : FollowedDeliveries → SearchScope
scope_of followed = search_scope followed.run followed.f followed.end

-- the number of deliveries before the end
abbrev pub delivery_count : SearchScope → ℕ
delivery_count scope = deliveries_in (instant scope.run.past scope.end)

-- the newest delivery with this determinant before the end is number i
abbrev pub IsNewest : SearchScope → Det → ℕ → Type 0
IsNewest scope d i = number_of (delivery_count scope) (delivered_dets scope.run.past) d ≡ Some i

-- k is one of these positions, or the delivery at k has no orphan by the end
abbrev pub IsAmongOrSafe : SearchScope → List ℕ → ℕ → Type 0
IsAmongOrSafe scope positions k = Contains positions k ⊎ ((t : ℕ) → t ≤ scope.end → HasOrphan scope.run.processes scope.f (instant scope.run.past t) k → ⊥)

-- the positions include each delivery before the end that has an orphan by then, if the newest with its determinant is
-- numbered `from` to below `to`
abbrev pub IncludeUnsafe : SearchScope → ℕ → ℕ → List ℕ → Type 0
IncludeUnsafe scope from to positions = (k i : ℕ) (d : Det) → k < scope.end → det_at scope.run.past k ≡ Some d → IsNewest scope d i → from ≤ i → i < to → IsAmongOrSafe scope positions k

-- these deliveries are the result of the part of a search from number `from` to below `to`
pub record IsSearched (scope : SearchScope) (from to : ℕ) (followed : FollowedDeliveries) : Type 0 where
  pub of : scope_of followed ≡ scope
  pub all : IncludeUnsafe scope from to followed.positions
