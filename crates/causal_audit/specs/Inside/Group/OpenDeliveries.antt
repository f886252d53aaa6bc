-- The open deliveries of a run, and the progress of their search.
use Rattle.std.specs.Prelude.{◌≡◌, ℕ, ◌-◌, ◌≤◌, List, length, map, Some, ◌<◌}
use Rattle.causal_audit.specs.Inside.Common.{All, Det, Entry, det_at, instant, Recording, IsWellFormed, IsNonDecreasingBy, FinSet, max_entries, nat_cmp}
use Rattle.causal_audit.specs.Numbers.{ArePositions}
pub use Rattle.causal_audit.specs.Searches.{SearchScope, IncludeUnsafe, IsAmongOrSafe, delivery_count, search_scope}
use Rattle.causal_audit.specs.Inside.Index.Reachability.{AreReached}
use Rattle.causal_audit.specs.Inside.Among.{HasNoOrphanFrom}
use Rattle.causal_audit.specs.declared.index.mentions.Mentions.{Mentions}
use Rattle.causal_audit.specs.declared.group.walk_input.OpenDelivery.{OpenDelivery}
use Rattle.causal_audit.specs.declared.index.run_index.RunIndex.{RunIndex}
use Rattle.causal_audit.specs.Inside.Index.RunIndexes.{IsMentionIndex, IsIndexOf}
use Rattle.causal_audit.specs.Inside.Index.Departures.{AreDepartures, process_at}

-- the positions of the deliveries
abbrev pub positions_of : List OpenDelivery → List ℕ
positions_of candidates = map (λ delivery. delivery.position) candidates

-- for how many entries each delivery may be open
abbrev pub open_lengths_of : List OpenDelivery → List ℕ
open_lengths_of candidates = map (λ delivery. delivery.until - delivery.position) candidates

-- the deliveries are in the order of their positions
abbrev pub AreInOrder : List OpenDelivery → Type 0
AreInOrder candidates = IsNonDecreasingBy (λ (delivery : OpenDelivery). delivery.position) candidates

-- the entry at position k is a delivery
abbrev pub IsDeliveryAt : List Entry → ℕ → Type 0
IsDeliveryAt past k = (d : Det) × (det_at past k ≡ Some d)

-- the delivery has no orphan from its last instant `until` up to the instant `end`
abbrev pub IsOpenDelivery : Recording → ℕ → ℕ → OpenDelivery → Type 0
IsOpenDelivery r f end delivery = HasNoOrphanFrom r f delivery.position delivery.until end

-- each is a delivery of the run, and has no orphan from its last instant up to the instant `end`
pub record AreOpenDeliveries (r : Recording) (f end : ℕ) (candidates : List OpenDelivery) : Type 0 where
  pub within : end ≤ length r.past
  pub deliveries : All (λ (delivery : OpenDelivery). IsDeliveryAt r.past delivery.position) candidates
  pub none_later : All (IsOpenDelivery r f end) candidates

-- a run that is read up to an instant
pub record RunUpTo : Type 0 where
  pub run : Recording
  pub end : ℕ

-- `mentions` contains for each determinant the positions before that instant at which it is mentioned
pub record IsRunUpTo (s : RunUpTo) (mentions : Mentions) : Type 0 where
  pub within : s.end ≤ length s.run.past
  pub mentioned : IsMentionIndex s.run.past (instant s.run.past s.end) mentions

-- a run is prepared for its audit: its index, with mentions before the instant `end`, and the deliveries that are
-- followed
pub record IsPrepared (r : Recording) (f end : ℕ) (index : RunIndex) (candidates : List OpenDelivery) : Type 0 where
  pub indexed : IsIndexOf r.past end index
  pub followed : AreOpenDeliveries r f end candidates

-- the run is well-formed, and these are its mentions, departures, reachable sets and delivery positions
pub record IsOpenDeliverySearch (r : Recording) (end : ℕ) (mentions : Mentions) (departures : List ℕ) (reached : List (FinSet nat_cmp)) (positions : List ℕ) : Type 0 where
  pub formed : IsWellFormed r
  pub within : end ≤ length r.past
  pub short : length r.past ≤ max_entries
  pub mentioned : IsMentionIndex r.past (instant r.past end) mentions
  pub staying : AreDepartures r.past (process_at r.past) departures
  pub reaching : AreReached r.past reached
  pub numbered : ArePositions (instant r.past end) positions

-- these deliveries are open deliveries in the scope of the search
abbrev pub AreFollowed : SearchScope → List OpenDelivery → Type 0
AreFollowed scope candidates = AreOpenDeliveries scope.run scope.f scope.end candidates

-- the delivery at position k is listed, or it has no orphan by the instant `end`
abbrev pub IsListedOrSafe : SearchScope → List OpenDelivery → ℕ → Type 0
IsListedOrSafe scope candidates k = IsAmongOrSafe scope (positions_of candidates) k

-- each delivery with this determinant before the end is listed, or has no orphan
abbrev pub AreListedOrSafe : SearchScope → List OpenDelivery → Det → Type 0
AreListedOrSafe scope candidates d = (k : ℕ) → k < scope.end → det_at scope.run.past k ≡ Some d → IsListedOrSafe scope candidates k

-- more open deliveries are listed
pub record HasMore (scope : SearchScope) (before after : List OpenDelivery) : Type 0 where
  pub followed : AreFollowed scope before → AreFollowed scope after
  pub listed : (k : ℕ) → IsListedOrSafe scope before k → IsListedOrSafe scope after k

-- the listed deliveries are open, and include those that a search from number `from` to below `to` must find
pub record AreOpenBetween (scope : SearchScope) (from to : ℕ) (candidates : List OpenDelivery) : Type 0 where
  pub followed : AreFollowed scope candidates
  pub all : IncludeUnsafe scope from to (positions_of candidates)

-- the listed deliveries are open, and each delivery before the end is listed or has no orphan
pub record AreAllOpen (scope : SearchScope) (candidates : List OpenDelivery) : Type 0 where
  pub followed : AreFollowed scope candidates
  pub all : (k : ℕ) → k < scope.end → IsDeliveryAt scope.run.past k → IsListedOrSafe scope candidates k

-- the index is that of the run, and these are its departures, reachable sets and delivery positions
pub record IsIndexedRun (r : Recording) (end : ℕ) (index : RunIndex) (departures : List ℕ) (reached : List (FinSet nat_cmp)) (positions : List ℕ) : Type 0 where
  pub indexed : IsIndexOf r.past end index
  pub searched : IsOpenDeliverySearch r end index.mentions departures reached positions
