-- Shortest paths from an event to others.
use Rattle.std.specs.Prelude.{◌≡◌, ℕ, ◌+◌, ◌<◌, ◌≤◌, true, ◌⊎◌, List, ◌∷◌, length, Option, Some, None, MatchOption, slice_index_or, nat_lt, if◌then◌else◌}
use Rattle.causal_trace.specs.declared.entry.Entry.{Entry}
use Rattle.causal_trace.specs.Laws.{IsPath}
use Rattle.causal_trace.specs.Dependence.{actor, is_delivery_of, IsEventOf, DirectlyPrecedes}
use Rattle.causal_trace.specs.Past.{lane}
use Rattle.causal_explain.specs.declared.paths.ReachedEvent.{ReachedEvent}
use Rattle.causal_explain.specs.declared.paths.PathStep.{PathStep}

-- n steps lead from the event i to k; each goes from an event to one that it directly precedes
pub data HasPath (past : List Entry) (i : ℕ) : ℕ → ℕ → Type 0 where
  at_once : {k n : ℕ} (p l : ℕ) → IsEventOf past i p l → k ≡ i → n ≡ 0 → HasPath past i k n
  onward : {k n : ℕ} (j m : ℕ) → HasPath past i j m → DirectlyPrecedes past j k → n ≡ m + 1 → HasPath past i k n

-- n is the least number of steps that lead from i to k
pub record IsLeastDistance (past : List Entry) (i k n : ℕ) : Type 0 where
  pub comes : HasPath past i k n
  pub least : (m : ℕ) → HasPath past i k m → n ≤ m

-- the one of these positions to which the fewest steps lead from i; None if no steps lead to any of them
abbrev pub Nearest : List Entry → ℕ → (ℕ → Type 0) → Option ReachedEvent → Type 0
Nearest past i Among found = MatchOption found
    ((k n : ℕ) → Among k → HasPath past i k n → ⊥)
    (λ x. Among x.position × HasPath past i x.position x.steps × ((k n : ℕ) → Among k → HasPath past i k n → x.steps ≤ n))

-- the one of two that is reached by fewer steps
abbrev pub closer_event : Option ReachedEvent → Option ReachedEvent → Option ReachedEvent
closer_event None other = other
closer_event (Some a) None = Some a
closer_event (Some a) (Some b) = if nat_lt b.steps a.steps then Some b else Some a

-- the last step of a shortest path from i to k, if it has a step, goes from the event before
pub record IsPathStep (past : List Entry) (i k : ℕ) (w : PathStep) : Type 0 where
  pub fewest : IsLeastDistance past i k w.steps
  pub last : (m : ℕ) → w.steps ≡ m + 1 → DirectlyPrecedes past w.previous k × HasPath past i w.previous m

-- the path to k; None if no path exists
abbrev pub IsPathStepOf : List Entry → ℕ → ℕ → Option PathStep → Type 0
IsPathStepOf past i k found = MatchOption found ((n : ℕ) → HasPath past i k n → ⊥) (IsPathStep past i k)

-- the path to each position
pub record ArePathSteps (past : List Entry) (i : ℕ) (ways : List (Option PathStep)) : Type 0 where
  pub count : length ways ≡ length past
  pub each : (k : ℕ) → k < length past → IsPathStepOf past i k (slice_index_or ways k None)

-- for each process, the nearest event of its present lane
abbrev pub AreNearest : List Entry → ℕ → List (Option ReachedEvent) → Type 0
AreNearest past i lanes = (p : ℕ) → p < length lanes → Nearest past i (λ k. IsEventOf past k p (lane past p)) (slice_index_or lanes p None)

-- what directly precedes the next entry: the events of its present lane, and the send of the message that it delivers
abbrev pub PrecedesNext : Entry → List Entry → ℕ → Type 0
PrecedesNext e past j = ((p : ℕ) × (actor e ≡ Some p) × IsEventOf past j p (lane past p)) ⊎ (is_delivery_of j e ≡ true)

-- the positions lead in n steps from i to the event at position last; each directly precedes the next
pub record IsPathOfLength (past : List Entry) (i last n : ℕ) (chain : List ℕ) : Type 0 where
  pub rest : List ℕ
  pub begins : chain ≡ i ∷ rest
  pub path : IsPath past i rest last
  pub steps : length rest ≡ n

-- the positions lead from i to the nearest event, in as many steps; None if nothing is reached
abbrev pub IsPathToNearest : List Entry → ℕ → Option ReachedEvent → Option (List ℕ) → Type 0
IsPathToNearest past i None found = found ≡ None
IsPathToNearest past i (Some x) None = ⊥
IsPathToNearest past i (Some x) (Some chain) = IsPathOfLength past i x.position x.steps chain
