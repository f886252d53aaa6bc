-- The first breach of one delivery up to an instant.
use Rattle.std.specs.Prelude.{ℕ, ◌≤◌, Option, Some, None, MatchOption}
use Rattle.causal_audit.specs.Inside.Common.{instant, Recording, HasOrphan}
use Rattle.causal_audit.specs.declared.breach.Breach.{Breach}
use Rattle.causal_audit.specs.Breaches.{IsFirstBreach}
pub use Rattle.causal_audit.specs.Parts.{IsEarliestAmong, EarliestAmongBy}

-- the last instant at which an earlier breach is still possible: that of the earliest breach so far, or `end`
abbrev pub last_relevant_instant : ℕ → Option Breach → ℕ
last_relevant_instant end None = end
last_relevant_instant end (Some b) = b.instant

-- the first breach of the delivery at position k, if it comes by the instant `end`; None if it has no orphan by then
abbrev pub FirstBreachBy : Recording → ℕ → ℕ → ℕ → Option Breach → Type 0
FirstBreachBy r f end k found = MatchOption found
    ((t : ℕ) → t ≤ end → HasOrphan r.processes f (instant r.past t) k → ⊥)
    (λ b. (b.instant ≤ end) × IsFirstBreach r f k b)

-- the delivery at position k has no orphan up to the instant `end`
abbrev pub HasNoOrphanBy : Recording → ℕ → ℕ → ℕ → Type 0
HasNoOrphanBy r f k end = (u : ℕ) → u ≤ end → HasOrphan r.processes f (instant r.past u) k → ⊥

-- the delivery at position k has no orphan from the instant `from` up to the instant `end`
abbrev pub HasNoOrphanFrom : Recording → ℕ → ℕ → ℕ → ℕ → Type 0
HasNoOrphanFrom r f k from end = (u : ℕ) → from ≤ u → u ≤ end → HasOrphan r.processes f (instant r.past u) k → ⊥
