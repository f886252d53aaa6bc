-- The earliest breach of deliveries, the first excess, and the verdict that they decide.
use Rattle.std.specs.Prelude.{◌≡◌, ℕ, ◌<◌, ◌≤◌, length, Option, Some, None, MatchOption}
use Rattle.causal_trace.specs.Past.{instant, is_down, deliveries_in}
use Rattle.causal_trace.specs.Rows.{Recording}
use Rattle.causal_trace.specs.Judgement.{HasOrphan}
use Rattle.causal_name.specs.Sets.{count_below}
use Rattle.causal_audit.specs.Verdicts.{IsExcess, IsLeastOrphan, IsVerdict}
use Rattle.causal_audit.specs.Numbers.{IsNumbered}
use Rattle.causal_audit.specs.declared.breach.Breach.{Breach}
use Rattle.causal_audit.specs.declared.breach.Excess.{Excess}
use Rattle.causal_audit.specs.declared.verdict.Verdict.{Verdict}

-- b describes the first instant at which the delivery at position k has an orphan
pub record IsFirstBreach (r : Recording) (f k : ℕ) (b : Breach) : Type 0 where
  pub within : b.instant ≤ length r.past
  pub delivery : b.delivery ≡ k
  pub before : (t : ℕ) → t < b.instant → HasOrphan r.processes f (instant r.past t) k → ⊥
  pub least : IsLeastOrphan r.processes f (instant r.past b.instant) k b.crash b.orphan

-- the first breach of the delivery at position k; None if it has an orphan at no instant
abbrev pub FirstBreach : Recording → ℕ → ℕ → Option Breach → Type 0
FirstBreach r f k found = MatchOption found
    ((t : ℕ) → t ≤ length r.past → HasOrphan r.processes f (instant r.past t) k → ⊥)
    (IsFirstBreach r f k)

-- x is the first instant with more than f processes down, with these processes
pub record IsFirstExcess (r : Recording) (f : ℕ) (x : Excess) : Type 0 where
  pub within : x.instant ≤ length r.past
  pub before : (t : ℕ) → t < x.instant → count_below r.processes (is_down (instant r.past t)) ≤ f
  pub excess : IsExcess r.processes f (instant r.past x.instant) x.down

-- the first excess; None if at most f processes are down at each instant
abbrev pub FirstExcess : Recording → ℕ → Option Excess → Type 0
FirstExcess r f found = MatchOption found
    ((t : ℕ) → t ≤ length r.past → count_below r.processes (is_down (instant r.past t)) ≤ f)
    (IsFirstExcess r f)

-- b is the earliest breach of the deliveries numbered from `from` to below `to`: no other has an orphan earlier, nor at
-- that instant at a lower position
pub record IsEarliestBreach (r : Recording) (f from to : ℕ) (b : Breach) : Type 0 where
  pub number : ℕ
  pub least_from : from ≤ number
  pub below_to : number < to
  pub numbered : IsNumbered r.past number b.delivery
  pub first : IsFirstBreach r f b.delivery b
  pub least : (i k t : ℕ) → from ≤ i → i < to → IsNumbered r.past i k → t ≤ length r.past → HasOrphan r.processes f (instant r.past t) k → (b.instant ≤ t) × (b.instant ≡ t → b.delivery ≤ k)

-- the earliest breach of these deliveries by instant, then by position; None if none of them has an orphan
abbrev pub EarliestBreach : Recording → ℕ → ℕ → ℕ → Option Breach → Type 0
EarliestBreach r f from to found = MatchOption found
    ((i k t : ℕ) → from ≤ i → i < to → IsNumbered r.past i k → t ≤ length r.past → HasOrphan r.processes f (instant r.past t) k → ⊥)
    (IsEarliestBreach r f from to)

-- the last instant that can decide in a run of this many entries: that of the first excess, or the last one
abbrev pub last_deciding_instant : ℕ → Option Excess → ℕ
last_deciding_instant entries None = entries
last_deciding_instant entries (Some x) = x.instant

-- the earliest breach of the deliveries numbered from `from` to below `to`, if it comes by the instant `end`; None if
-- none of them has an orphan by then
abbrev pub EarliestBreachBy : Recording → ℕ → ℕ → ℕ → ℕ → Option Breach → Type 0
EarliestBreachBy r f end from to found = MatchOption found
    ((i k t : ℕ) → from ≤ i → i < to → IsNumbered r.past i k → t ≤ end → HasOrphan r.processes f (instant r.past t) k → ⊥)
    (λ b. (b.instant ≤ end) × IsEarliestBreach r f from to b)

-- the earliest breach up to the instant `end` is that up to the last instant that can decide, given the first excess
abbrev pub IsHorizon : Recording → ℕ → Option Excess → ℕ → Type 0
IsHorizon r f excess end =
    (found : Option Breach) → EarliestBreachBy r f end 0 (deliveries_in r.past) found
    → EarliestBreachBy r f (last_deciding_instant (length r.past) excess) 0 (deliveries_in r.past) found

-- the verdict is that of every run with this first excess and, up to the last instant that can decide, this earliest
-- breach
abbrev pub IsDecidedVerdict : Option Excess → Option Breach → Verdict → Type 0
IsDecidedVerdict excess breach verdict =
    (r : Recording) (f : ℕ) → FirstExcess r f excess
    → EarliestBreachBy r f (last_deciding_instant (length r.past) excess) 0 (deliveries_in r.past) breach → IsVerdict r f verdict
