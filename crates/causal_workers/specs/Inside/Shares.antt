-- The shares of the workers and their results.
use Rattle.std.specs.Prelude.{◌≡◌, ◌≤◌, ℕ, List, [], ◌∷◌, length, Option, Result, Ok, IfOk}
use Rattle.std.specs.declared.thread.PromisedHandle.{PromisedHandle}
use Rattle.causal_name.specs.declared.NoMemory.{NoMemory}
use Rattle.causal_audit.specs.declared.breach.Breach.{Breach}
use Rattle.causal_audit.specs.BreachOrder.{earlier_breach}
use Rattle.causal_audit.specs.Parts.{FollowedDeliveries, EarliestOf, part_of}
use Rattle.causal_workers.specs.declared.share.Share.{Share}

-- the result of a share: its earliest breach, or `NoMemory`
abbrev pub ShareResult : Type 0
ShareResult = Result (Option Breach) NoMemory

-- a worker that was started, with its share
abbrev pub RunningShare : Type 0
RunningShare = PromisedHandle ShareResult Share

-- if no allocation failed, the result is the earliest breach of the deliveries from index `from` to below index `to`
abbrev pub IsResultOf : FollowedDeliveries → ℕ → ℕ → ShareResult → Type 0
IsResultOf followed from to found = IfOk found (EarliestOf (part_of followed from to))

-- if both results are breaches, this is the earlier of the two; otherwise it is an error
abbrev pub IsEarlierOf : ShareResult → ShareResult → ShareResult → Type 0
IsEarlierOf one other result = IfOk result (λ least. (a b : Option Breach) × (one ≡ Ok a) × (other ≡ Ok b) × (least ≡ earlier_breach a b))

-- the share begins at index `from`
pub record IsShare (followed : FollowedDeliveries) (from : ℕ) (share : Share) : Type 0 where
  pub of : share.prepared.now ≡ followed
  pub begins : share.from ≡ from
  pub ascends : from ≤ share.to
  pub inside : share.to ≤ length followed.positions

-- the share is the first of those of `workers` workers
pub record IsFirstShare (workers : ℕ) (share : Share) : Type 0 where
  pub begins : share.from ≡ 0
  pub inside : share.to ≤ length share.prepared.now.positions
  pub alone : workers ≡ 1 → share.to ≡ length share.prepared.now.positions

-- the workers' shares follow one another, from index `from` up to index `to`
abbrev pub Follows : FollowedDeliveries → ℕ → List RunningShare → ℕ → Type 0
Follows followed from [] to = from ≡ to
Follows followed from (w ∷ ws) to = IsShare followed from w.promise × Follows followed w.promise.to ws to

-- the workers' shares cover all deliveries after this share
abbrev pub FollowsAfter : Share → List RunningShare → Type 0
FollowsAfter own started = Follows own.prepared.now own.to started (length own.prepared.now.positions)

-- `first` is the result of the deliveries below some index, and the workers' shares continue from there up to `to`
abbrev pub Covers : FollowedDeliveries → ShareResult → List RunningShare → ℕ → Type 0
Covers followed first ws to = (mid : ℕ) × IsResultOf followed 0 mid first × Follows followed mid ws to
