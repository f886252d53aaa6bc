-- The chains of events by which an orphan comes to depend on a delivery.
use Rattle.std.specs.Prelude.{◌≡◌, ℕ, ◌+◌, ◌≤◌, Bool, not, false, List, ◌∷◌, length, Option, MatchOption}
use Rattle.std.specs.List.{find}
use Rattle.std.specs.Option.{option_map_or}
use Rattle.causal_name.specs.declared.Det.{Det}
use Rattle.causal_trace.specs.declared.entry.Entry.{Entry}
use Rattle.causal_trace.specs.declared.entry.Entry.TheVariants.{Deliver}
use Rattle.causal_trace.specs.Laws.{IsPath}
use Rattle.causal_trace.specs.Dependence.{IsEventOf}
use Rattle.causal_trace.specs.Past.{instant, entry_at, lane, logs}

-- the positions lead from the event i to an event of p's present lane (incarnation); each directly precedes the next
pub record IsChain (past : List Entry) (i p : ℕ) (chain : List ℕ) : Type 0 where
  pub event : (q : ℕ) × (l : ℕ) × IsEventOf past i q l
  pub rest : List ℕ
  pub begins : chain ≡ i ∷ rest
  pub last : ℕ
  pub path : IsPath past i rest last
  pub present : IsEventOf past last p (lane past p)

-- a chain such that none is shorter
pub record IsShortestChain (past : List Entry) (i p : ℕ) (chain : List ℕ) : Type 0 where
  pub leads : IsChain past i p chain
  pub shortest : (other : List ℕ) → IsChain past i p other → length chain ≤ length other

-- a shortest chain; None if no chain exists
abbrev pub ShortestChain : List Entry → ℕ → ℕ → Option (List ℕ) → Type 0
ShortestChain past i p found = MatchOption found ((chain : List ℕ) → IsChain past i p chain → ⊥) (IsShortestChain past i p)

-- whether an entry is a delivery whose receiver's volatile log lacks d at this state
abbrev pub lacks_det : List Entry → Det → Entry → Bool
lacks_det past d (Deliver to send rsn listed) = not (logs past to.0 d)
lacks_det past d _ = false

-- whether the entry at position k is a delivery after which its receiver's volatile log lacks d
abbrev pub lacks_after : List Entry → Det → ℕ → Bool
lacks_after past d k = option_map_or (lacks_det (instant past (k + 1)) d) (entry_at past k) false

-- the first of these positions with such a delivery
abbrev pub first_lacking : List Entry → Det → List ℕ → Option ℕ
first_lacking past d = find (lacks_after past d)
