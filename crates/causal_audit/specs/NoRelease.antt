-- When a delivery has no orphan at any later instant.
use Rattle.std.specs.Prelude.{◌≡◌, ℕ, ◌<◌, ◌≤◌, Bool, true, false, ◌⊎◌, List, [], ◌∷◌, length, Some}
use Rattle.causal_name.specs.declared.Det.{Det}
use Rattle.causal_name.specs.Sets.{count_below}
use Rattle.causal_trace.specs.declared.entry.Entry.{Entry}
use Rattle.causal_trace.specs.declared.entry.Entry.TheVariants.{Restart, Forget}
use Rattle.causal_trace.specs.Past.{instant, is_stable, det_at}
use Rattle.causal_trace.specs.Judgement.{HasOrphan}
use Rattle.causal_audit.specs.Laws.{down_or_holding}

-- whether an entry may release a process, so that it is neither down nor holds a determinant: a restart or a forgetting
abbrev pub may_release : Entry → Bool
may_release (Restart who listed) = true
may_release (Forget who listed) = true
may_release _ = false

-- no entry at or after position t releases a process
abbrev pub NoneReleasedFrom : List Entry → ℕ → Type 0
NoneReleasedFrom [] t = Unit {0}
NoneReleasedFrom (e ∷ past) t = NoneReleasedFrom past t × (t ≤ length past → may_release e ≡ false)

-- at the instant t d is stable, or more than f processes are down or hold it and no later entry releases one
abbrev pub RemainsSafe : ℕ → ℕ → List Entry → ℕ → Det → Type 0
RemainsSafe n f past t d = (is_stable (instant past t) d ≡ true) ⊎ (NoneReleasedFrom past t × (f < count_below n (down_or_holding (instant past t) d)))

-- the law: in that case no delivery with this determinant has an orphan at that instant or a later one
abbrev pub OrphansEnd : Type 0
OrphansEnd =
    (n f : ℕ) (past : List Entry) (k : ℕ) (d : Det) (t u : ℕ) → det_at past k ≡ Some d → RemainsSafe n f past t d
    → t ≤ u → u ≤ length past → HasOrphan n f (instant past u) k → ⊥
