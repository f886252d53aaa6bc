-- Safety as a condition on who holds each determinant.
use Rattle.std.specs.Prelude.{◌≡◌, ℕ, ◌<◌, ◌≤◌, Bool, true, false, List, Some, ◌⊎◌, ◌↔◌}
use Rattle.causal_name.specs.declared.Det.{Det}
use Rattle.causal_name.specs.Sets.{count_below}
use Rattle.causal_trace.specs.declared.entry.Entry.{Entry}
use Rattle.causal_trace.specs.Past.{is_down, logs, is_stable, det_at}
use Rattle.causal_trace.specs.Dependence.{Depends}
use Rattle.causal_trace.specs.Judgement.{IsCrashSet, IsSafe}

-- d is in stable storage, or in the log of a process outside this set
abbrev pub IsHeldOutside : ℕ → List Entry → (ℕ → Bool) → Det → Type 0
IsHeldOutside n past crash d = (is_stable past d ≡ true) ⊎ ((q : ℕ) × (q < n) × (crash q ≡ false) × (logs past q d ≡ true))

-- for each crash set, and each delivery on which a process outside it depends, the determinant is held outside it
abbrev pub IsHeldOutsideCrashSets : ℕ → ℕ → List Entry → Type 0
IsHeldOutsideCrashSets n f past =
    (crash : ℕ → Bool) (k p : ℕ) (d : Det) → IsCrashSet n f past crash → det_at past k ≡ Some d
    → p < n → crash p ≡ false → Depends past k p → IsHeldOutside n past crash d

-- the law: an instant is safe exactly if at most f processes are down and each such determinant is held outside
abbrev pub SafeIffHeld : Type 0
SafeIffHeld = (n f : ℕ) (past : List Entry) → IsSafe n f past ↔ ((count_below n (is_down past) ≤ f) × IsHeldOutsideCrashSets n f past)
