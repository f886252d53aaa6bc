-- A cursor over the crashes and restarts of a run.
use Rattle.std.specs.Prelude.{◌≡◌, ℕ, ◌<◌, ◌≤◌, length}
use Rattle.causal_audit.specs.Inside.Common.{AllWithin, IsPartitionPoint}
use Rattle.causal_audit.specs.declared.index.transitions.Transitions.{Transitions}
use Rattle.causal_audit.specs.declared.index.transitions.TransitionCursor.{TransitionCursor}

-- the first `passed` positions precede position t
abbrev pub AreBehind : Transitions → ℕ → ℕ → Type 0
AreBehind transitions t passed = AllWithin (λ v. v < t) transitions.positions.items 0 passed

-- all positions except the first `passed` are at or after position t
abbrev pub AreAhead : Transitions → ℕ → ℕ → Type 0
AreAhead transitions t passed = AllWithin (λ v. t ≤ v) transitions.positions.items passed (length transitions.positions.items)

-- exactly the first `passed` positions precede position t
pub record IsCountBefore (transitions : Transitions) (t passed : ℕ) : Type 0 where
  pub inside : passed ≤ length transitions.positions.items
  pub point : IsPartitionPoint (λ v. v < t) (λ v. t ≤ v) transitions.positions.items passed

-- the cursor is over these transitions and has passed exactly those before position t
pub record IsCursorAt (transitions : Transitions) (t : ℕ) (walk : TransitionCursor) : Type 0 where
  pub over : walk.transitions.now ≡ transitions
  pub place : IsCountBefore transitions t walk.passed
