use Rattle.causal_audit.proofs.Common.{ℕ, ◌≡◌, ◌<◌, true, ◌↔◌, contains}
use Rattle.causal_audit.proofs.group.buffers.places_of.Given as goal

-- the places so far
abbrev pub invariant-loop-place : goal.invariant-loop-place
invariant-loop-place l = (j : ℕ) → (contains l.places j ≡ true) ↔ (j < l.place)
