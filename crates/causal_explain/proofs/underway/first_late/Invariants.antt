use Rattle.std.proofs.Common.{ℕ, ◌≡◌, ◌<◌, ◌≤◌, false, reverse}
use Rattle.causal_explain.specs.Underway.{is_late}
use Rattle.causal_explain.proofs.underway.first_late.Given as goal

-- no earlier delivery arrives late
abbrev pub invariant-loop-j : goal.invariant-loop-j
invariant-loop-j l = (i : ℕ) → l.fn.end ≤ i → i < l.j → is_late (reverse l.entries) l.fn.end l.fn.before l.fn.det i ≡ false
