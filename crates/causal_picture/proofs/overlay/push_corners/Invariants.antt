use Rattle.std.proofs.Common.{◌≡◌, ◌++◌, ℕ, List, string_bytes}
use Rattle.causal_picture.proofs.overlay.push_corners.Given as goal

-- a text was appended
abbrev pub invariant-loop-mark : goal.invariant-loop-mark
invariant-loop-mark l = (added : List ℕ) × (string_bytes l.out ≡ string_bytes l.fn.out ++ added)
