use Rattle.std.proofs.Common.{◌≡◌, ◌++◌, ℕ, List, string_bytes}
use Rattle.causal_picture.proofs.titles.push_dets.Given as goal

-- a text was appended
abbrev pub invariant-loop-det : goal.invariant-loop-det
invariant-loop-det l = (added : List ℕ) × (string_bytes l.out ≡ string_bytes l.fn.out ++ added)
