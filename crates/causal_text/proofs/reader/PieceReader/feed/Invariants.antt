use Rattle.std.proofs.Common.{◌≡◌, List, ℕ, ◌++◌, length}
use Rattle.causal_text.specs.Pieces.{RepresentsBytes}
use Rattle.causal_text.proofs.reader.PieceReader.feed.Given as goal

abbrev pub invariant-loop-line : goal.invariant-loop-line
invariant-loop-line l = (done : List ℕ) × (l.piece ≡ done ++ l.left) × ((b : List ℕ) → RepresentsBytes l.fn.limits.entries l.fn.self b → RepresentsBytes l.fn.limits.entries l.reader (b ++ done))

abbrev pub decreases-loop-line : goal.decreases-loop-line
decreases-loop-line l = length l.left
