use Rattle.std.proofs.Common.{◌≡◌, drop}
use Rattle.causal_line.specs.Lines.{lines}
use Rattle.causal_outcomes.proofs.excerpt.after_lines.Given as goal

-- so many lines are passed
abbrev pub invariant-loop-line : goal.invariant-loop-line
invariant-loop-line l = lines l.left ≡ drop l._line (lines l.text)
