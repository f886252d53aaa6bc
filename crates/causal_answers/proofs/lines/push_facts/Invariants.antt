use Rattle.std.proofs.Common.{◌≡◌, ◌++◌, ℕ, List, take, string_bytes}
use Rattle.causal_answers.specs.Lines.{AreFactLines}
use Rattle.causal_answers.proofs.lines.push_facts.Given as goal

-- the lines of the facts so far were appended
abbrev pub invariant-loop-fact : goal.invariant-loop-fact
invariant-loop-fact l =
    (written : List ℕ) × AreFactLines (take l.fact-index l.facts) written × (string_bytes l.out ≡ string_bytes l.fn.out ++ written)
