-- The text that explains a verdict on a recording, and whether its recoveries strayed.
use Rattle.std.specs.Prelude.{ℕ, List}
use Rattle.causal_trace.specs.Rows.{Recording}
use Rattle.causal_audit.specs.declared.verdict.Verdict.{Verdict}
use Rattle.causal_facts.specs.declared.fact.Fact.{Fact}
use Rattle.causal_answers.specs.Lines.{AreFactLines}
use Rattle.causal_report.specs.Facts.{AreFacts}

-- the lines of the facts that explain the verdict, and then of the first stray, if there is one
abbrev pub IsReasonText : Recording → ℕ → Verdict → List ℕ → Type 0
IsReasonText r f verdict text = (facts : List Fact) × AreFacts r f verdict facts × AreFactLines facts text
