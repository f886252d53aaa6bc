-- The C struct of a verdict, or of the first error of a text.
use Rattle.std.specs.Prelude.{◌≡◌, ℕ, List}
use Rattle.std.specs.FinSet.{empty}
use Rattle.causal_trace.specs.Limits.{default_entries}
use Rattle.causal_trace.specs.Rows.{Recording}
use Rattle.causal_line.specs.declared.kind.TextFault.{TextFault}
use Rattle.causal_text.specs.Spelling.{Spells, IsFirstFaultWithin}
use Rattle.causal_audit.specs.declared.verdict.Verdict.{Verdict}
use Rattle.causal_audit.specs.declared.verdict.Verdict.TheVariants.{Accept, Exceeded, Orphan}
use Rattle.causal_audit.specs.declared.judged.Judged.{Judged}
use Rattle.causal_audit.specs.Judgements.{IsJudgedOf}
use Rattle.nixu_boundary.specs.Flags.{flags}
use Rattle.nixu.specs.declared.c_verdict.CVerdict.{CVerdict}
use Rattle.nixu.specs.Numbers.{kind_number}

-- the struct of a verdict on a trace with these numbers of entries and deliveries
abbrev pub c_verdict_with_counts : ℕ → ℕ → Verdict → CVerdict
c_verdict_with_counts entries deliveries Accept = record {
  kind = 0;
  entries = entries;
  deliveries = deliveries;
  instant = 0;
  delivery = 0;
  orphan = 0;
  processes = flags empty;
  line = 0;
  fault = 0;
}
c_verdict_with_counts entries deliveries (Exceeded instant down) = record {
  kind = 1;
  entries = entries;
  deliveries = deliveries;
  instant = instant;
  delivery = 0;
  orphan = 0;
  processes = flags down;
  line = 0;
  fault = 0;
}
c_verdict_with_counts entries deliveries (Orphan instant delivery crash orphan) = record {
  kind = 2;
  entries = entries;
  deliveries = deliveries;
  instant = instant;
  delivery = delivery;
  orphan = orphan;
  processes = flags crash;
  line = 0;
  fault = 0;
}

-- the struct of a verdict with its counts
abbrev pub c_verdict_of : Judged → CVerdict
c_verdict_of judged = c_verdict_with_counts judged.entries judged.deliveries judged.verdict

-- the struct of an error of a text
abbrev pub c_fault_verdict : TextFault → CVerdict
c_fault_verdict fault = record {
  kind = 3;
  entries = 0;
  deliveries = 0;
  instant = 0;
  delivery = 0;
  orphan = 0;
  processes = flags empty;
  line = fault.line;
  fault = kind_number fault.kind;
}

-- the text spells a trace, and this is the verdict on it for f with its counts: what causal_workers says by IsJudgement,
-- field for field
abbrev pub IsJudgementOfText : List ℕ → ℕ → Judged → Type 0
IsJudgementOfText text f judged = (r : Recording) × Spells text r × IsJudgedOf r f judged

-- the text spells a trace, and the struct is the verdict on it for f
abbrev pub IsVerdictOfText : List ℕ → ℕ → CVerdict → Type 0
IsVerdictOfText text f verdict = (judged : Judged) × IsJudgementOfText text f judged × (verdict ≡ c_verdict_of judged)

-- the text does not spell a trace of at most `most` entries, and the struct contains its first error
abbrev pub IsFaultOfTextWithin : ℕ → List ℕ → CVerdict → Type 0
IsFaultOfTextWithin most text verdict = (fault : TextFault) × IsFirstFaultWithin most text fault × (verdict ≡ c_fault_verdict fault)

-- the text does not spell a trace, and the struct contains its first error, under the default limits
abbrev pub IsFaultOfText : List ℕ → CVerdict → Type 0
IsFaultOfText text verdict = IsFaultOfTextWithin default_entries text verdict
