-- What is true of the diagnostic of an invalid trace.
-- `most` is the maximum number of entries of a trace.
use Rattle.std.specs.Prelude.{◌≡◌, ℕ, List, Option, IfSome}
use Rattle.causal_trace.specs.Rows.{Recording}
use Rattle.causal_line.specs.declared.kind.TextFault.{TextFault}
use Rattle.causal_line.specs.declared.parsed_line.ParsedLine.{ParsedLine}
use Rattle.causal_text.specs.FaultContexts.{IsContextWithin}
use Rattle.causal_text.specs.Spelling.{IsFirstFaultWithin}
use Rattle.causal_line.specs.FaultDetails.{IsFaultDetail, kind_of_detail}
use Rattle.causal_outcomes.specs.declared.diagnostic.DiagnosedFault.{DiagnosedFault}
use Rattle.causal_outcomes.specs.declared.diagnostic.Diagnostic.{Diagnostic}
use Rattle.causal_audit.specs.Judgements.{IsJudgedOf}

-- The lines before the error's line are a recording without error. What is wrong with that line is true, and of the
-- kind of the error. The verdict and the counts are those of the entries before it, for f.
pub record IsDiagnosticOf (most : ℕ) (text : List ℕ) (f : ℕ) (fault : TextFault) (remark : Diagnostic) : Type 0 where
  pub recording : Recording
  pub parsed_line : ParsedLine
  pub context : IsContextWithin most text fault.line recording parsed_line
  pub wrong : IfSome remark.wrong (IsFaultDetail recording parsed_line)
  pub kind_is : IfSome remark.wrong (λ wrong. kind_of_detail wrong ≡ fault.kind)
  pub before : IfSome remark.before (IsJudgedOf recording f)

-- the error is the first of the text, and its diagnostic is true
abbrev pub IsTrueDiagnosis : ℕ → List ℕ → ℕ → DiagnosedFault → Type 0
IsTrueDiagnosis most text f refusal = IsFirstFaultWithin most text refusal.fault × IfSome refusal.diagnostic (IsDiagnosticOf most text f refusal.fault)

-- the diagnosed error, if any, is true of the bytes of a reader, if they are known
abbrev pub IsDiagnosisFor : ℕ → Option (List ℕ) → ℕ → Option DiagnosedFault → Type 0
IsDiagnosisFor most given f told = IfSome given (λ text. IfSome told (IsTrueDiagnosis most text f))
