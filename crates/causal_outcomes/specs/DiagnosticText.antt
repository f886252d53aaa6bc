-- The diagnostic of an invalid trace, as printed on standard error.
use Rattle.std.specs.Prelude.{ℕ, List, [], ◌++◌, Option, Some, None, codes, decimal}
use Rattle.causal_line.specs.declared.kind.TextFault.{TextFault}
use Rattle.causal_line.specs.declared.fault_details.FaultDetail.{FaultDetail}
use Rattle.causal_line.specs.DetailTexts.{sentence}
use Rattle.causal_audit.specs.declared.judged.Judged.{Judged}
use Rattle.causal_audit.specs.VerdictLines.{verdict_line}
use Rattle.causal_outcomes.specs.declared.diagnostic.DiagnosedFault.{DiagnosedFault}
use Rattle.causal_outcomes.specs.declared.diagnostic.Diagnostic.{Diagnostic}

-- `causal_tool audit: line 4: process 1 has delivered message 0 of process 0 already, at line 3`
abbrev pub sentence_line : List ℕ → TextFault → Option FaultDetail → List ℕ
sentence_line command fault wrong = command ++ (codes ": " ++ (sentence fault wrong ++ codes "\n"))

-- `causal_tool audit: the entries before line 4: accept f=1 entries=2 deliveries=1`
abbrev pub verdict_before_line : List ℕ → ℕ → ℕ → Judged → List ℕ
verdict_before_line command f line judged =
    (command ++ (codes ": the entries before line " ++ (decimal line ++ codes ": "))) ++ verdict_line f judged

-- `verdict_before_line` if the entries were audited; else empty
abbrev pub verdict_before_lines : List ℕ → ℕ → ℕ → Option Judged → List ℕ
verdict_before_lines command f line None = []
verdict_before_lines command f line (Some judged) = verdict_before_line command f line judged

-- what is wrong with the line of an error, and the verdict on the entries before it
abbrev pub diagnostic_lines : List ℕ → ℕ → TextFault → Diagnostic → List ℕ
diagnostic_lines command f fault remark = sentence_line command fault remark.wrong ++ verdict_before_lines command f fault.line remark.before

-- the text of an error with its diagnostic, if there is one
abbrev pub diagnostic_text_of : List ℕ → ℕ → TextFault → Option Diagnostic → List ℕ
diagnostic_text_of command f fault None = sentence_line command fault None
diagnostic_text_of command f fault (Some remark) = diagnostic_lines command f fault remark

-- the diagnostic of an invalid trace, each line with the command's name before it
abbrev pub diagnostic_text : List ℕ → ℕ → DiagnosedFault → List ℕ
diagnostic_text command f refusal = diagnostic_text_of command f refusal.fault refusal.diagnostic
