-- The bytes that the program prints for a text.
use Rattle.std.specs.Prelude.{◌≡◌, ◌≤◌, ℕ, List, [], ◌++◌}
use Rattle.causal_trace.specs.Rows.{Recording}
use Rattle.causal_line.specs.declared.kind.TextFault.{TextFault}
use Rattle.causal_line.specs.FaultLine.{fault_line}
use Rattle.causal_text.specs.Spelling.{Spells, IsFirstFault}
use Rattle.causal_report.specs.Drawings.{IsDrawing}
use Rattle.causal_report.specs.Reasons.{IsReasonText}
use Rattle.causal_audit.specs.declared.judged.Judged.{Judged}
use Rattle.causal_audit.specs.Judgements.{IsJudgedOf}
use Rattle.causal_audit.specs.VerdictLines.{verdict_line}
use Rattle.nixu_boundary.specs.declared.status.TheConstants.{OK, FAULT, NO_MEMORY}
use Rattle.nixu.specs.declared.views.View.{View}
use Rattle.nixu.specs.declared.views.View.TheVariants.{Line, Reason, Picture}
use Rattle.nixu_boundary.specs.Buffers.{CopiesOut, IsUntouched}

-- the bytes of a view, for a verdict with counts: the verdict's line, that line and its explanation, or a picture
abbrev pub IsViewText : View → Recording → ℕ → Judged → List ℕ → Type 0
IsViewText Line r f judged bytes = bytes ≡ verdict_line f judged
IsViewText Reason r f judged bytes = (reason : List ℕ) × IsReasonText r f judged.verdict reason × (bytes ≡ verdict_line f judged ++ reason)
IsViewText Picture r f judged bytes = IsDrawing r f judged.verdict bytes

-- the bytes are the view of the recording's verdict for f
abbrev pub IsViewOfRecording : View → Recording → ℕ → List ℕ → Type 0
IsViewOfRecording view r f bytes = (judged : Judged) × IsJudgedOf r f judged × IsViewText view r f judged bytes

-- the text spells a trace, and the bytes are the view of its verdict for f
abbrev pub IsViewOf : View → List ℕ → ℕ → List ℕ → Type 0
IsViewOf view text f bytes = (r : Recording) × Spells text r × IsViewOfRecording view r f bytes

-- the bytes of a view for an error: its line; none for a picture
abbrev pub fault_view : View → TextFault → List ℕ
fault_view Line fault = fault_line fault
fault_view Reason fault = fault_line fault
fault_view Picture fault = []

-- the text does not spell a trace, and the bytes are the view of its first error
abbrev pub IsViewOfFault : View → List ℕ → List ℕ → Type 0
IsViewOfFault view text bytes = (fault : TextFault) × IsFirstFault text fault × (bytes ≡ fault_view view fault)

-- the effect of a call that writes a view of a text for f to a buffer and a length: from `old` and `number` to `new`
-- and `now`
pub record WritesView (view : View) (text : List ℕ) (f status : ℕ) (old new : List ℕ) (number now : ℕ) : Type 0 where
  pub ok : status ≡ OK → CopiesOut (IsViewOf view text f) old new now
  pub fault : status ≡ FAULT → CopiesOut (IsViewOfFault view text) old new now
  pub unchanged : status ≡ NO_MEMORY → IsUntouched old new number now
  pub within : status ≤ NO_MEMORY
