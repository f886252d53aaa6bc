-- What `draw` writes for the text of a trace.
-- `most` is the maximum number of entries of a trace.
use Rattle.std.specs.Prelude.{◌≡◌, ◌≢◌, ℕ, List, [], Option, IfSome}
use Rattle.causal_line.specs.declared.kind.TextFault.{TextFault}
use Rattle.causal_text.specs.Spelling.{IsFirstFaultWithin}
use Rattle.causal_audit.specs.declared.judged.Judged.{Judged}
use Rattle.causal_audit.specs.declared.verdict.Verdict.TheVariants.{Accept}
use Rattle.causal_workers.specs.Judgements.{IsJudgementWithin}
use Rattle.causal_picture.specs.declared.selection.Selection.{Selection}
use Rattle.causal_report.specs.Drawings.{IsSelectedDrawing}
use Rattle.causal_outcomes.specs.declared.ended.Ended.{Ended}
use Rattle.causal_outcomes.specs.declared.ended.Ended.TheVariants.{Accepted, Breached, Faulted}
use Rattle.causal_outcomes.specs.AnswerWrites.{WritesAnswer}

-- the text spells a trace with this verdict for f, and this is the selected part of its picture
pub record IsDrawn (most : ℕ) (selection : Selection) (text : List ℕ) (f : ℕ) (judged : Judged) (out : List ℕ) : Type 0 where
  pub judgement : IsJudgementWithin most text f judged
  pub shows : IsSelectedDrawing judgement.recording f selection judged.verdict out

-- the picture of a text for f, by the ending; of an invalid text, nothing
abbrev pub IsDrawingAnswer : ℕ → Selection → List ℕ → ℕ → Ended → List ℕ → Type 0
IsDrawingAnswer most selection text f Accepted out = (judged : Judged) × IsDrawn most selection text f judged out × (judged.verdict ≡ Accept)
IsDrawingAnswer most selection text f Breached out = (judged : Judged) × IsDrawn most selection text f judged out × (judged.verdict ≢ Accept)
IsDrawingAnswer most selection text f Faulted out = (fault : TextFault) × IsFirstFaultWithin most text fault × (out ≡ [])
IsDrawingAnswer most selection text f _ out = ⊥

-- what is written for the bytes of a reader, if they are known
abbrev pub WritesDrawingFor : ℕ → Selection → Option (List ℕ) → ℕ → Ended → Option (List ℕ) → Option (List ℕ) → Type 0
WritesDrawingFor most selection given f ended old new = IfSome given (λ text. WritesAnswer (IsDrawingAnswer most selection text f) ended old new)
