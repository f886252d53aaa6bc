-- The answer to a trace's text, before it is written.
use Rattle.std.specs.Prelude.{◌≡◌, ◌≢◌, ℕ, ◌<◌, ◌⊎◌, List, [], length, take, Option, Some, None, IfSome, IfOk, MatchResult, Result, ⊤}
use Rattle.std.specs.Io.KnownBytes.{Appends}
use Rattle.causal_trace.specs.Rows.{Recording}
use Rattle.causal_line.specs.declared.kind.TextKind.TheVariants as kind
use Rattle.causal_line.specs.declared.text_refusal.TextRefusal.{TextRefusal}
use Rattle.causal_text.specs.Spelling.{SpellsWithin}
use Rattle.causal_text.specs.declared.context_reading.ReadError.TheVariants as read_error
use Rattle.causal_workers.specs.declared.streaming.VerdictError.{VerdictError}
use Rattle.causal_workers.specs.declared.streaming.VerdictError.TheVariants.{Input}
use Rattle.causal_workers.specs.Streaming.{ExplainsVerdictError}
use Rattle.causal_picture.specs.declared.selection.Selection.{Selection}
use Rattle.causal_answers.specs.declared.finding.Finding.TheVariants as finding
use Rattle.causal_answers.specs.declared.answer.Answer.{Answer}
use Rattle.causal_commands.specs.declared.answer.PrintedAnswer.{PrintedAnswer}
use Rattle.causal_outcomes.specs.declared.ended.Ended.{Ended}
use Rattle.causal_outcomes.specs.declared.ended.Ended.TheVariants.{Accepted, Breached, Ranged, Followed, Strayed, Merged, Faulted, Ran, Refused, ReadFault, WriteFault, NoMemory, NoWorker}
use Rattle.causal_commands.specs.declared.question.Question.{Question}
use Rattle.causal_commands.specs.declared.question.Question.TheVariants.{Breach}
use Rattle.causal_commands.specs.declared.response.Response.{Response}
use Rattle.causal_commands.specs.Drawings.{IsDrawingAnswer}
use Rattle.causal_commands.specs.Answers.{IsFound, IsAnswer}
use Rattle.causal_commands.specs.Inside.Refusals.{IsTrueRefusalFor, ExplainsRefusal}

-- the answer to the question on the bytes of a reader, if they are known
abbrev pub IsAnswerFor : ℕ → Question → Option (List ℕ) → Ended → Answer → Type 0
IsAnswerFor most question given ended answer = IfSome given (λ text. IsAnswer most question text ended answer)

-- the picture of the bytes of a reader, if they are known
abbrev pub IsDrawingAnswerFor : ℕ → Selection → Option (List ℕ) → ℕ → Ended → List ℕ → Type 0
IsDrawingAnswerFor most selection given f ended out = IfSome given (λ text. IsDrawingAnswer most selection text f ended out)

-- the refusal of a response, if any, is true of the bytes of a reader, if they are known
abbrev pub RefusalIsTrue : ℕ → Option (List ℕ) → Result Response Ended → Type 0
RefusalIsTrue most given result = IfOk result (λ response. IsTrueRefusalFor most given response.refusal)

-- the refusal of an answer, if any, is true of the bytes of a reader, if they are known
abbrev pub AnswerRefusalIsTrue : ℕ → Option (List ℕ) → Result PrintedAnswer Ended → Type 0
AnswerRefusalIsTrue most given result = IfOk result (λ answer. IsTrueRefusalFor most given answer.refusal)

-- why a question on a text got no answer: of `Breach`, an error of the text also means that all checkpoints accept
abbrev pub ExplainsNoAnswer : ℕ → Question → List ℕ → VerdictError → Type 0
ExplainsNoAnswer most (Breach faults workers looks) text unjudged = ExplainsVerdictError most text faults unjudged
ExplainsNoAnswer most question text unjudged = ExplainsRefusal most text unjudged

-- the result is the answer to a question on the text, or explains why there is none
abbrev pub IsAnswerOrError : ℕ → Question → List ℕ → Result Response VerdictError → Type 0
IsAnswerOrError most question text result = MatchResult result (λ response. IsAnswer most question text response.ended response.answer) (ExplainsNoAnswer most question text)

-- the question is answered when its text was read whole
abbrev pub IsOnWholeText : Question → Type 0
IsOnWholeText (Breach faults workers looks) = ⊥
IsOnWholeText _ = ⊤

-- the response is such an answer to each text that spells the recording
abbrev pub AnswersOn : Recording → (ℕ → List ℕ → Ended → Answer → Type 0) → Response → Type 0
AnswersOn r IsAnswerOn response = (most : ℕ) (text : List ℕ) → SpellsWithin most text r → IsAnswerOn most text response.ended response.answer

-- the response reports this error of a text, which is not `NoMemory`
pub record ReportsFault (unjudged : VerdictError) (response : Response) : Type 0 where
  pub rejected : TextRefusal
  pub is : unjudged ≡ Input (read_error.Text rejected)
  pub memory : rejected.fault.kind ≢ kind.NoMemory
  pub ended : response.ended ≡ Faulted
  pub answer : IsFound (finding.Fault rejected.fault) [] response.answer
  pub refusal : response.refusal ≡ Some rejected

-- the endings that write a whole answer
abbrev pub WritesWholeAnswer : Ended → Type 0
WritesWholeAnswer Accepted = ⊤
WritesWholeAnswer Breached = ⊤
WritesWholeAnswer Ranged = ⊤
WritesWholeAnswer Followed = ⊤
WritesWholeAnswer Strayed = ⊤
WritesWholeAnswer Merged = ⊤
WritesWholeAnswer Faulted = ⊤
WritesWholeAnswer Ran = ⊤
WritesWholeAnswer Refused = ⊤
WritesWholeAnswer _ = ⊥

-- the response is a whole answer that reports no error
abbrev pub IsFaultless : Response → Type 0
IsFaultless response = WritesWholeAnswer response.ended × (response.refusal ≡ None)

-- the line of the answer was appended whole, or after a write fault a proper prefix of it
abbrev pub IsWritten : PrintedAnswer → Ended → Option (List ℕ) → Option (List ℕ) → Type 0
IsWritten answer ended old new =
    ((ended ≡ answer.ended) × Appends old new answer.line.items)
    ⊎ ((ended ≡ WriteFault) × ((n : ℕ) × (n < length answer.line.items) × Appends old new (take n answer.line.items)))

-- the endings that write nothing
abbrev pub WritesNothing : Ended → Type 0
WritesNothing ReadFault = ⊤
WritesNothing NoMemory = ⊤
WritesNothing NoWorker = ⊤
WritesNothing _ = ⊥
