-- Facts on the error of a refused text. `most` is the maximum number of entries of a trace.
use Rattle.std.proofs.Common.{List, ℕ, Option, sym, subst}
use Rattle.std.specs.Prelude.{IfSome}
use Rattle.causal_line.specs.declared.text_refusal.TextRefusal.{TextRefusal}
use Rattle.causal_text.specs.declared.context_reading.ReadError.TheVariants as read_error
use Rattle.causal_workers.specs.Streaming.{ExplainsVerdictError}
use Rattle.causal_workers.specs.declared.streaming.VerdictError.{VerdictError}
use Rattle.causal_workers.specs.declared.streaming.VerdictError.TheVariants.{Input, Audit}
use Rattle.causal_outcomes.specs.declared.diagnostic.DiagnosedFault.{DiagnosedFault}
use Rattle.causal_outcomes.specs.declared.ended.Ended.{Ended}
use Rattle.causal_outcomes.specs.declared.ended.Ended.TheVariants.{Faulted}
use Rattle.causal_commands.specs.declared.question.Question.{Question}
use Rattle.causal_commands.specs.declared.question.Question.TheVariants.{Verdict, Breach, Reason, Range, Replays}
use Rattle.causal_commands.specs.declared.response.Response.{Response}
use Rattle.causal_outcomes.specs.Diagnostics.{IsTrueDiagnosis, IsDiagnosisFor}
use Rattle.causal_commands.specs.Answers.{IsFaultAnswer, IsAnswer}
use Rattle.causal_commands.specs.Inside.Answers.{ExplainsNoAnswer, ReportsFault}
use Rattle.causal_commands.specs.Inside.Refusals.{IsTrueRefusal, IsTrueRefusalFor, ExplainsRefusal}
use Rattle.causal_outcomes.proofs.Lemmas.Known.{IfSome-weaker}

-- a true diagnostic of a refused text is true of the bytes of a reader
pub names : (most : ℕ) (known : Option (List ℕ)) (f : ℕ) (rejected : Option TextRefusal) (told : Option DiagnosedFault) → IsTrueRefusalFor most known rejected
    → ((k : ℕ) (text : List ℕ) → IfSome rejected (IsTrueRefusal k text) → IfSome told (IsTrueDiagnosis k text f)) → IsDiagnosisFor most known f told
names most known f rejected told h is = IfSome-weaker known _ _ (is most) h

-- the reported error is the answer to the text
pub first_fault : (most : ℕ) (text : List ℕ) (unjudged : VerdictError) (response : Response) → ReportsFault unjudged response → ExplainsRefusal most text unjudged → IsFaultAnswer most text response.answer
first_fault most text unjudged response is told = (is.rejected.fault, (subst (ExplainsRefusal most text) is.is told).first is.memory, is.answer)

-- the refusal in the response is that of the text
pub true_refusal : (most : ℕ) (text : List ℕ) (unjudged : VerdictError) (response : Response) → ReportsFault unjudged response → ExplainsRefusal most text unjudged → IfSome response.refusal (IsTrueRefusal most text)
true_refusal most text unjudged response is told =
    let is_true = subst (ExplainsRefusal most text) is.is told in
    subst (λ (refusal : Option TextRefusal). IfSome refusal (IsTrueRefusal most text)) (sym is.refusal) (is_true.first is.memory, is_true.kept)

early_explains : (most : ℕ) (text : List ℕ) (f : ℕ) (unjudged : VerdictError) → ExplainsVerdictError most text f unjudged → ExplainsRefusal most text unjudged
early_explains most text f (Input read_error.Source) told = tt
early_explains most text f (Input (read_error.Text rejected)) told = told.0
early_explains most text f (Audit fault) told = tt

-- why a question on a text got no answer explains the refusal of the text
pub explains : (most : ℕ) (question : Question) (text : List ℕ) (unjudged : VerdictError) → ExplainsNoAnswer most question text unjudged → ExplainsRefusal most text unjudged
explains most (Verdict faults workers) text unjudged told = told
explains most (Breach faults workers looks) text unjudged told = early_explains most text faults unjudged told
explains most (Reason faults workers) text unjudged told = told
explains most (Range workers) text unjudged told = told
explains most (Replays workers detail) text unjudged told = told

faulted : (most : ℕ) (question : Question) (text : List ℕ) (unjudged : VerdictError) (response : Response) → ReportsFault unjudged response → ExplainsNoAnswer most question text unjudged → IsAnswer most question text Faulted response.answer
faulted most (Verdict faults workers) text unjudged response is told = first_fault most text unjudged response is told
faulted most (Breach faults workers looks) text unjudged response is told =
    ((subst (ExplainsVerdictError most text faults) is.is told).1 is.memory, first_fault most text unjudged response is (early_explains most text faults unjudged told))
faulted most (Reason faults workers) text unjudged response is told = first_fault most text unjudged response is told
faulted most (Range workers) text unjudged response is told = first_fault most text unjudged response is told
faulted most (Replays workers detail) text unjudged response is told = first_fault most text unjudged response is told

-- the reported error is the answer to the question on the text
pub answers : (most : ℕ) (question : Question) (text : List ℕ) (unjudged : VerdictError) (response : Response) → ReportsFault unjudged response → ExplainsNoAnswer most question text unjudged
    → IsAnswer most question text response.ended response.answer
answers most question text unjudged response is told = subst (λ (e : Ended). IsAnswer most question text e response.answer) (sym is.ended) (faulted most question text unjudged response is told)
