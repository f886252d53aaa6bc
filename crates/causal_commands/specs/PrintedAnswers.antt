-- What is written in answer to a question on the text of a trace.
-- `most` is the maximum number of entries of a trace.
use Rattle.std.specs.Prelude.{ℕ, List, Option, IfSome}
use Rattle.causal_facts.specs.declared.form.Form.{Form}
use Rattle.causal_answers.specs.declared.answer.Answer.{Answer}
use Rattle.causal_answers.specs.Answers.{IsAnswerText}
use Rattle.causal_outcomes.specs.declared.ended.Ended.{Ended}
use Rattle.causal_commands.specs.declared.question.Question.{Question}
use Rattle.causal_outcomes.specs.AnswerWrites.{WritesAnswer}
use Rattle.causal_commands.specs.Answers.{IsAnswer}

-- the bytes are the answer to the question in this form
abbrev pub IsPrintedAnswer : ℕ → Form → Question → List ℕ → Ended → List ℕ → Type 0
IsPrintedAnswer most form question text ended out = (answer : Answer) × IsAnswer most question text ended answer × IsAnswerText form answer out

-- what is written for the bytes of a reader, if they are known: the answer to the question, in this form
abbrev pub WritesFor : ℕ → Form → Question → Option (List ℕ) → Ended → Option (List ℕ) → Option (List ℕ) → Type 0
WritesFor most form question given ended old new = IfSome given (λ text. WritesAnswer (IsPrintedAnswer most form question text) ended old new)
