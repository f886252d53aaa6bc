-- What is written for the text of a trace, if the bytes of the reader and of the writer are known.
use Rattle.std.proofs.Common.{◌≡◌, ◌<◌, List, ℕ, Option, None, Some, inl, inr, length, take, sym, subst}
use Rattle.std.specs.Prelude.{IfSome}
use Rattle.std.specs.Io.KnownBytes.{Appends}
use Rattle.std.proofs.KnownBytes.{Keeps-refl}
use Rattle.causal_facts.specs.declared.form.Form.{Form}
use Rattle.causal_answers.specs.Answers.{IsAnswerText}
use Rattle.causal_commands.specs.declared.answer.PrintedAnswer.{PrintedAnswer}
use Rattle.causal_outcomes.specs.declared.ended.Ended.{Ended}
use Rattle.causal_outcomes.specs.declared.ended.Ended.TheVariants.{Accepted, Breached, Ranged, Followed, Strayed, Merged, Faulted, Ran, Refused, ReadFault, WriteFault, NoMemory, NoWorker, FinishFault}
use Rattle.causal_commands.specs.declared.question.Question.{Question}
use Rattle.causal_commands.specs.declared.response.Response.{Response}
use Rattle.causal_commands.specs.PrintedAnswers.{IsPrintedAnswer}
use Rattle.causal_outcomes.specs.AnswerWrites.{WritesAnswer}
use Rattle.causal_commands.specs.Inside.Answers.{IsAnswerFor, WritesNothing, WritesWholeAnswer, IsWritten}
use Rattle.causal_outcomes.proofs.Lemmas.Known.{IfSome-weaker}

-- an answer that is appended whole is written as its ending requires
whole : (Answers : Ended → List ℕ → Type 0) (old new : Option (List ℕ)) (ended : Ended) (line : List ℕ) → WritesWholeAnswer ended → Answers ended line → Appends old new line → WritesAnswer Answers ended old new
whole Answers old new Accepted line told is all = (line, is, all)
whole Answers old new Breached line told is all = (line, is, all)
whole Answers old new Ranged line told is all = (line, is, all)
whole Answers old new Followed line told is all = (line, is, all)
whole Answers old new Strayed line told is all = (line, is, all)
whole Answers old new Merged line told is all = (line, is, all)
whole Answers old new Faulted line told is all = (line, is, all)
whole Answers old new Ran line told is all = (line, is, all)
whole Answers old new Refused line told is all = (line, is, all)
whole Answers old new ReadFault line told is all = absurd told
whole Answers old new WriteFault line told is all = absurd told
whole Answers old new NoMemory line told is all = absurd told
whole Answers old new NoWorker line told is all = absurd told
whole Answers old new FinishFault line told is all = absurd told

written_so : (Answers : Ended → List ℕ → Type 0) (old new : Option (List ℕ)) (answer : PrintedAnswer) (ended : Ended) → WritesWholeAnswer answer.ended → Answers answer.ended answer.line.items
    → IsWritten answer ended old new → WritesAnswer Answers ended old new
written_so Answers old new answer ended told is (inl all) =
    subst (λ (e : Ended). WritesAnswer Answers e old new) (sym all.0) (whole Answers old new answer.ended answer.line.items told is all.1)
written_so Answers old new answer ended told is (inr some) =
    subst (λ (e : Ended). WritesAnswer Answers e old new) (sym some.0) (answer.ended, answer.line.items, some.1.0, is, some.1.1, some.1.2)

-- the whole line was appended
pub line_written : (answer : PrintedAnswer) (ended : Ended) (old new : Option (List ℕ)) (bytes : List ℕ) → bytes ≡ answer.line.items → ended ≡ answer.ended → Appends old new bytes → IsWritten answer ended old new
line_written answer ended old new bytes same is all = inl (is, subst (Appends old new) same all)

-- a proper prefix of the line was appended
pub line_begun : (answer : PrintedAnswer) (ended : Ended) (old new : Option (List ℕ)) (bytes : List ℕ) (n : ℕ) → bytes ≡ answer.line.items → ended ≡ WriteFault → n < length bytes → Appends old new (take n bytes)
    → IsWritten answer ended old new
line_begun answer ended old new bytes n same is some first =
    inr (is, (n, subst (λ b. n < length b) same some, subst (λ b. Appends old new (take n b)) same first))

-- an answer to the bytes of a reader is written as its ending requires
pub writes : (Answers : List ℕ → Ended → List ℕ → Type 0) (known old new : Option (List ℕ)) (answer : PrintedAnswer) (ended : Ended) → WritesWholeAnswer answer.ended
    → IfSome known (λ text. Answers text answer.ended answer.line.items) → IsWritten answer ended old new → IfSome known (λ text. WritesAnswer (Answers text) ended old new)
writes Answers known old new answer ended told is w = IfSome-weaker known _ _ (λ text a. written_so (Answers text) old new answer ended told a w) is

nothing_so : (Answers : Ended → List ℕ → Type 0) (old : Option (List ℕ)) (ended : Ended) → WritesNothing ended → WritesAnswer Answers ended old old
nothing_so Answers old ReadFault silent = Keeps-refl old
nothing_so Answers old NoMemory silent = Keeps-refl old
nothing_so Answers old NoWorker silent = Keeps-refl old
nothing_so Answers old WriteFault silent = absurd silent
nothing_so Answers old Accepted silent = absurd silent
nothing_so Answers old Breached silent = absurd silent
nothing_so Answers old Ranged silent = absurd silent
nothing_so Answers old Followed silent = absurd silent
nothing_so Answers old Strayed silent = absurd silent
nothing_so Answers old Merged silent = absurd silent
nothing_so Answers old Faulted silent = absurd silent
nothing_so Answers old Ran silent = absurd silent
nothing_so Answers old Refused silent = absurd silent
nothing_so Answers old FinishFault silent = absurd silent

-- a fact for all bytes holds for known bytes
pub known_all : (known : Option (List ℕ)) (P : List ℕ → Type 0) → ((bytes : List ℕ) → P bytes) → IfSome known P
known_all None P all = tt
known_all (Some bytes) P all = all bytes

-- nothing is appended if the ending writes nothing
pub writes_nothing : (Answers : List ℕ → Ended → List ℕ → Type 0) (known old : Option (List ℕ)) (ended : Ended) → WritesNothing ended → IfSome known (λ text. WritesAnswer (Answers text) ended old old)
writes_nothing Answers known old ended silent = known_all known _ (λ text. nothing_so (Answers text) old ended silent)

-- the printed answer is the answer
pub printed : (most : ℕ) (form : Form) (question : Question) (known : Option (List ℕ)) (response : Response) (answer : PrintedAnswer) → answer.ended ≡ response.ended
    → IsAnswerText form response.answer answer.line.items → IsAnswerFor most question known response.ended response.answer
    → IfSome known (λ text. IsPrintedAnswer most form question text answer.ended answer.line.items)
printed most form question known response answer ended line are =
    IfSome-weaker known _ _ (λ text is. subst (λ (e : Ended). IsPrintedAnswer most form question text e answer.line.items) (sym ended) (response.answer, is, line)) are
