-- What `explain --map` writes for the text of a trace and a map.
-- `most` is the maximum number of entries of a trace.
use Rattle.std.specs.Prelude.{◌≡◌, ◌≢◌, ℕ, List, [], Option, None, Some, IfSome}
use Rattle.causal_audit.specs.declared.verdict.Verdict.TheVariants.{Accept}
use Rattle.causal_audit.specs.declared.judged.Judged.{Judged}
use Rattle.causal_audit.specs.VerdictLines.{verdict_line}
use Rattle.causal_facts.specs.declared.fact.Fact.{Fact}
use Rattle.causal_facts.specs.declared.form.Form.TheVariants.{Lines}
use Rattle.causal_answers.specs.declared.answer.Answer.{Answer}
use Rattle.causal_answers.specs.Answers.{IsAnswerText}
use Rattle.causal_outcomes.specs.declared.ended.Ended.{Ended}
use Rattle.causal_outcomes.specs.declared.ended.Ended.TheVariants.{Accepted, Breached, Faulted}
use Rattle.causal_outcomes.specs.declared.map_fault.MapFault.{MapFault}
use Rattle.causal_commands.specs.declared.mapped_reason.MappedOutcome.{MappedOutcome}
use Rattle.causal_outcomes.specs.AnswerWrites.{WritesAnswer}
use Rattle.causal_outcomes.specs.Merges.{bytes_read}
use Rattle.causal_commands.specs.PlacedLines.{IsPlacedText, whole_lines, map_fault}
use Rattle.causal_commands.specs.Answers.{IsExplained, IsFaultAnswer}

-- the text spells a trace with this verdict for f, the map has no error, and the output is the verdict's line and those of
-- the facts that explain it, with the places of the map
pub record IsMappedReason (most : ℕ) (text map : List ℕ) (f : ℕ) (judged : Judged) (out : List ℕ) : Type 0 where
  pub facts : List Fact
  pub explained : IsExplained most text f judged facts
  pub faultless : map_fault most map judged.entries facts ≡ None
  pub placed : IsPlacedText (whole_lines map) facts (verdict_line f judged) out

-- the text spells a trace, and the map has this error for the facts that explain its verdict for f
pub record IsMapFault (most : ℕ) (text map : List ℕ) (f : ℕ) (fault : MapFault) : Type 0 where
  pub judged : Judged
  pub facts : List Fact
  pub explained : IsExplained most text f judged facts
  pub faulty : map_fault most map judged.entries facts ≡ Some fault

-- what is written if an error is found: the line of the text's first error; of an error of the map, nothing
abbrev pub IsMappedFault : ℕ → List ℕ → List ℕ → ℕ → Option MapFault → List ℕ → Type 0
IsMappedFault most text map f None out = (answer : Answer) × IsFaultAnswer most text answer × IsAnswerText Lines answer out
IsMappedFault most text map f (Some fault) out = IsMapFault most text map f fault × (out ≡ [])

-- the answer to a text and a map for f, by the ending, with the error of the map that is returned
abbrev pub IsMappedAnswer : ℕ → List ℕ → List ℕ → ℕ → Option MapFault → Ended → List ℕ → Type 0
IsMappedAnswer most text map f told Accepted out = (judged : Judged) × IsMappedReason most text map f judged out × (judged.verdict ≡ Accept) × (told ≡ None)
IsMappedAnswer most text map f told Breached out = (judged : Judged) × IsMappedReason most text map f judged out × (judged.verdict ≢ Accept) × (told ≡ None)
IsMappedAnswer most text map f told Faulted out = IsMappedFault most text map f told out
IsMappedAnswer most text map f told _ out = ⊥

-- what is written for the bytes of the two readers, if they are known. Of the map at most one byte more is read than it
-- may have.
abbrev pub WritesMappedFor : ℕ → Option (List ℕ) → Option (List ℕ) → ℕ → MappedOutcome → Option (List ℕ) → Option (List ℕ) → Type 0
WritesMappedFor most given map f m old new = IfSome given (λ text. IfSome map (λ map.
    WritesAnswer (IsMappedAnswer most text (bytes_read most map) f m.map_fault) m.outcome.ended old new))
