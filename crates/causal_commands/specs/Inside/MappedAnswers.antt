-- The answer of `explain --map`, before it is written.
use Rattle.std.specs.Prelude.{ℕ, List, Option, IfSome}
use Rattle.causal_workers.specs.declared.streaming.VerdictError.{VerdictError}
use Rattle.causal_commands.specs.declared.mapped_reason.MappedAnswer.{MappedAnswer}
use Rattle.causal_commands.specs.declared.reason.ExplainedVerdict.{ExplainedVerdict}
use Rattle.causal_commands.specs.MappedReasons.{IsMappedAnswer}
use Rattle.causal_outcomes.specs.Merges.{bytes_read}
use Rattle.causal_commands.specs.Answers.{IsExplained}
use Rattle.causal_commands.specs.Inside.Refusals.{ExplainsRefusal}

-- the answer to a text and the bytes that are read of a map
abbrev pub IsMappedTo : ℕ → List ℕ → List ℕ → ℕ → MappedAnswer → Type 0
IsMappedTo most text map f given = IsMappedAnswer most text (bytes_read most map) f given.map_fault given.answer.ended given.answer.line.items

-- the answer to the bytes of the two readers, if they are known
abbrev pub IsMappedFor : ℕ → Option (List ℕ) → Option (List ℕ) → ℕ → MappedAnswer → Type 0
IsMappedFor most given map f answer = IfSome given (λ text. IfSome map (λ map. IsMappedTo most text map f answer))

-- the answer to each text and map whose error this is
abbrev pub IsMappedFaultAnswer : VerdictError → MappedAnswer → Type 0
IsMappedFaultAnswer unjudged given = (most : ℕ) (text map : List ℕ) (f : ℕ) → ExplainsRefusal most text unjudged
    → IsMappedAnswer most text map f given.map_fault given.answer.ended given.answer.line.items

-- the answer to each text whose explanation for f this is, and to these bytes of a map
abbrev pub IsPlaced : ℕ → List ℕ → ℕ → ExplainedVerdict → MappedAnswer → Type 0
IsPlaced most map f known given = (text : List ℕ) → IsExplained most text f known.judged known.facts.items
    → IsMappedAnswer most text map f given.map_fault given.answer.ended given.answer.line.items

-- `IsPlaced` for the bytes that are read of a map, if they are known
abbrev pub IsPlacedFor : ℕ → Option (List ℕ) → ℕ → ExplainedVerdict → MappedAnswer → Type 0
IsPlacedFor most map f known given = IfSome map (λ map. IsPlaced most (bytes_read most map) f known given)
