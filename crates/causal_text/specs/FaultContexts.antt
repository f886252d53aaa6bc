-- The context of an error: the recording before a line, and the parsed line.
use Rattle.std.specs.Prelude.{◌≡◌, ◌≢◌, ℕ, ◌+◌, List, ◌∷◌, ◌++◌, length, Ok, IfSome}
use Rattle.causal_trace.specs.Rows.{Recording}
use Rattle.causal_line.specs.declared.text_refusal.TextRefusal.{TextRefusal}
use Rattle.causal_text.specs.declared.context_reading.ReadError.{ReadError}
use Rattle.causal_text.specs.declared.context_reading.ReadError.TheVariants.{Source, Text}
use Rattle.causal_line.specs.declared.kind.TextKind.TheVariants.{NoMemory}
use Rattle.causal_line.specs.declared.parsed_line.ParsedLine.{ParsedLine}
use Rattle.causal_line.specs.declared.stage.Stage.TheVariants.{Within}
use Rattle.causal_line.specs.declared.version.Version.{Version}
use Rattle.causal_line.specs.Lines.{lines}
use Rattle.causal_text.specs.Spelling.{LeadsTo, IsFirstFaultWithin, IsReadUpTo}
use Rattle.causal_line.specs.Values.{parse_line}

-- the context of a line: the lines before it spell this recording so far, without an error or end line, and it parses
-- as this
pub record IsContextWithin (most : ℕ) (text : List ℕ) (number : ℕ) (r : Recording) (says : ParsedLine) : Type 0 where
  pub before : List (List ℕ)
  pub line : List ℕ
  pub after : List (List ℕ)
  pub version : Version
  pub split : lines text ≡ before ++ line ∷ after
  pub reaches : LeadsTo most before (Within version r)
  pub said : parse_line line ≡ Ok says
  pub number_is : number ≡ length before + 1

-- the context of an error, if it has one, is true of the text
abbrev pub HasTrueContextWithin : ℕ → List ℕ → TextRefusal → Type 0
HasTrueContextWithin most text rejected = IfSome rejected.context (λ at. IsContextWithin most text rejected.fault.line at.trace.recording at.parsed_line)

-- a true refusal: the first error of the text, and its context; for `NoMemory`, the lines before it have no error
pub record IsTrueRefusalWithin (most : ℕ) (text : List ℕ) (rejected : TextRefusal) : Type 0 where
  pub first : rejected.fault.kind ≢ NoMemory → IsFirstFaultWithin most text rejected.fault
  pub memory : rejected.fault.kind ≡ NoMemory → IsReadUpTo most text rejected.fault.line
  pub kept : HasTrueContextWithin most text rejected

-- a true refusal of each text that begins with these bytes
abbrev pub IsTrueRefusalAlways : ℕ → List ℕ → TextRefusal → Type 0
IsTrueRefusalAlways most bytes rejected = (more : List ℕ) → IsTrueRefusalWithin most (bytes ++ more) rejected

-- the read error is explained: a source error, or a true refusal
abbrev pub ExplainsReadErrorWithin : ℕ → List ℕ → ReadError → Type 0
ExplainsReadErrorWithin most text Source = Unit {0}
ExplainsReadErrorWithin most text (Text rejected) = IsTrueRefusalWithin most text rejected
