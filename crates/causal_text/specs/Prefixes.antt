-- The recording that the complete lines of a prefix spell so far.
use Rattle.std.specs.Prelude.{◌≡◌, ◌≢◌, ℕ, List, ◌++◌, true, Some}
use Rattle.causal_trace.specs.Rows.{Recording}
use Rattle.causal_line.specs.declared.text_refusal.TextRefusal.{TextRefusal}
use Rattle.causal_line.specs.declared.kind.TextKind.TheVariants.{NoMemory}
use Rattle.causal_line.specs.declared.stage.Stage.{Stage}
use Rattle.causal_line.specs.declared.stage.Stage.TheVariants.{Within}
use Rattle.causal_line.specs.declared.version.Version.{Version}
use Rattle.causal_text.specs.FaultContexts.{IsTrueRefusalAlways}
use Rattle.causal_line.specs.Lines.{no_feed}
use Rattle.causal_lines.specs.ReadPositions.{recording_at}
use Rattle.causal_text.specs.Pieces.{concat_lines, AreComplete}
use Rattle.causal_text.specs.Spelling.{LeadsTo}

-- the complete lines of these bytes have no error and spell this recording so far, without an end line
pub record SpellsSoFar (most : ℕ) (bytes : List ℕ) (r : Recording) : Type 0 where
  pub complete : List (List ℕ)
  pub rest : List ℕ
  pub version : Version
  pub whole : bytes ≡ concat_lines complete ++ rest
  pub each : AreComplete complete
  pub unfinished : no_feed rest ≡ true
  pub reaches : LeadsTo most complete (Within version r)

-- the complete lines of these bytes have no error and spell this recording, with or without an end line
pub record SpellsLines (most : ℕ) (bytes : List ℕ) (r : Recording) : Type 0 where
  pub complete : List (List ℕ)
  pub rest : List ℕ
  pub stage : Stage
  pub whole : bytes ≡ concat_lines complete ++ rest
  pub each : AreComplete complete
  pub unfinished : no_feed rest ≡ true
  pub reaches : LeadsTo most complete stage
  pub recorded : recording_at stage ≡ Some r

-- the text has a prefix whose complete lines spell this recording so far
abbrev pub HasPrefixSpelling : ℕ → List ℕ → Recording → Type 0
HasPrefixSpelling most text r = (bytes more : List ℕ) × (text ≡ bytes ++ more) × SpellsSoFar most bytes r

-- the text is refused at a part of a line: whatever follows, this is its first error, and no longer prefix spells
-- another recording
pub record IsRefusedAt (most : ℕ) (bytes part : List ℕ) (rejected : TextRefusal) : Type 0 where
  pub rejection : IsTrueRefusalAlways most (bytes ++ part) rejected
  pub no_more : rejected.fault.kind ≢ NoMemory → (more : List ℕ) (r : Recording) → HasPrefixSpelling most ((bytes ++ part) ++ more) r → HasPrefixSpelling most bytes r
