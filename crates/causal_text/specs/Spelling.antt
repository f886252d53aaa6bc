-- The recording that a text spells, and the first error of a text that spells none.
-- The limit on entries also determines the maximum number of listed determinants and the maximum size of the text.
use Rattle.std.specs.Prelude.{◌≡◌, ℕ, ◌⊎◌, ◌+◌, ◌≤◌, sum_by, List, ◌∷◌, ◌++◌, length, map, Ok, Err}
use Rattle.causal_trace.specs.Limits.{default_entries}
use Rattle.causal_trace.specs.Rows.{Recording, IsWellFormed, FitsLimits}
use Rattle.causal_line.specs.declared.kind.TextKind.TheVariants.{Cut}
use Rattle.causal_line.specs.declared.kind.TextFault.{TextFault}
use Rattle.causal_line.specs.declared.stage.Stage.{Stage}
use Rattle.causal_line.specs.declared.stage.Stage.TheVariants.{Opening, Within, Ended}
use Rattle.causal_line.specs.declared.version.Version.{Version}
use Rattle.causal_line.specs.Lines.{lines}
use Rattle.causal_lines.specs.ReadPositions.{IsOpen}
use Rattle.causal_line.specs.Stages.{max_text_len, lines_up_to, advance_stage}
use Rattle.causal_line.specs.Values.{parse_line}
use Rattle.causal_line.specs.Versions.{FitsVersion}

-- the lines are exactly those of a recording in some version; the recording is well formed, and it and the text are
-- within the limits
pub record SpellsWithin (most : ℕ) (text : List ℕ) (r : Recording) : Type 0 where
  pub version : Version
  pub fits : FitsVersion version r
  pub well_formed : IsWellFormed r
  pub kept : FitsLimits most r
  pub said : map parse_line (lines text) ≡ map Ok (lines_up_to (Ended version r))
  pub within : length text ≤ max_text_len most

-- the text spells this recording, under the default limits
abbrev pub Spells : List ℕ → Recording → Type 0
Spells text r = SpellsWithin default_entries text r

-- ---- the first error

-- the recording of a stage is well formed, fits its version and is within the limits
abbrev pub IsSound : ℕ → Stage → Type 0
IsSound most Opening = Unit {0}
IsSound most (Within version r) = IsWellFormed r × FitsVersion version r × FitsLimits most r
IsSound most (Ended version r) = IsWellFormed r × FitsVersion version r × FitsLimits most r

-- these lines have no error and lead to the stage
pub record LeadsTo (most : ℕ) (before : List (List ℕ)) (stage : Stage) : Type 0 where
  pub said : map parse_line before ≡ map Ok (lines_up_to stage)
  pub sound : IsSound most stage
  pub within : sum_by length before ≤ max_text_len most

-- no line before this one has an error, and this one has this error
pub record IsFaultOfLine (most : ℕ) (text : List ℕ) (fault : TextFault) : Type 0 where
  pub before : List (List ℕ)
  pub line : List ℕ
  pub after : List (List ℕ)
  pub stage : Stage
  pub split : lines text ≡ before ++ line ∷ after
  pub reaches : LeadsTo most before stage
  pub faulty : advance_stage most stage (sum_by length before + length line) line ≡ Err fault.kind
  pub number : fault.line ≡ length before + 1

-- no line has an error, and none is the end line
pub record IsCut (most : ℕ) (text : List ℕ) (fault : TextFault) : Type 0 where
  pub stage : Stage
  pub reaches : LeadsTo most (lines text) stage
  pub unended : IsOpen stage
  pub number : fault.line ≡ length (lines text) + 1
  pub kind_is : fault.kind ≡ Cut

-- the first error of a text: that of its first faulty line, or `Cut`
abbrev pub IsFirstFaultWithin : ℕ → List ℕ → TextFault → Type 0
IsFirstFaultWithin most text fault = IsFaultOfLine most text fault ⊎ IsCut most text fault

-- the first error of a text, under the default limits
abbrev pub IsFirstFault : List ℕ → TextFault → Type 0
IsFirstFault text fault = IsFirstFaultWithin default_entries text fault

-- ---- the line that is being read

-- no line before the line of this number has an error
pub record IsReadUpTo (most : ℕ) (text : List ℕ) (line : ℕ) : Type 0 where
  pub before : List (List ℕ)
  pub after : List (List ℕ)
  pub stage : Stage
  pub split : lines text ≡ before ++ after
  pub reaches : LeadsTo most before stage
  pub number : line ≡ length before + 1

-- no line before the line of this number has an error, whatever follows these bytes
abbrev pub IsReadAt : ℕ → List ℕ → ℕ → Type 0
IsReadAt most bytes line = (more : List ℕ) → IsReadUpTo most (bytes ++ more) line
