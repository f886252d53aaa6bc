-- The lines read so far: their commands, the remaining bytes, and the next line's error.
use Rattle.std.specs.Prelude.{◌≡◌, ℕ, ◌+◌, ◌≤◌, ◌<◌, ◌==◌, Bool, false, if◌then◌else◌, List, ◌++◌, length, take, drop, map, Option, Some, None, ok_or, Result, Err}
use Rattle.std.specs.List.{AllByRecursion, range_with_len}
use Rattle.causal_script.specs.declared.script.Command.{Command}
use Rattle.causal_script.specs.declared.script.ScriptFault.{ScriptFault}
use Rattle.causal_script.specs.declared.script.ScriptFaultKind.TheVariants.{Big, Script}
use Rattle.causal_script.specs.Lines.{script_lines, count_line_feeds}
use Rattle.causal_script.specs.Spelling.{max_script, command_line, IsRequest}
use Rattle.causal_script.specs.Faults.{AreSound}

-- the number of the line that contains the first byte past the limit, if any
abbrev pub IsBigLine : List ℕ → Option ℕ → Type 0
IsBigLine text None = length text ≤ max_script
IsBigLine text (Some line) = (max_script < length text) × (line ≡ count_line_feeds (take max_script text) + 1)

-- the line is the one that contains the first byte past the limit
abbrev pub is_line : ℕ → Option ℕ → Bool
is_line line None = false
is_line line (Some big) = big == line

-- the parsed line, or its error
abbrev pub line_or_fault : {A : Type 0} → Option ℕ → ℕ → Option A → Result A ScriptFault
line_or_fault big line said =
    if is_line line big then Err (record { line = line; kind = Big })
    else ok_or said (record { line = line; kind = Script })

-- `count` lines were read, none has an error, and these bytes remain
pub record IsAfter (text : List ℕ) (count : ℕ) (left : List ℕ) : Type 0 where
  pub rest : drop count (script_lines text) ≡ script_lines left
  pub within : count ≤ length (script_lines text)
  pub sound : AreSound text count

-- these are the commands on the lines of `rest`, up to the remaining bytes
pub record AreCommands (rest : List ℕ) (commands : List Command) (left : List ℕ) : Type 0 where
  pub said : script_lines rest ≡ map (λ c. command_line c.request) commands ++ script_lines left
  pub requests : AllByRecursion (λ c. IsRequest c.request) commands

-- the commands are those on the text's lines from 2 up to this one
pub record AreOnLines (text : List ℕ) (commands : List Command) (line : ℕ) (left : List ℕ) : Type 0 where
  pub after : IsAfter text line left
  pub numbered : map (λ c. c.line) commands ≡ range_with_len 2 (length commands)
  pub count : line ≡ length commands + 1
