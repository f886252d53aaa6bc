-- The first error of an invalid script.
use Rattle.std.specs.Prelude.{◌≡◌, ℕ, zero, suc, ◌+◌, ◌<◌, List, length, take, Option, Some, None, slice_get}
use Rattle.causal_protocol.specs.declared.request.Request.{Request}
use Rattle.causal_script.specs.declared.script.ScriptFault.{ScriptFault}
use Rattle.causal_script.specs.declared.script.ScriptFaultKind.{ScriptFaultKind}
use Rattle.causal_script.specs.declared.script.ScriptFaultKind.TheVariants.{Big, Script, NoMemory}
use Rattle.causal_script.specs.declared.start.Start.{Start}
use Rattle.causal_script.specs.Lines.{script_lines, count_line_feeds}
use Rattle.causal_script.specs.Spelling.{max_script, start_line, command_line, IsStart, IsRequest}

-- the line starts a script
abbrev pub IsStartLine : List ℕ → Type 0
IsStartLine line = (s : Start) × IsStart s × (line ≡ start_line s)

-- the line is a command
abbrev pub IsCommandLine : List ℕ → Type 0
IsCommandLine line = (r : Request) × IsRequest r × (line ≡ command_line r)

-- the next line is valid after `before` lines: the first line exists and starts the script; each further line, if there
-- is one, is a command
abbrev pub IsInPlace : ℕ → Option (List ℕ) → Type 0
IsInPlace zero None = ⊥
IsInPlace zero (Some line) = IsStartLine line
IsInPlace (suc before) None = Unit {0}
IsInPlace (suc before) (Some line) = IsCommandLine line

-- The error after `before` lines. A byte is in the line that has as many lines before it as there are line feeds before
-- the byte; so a line feed is in the line that it ends.
abbrev pub IsFaultAfterLines : List ℕ → ℕ → ScriptFaultKind → Type 0
IsFaultAfterLines text before Big = (max_script < length text) × (before ≡ count_line_feeds (take max_script text))
IsFaultAfterLines text before Script = IsInPlace before (slice_get (script_lines text) before) → ⊥
IsFaultAfterLines text before NoMemory = ⊥

-- none of the first `count` lines has an error
abbrev pub AreSound : List ℕ → ℕ → Type 0
AreSound text count = (before : ℕ) (kind : ScriptFaultKind) → before < count → IsFaultAfterLines text before kind → ⊥

-- the line of the error is the first that has one; if it has both kinds, the error is `Big`
pub record IsFirstScriptFault (text : List ℕ) (fault : ScriptFault) : Type 0 where
  pub before : ℕ
  pub number : fault.line ≡ before + 1
  pub sound : AreSound text before
  pub faulty : IsFaultAfterLines text before fault.kind
  pub big_first : fault.kind ≡ Script → IsFaultAfterLines text before Big → ⊥

-- no line before the line with this number has an error
pub record IsScriptReadUpTo (text : List ℕ) (line : ℕ) : Type 0 where
  pub before : ℕ
  pub number : line ≡ before + 1
  pub sound : AreSound text before
