-- The script that a text spells.
use Rattle.std.specs.Prelude.{◌≡◌, ℕ, ◌^◌, ◌<◌, ◌≤◌, List, [], ◌∷◌, ◌++◌, length, map, codes, decimal, Option, Some, None, IfSome}
use Rattle.std.specs.List.{AllByRecursion, range_with_len}
use Rattle.causal_protocol.specs.declared.request.Request.{Request}
use Rattle.causal_protocol.specs.declared.request.Request.TheVariants.{Deliver, Crash, Restart, Flush, Forget}
use Rattle.causal_script.specs.declared.script.Kind.{Kind}
use Rattle.causal_script.specs.declared.script.Kind.TheVariants.{Ring, Echo, Tally}
use Rattle.causal_script.specs.declared.script.Command.{Command}
use Rattle.causal_script.specs.declared.script.Exploration.{Exploration}
use Rattle.causal_script.specs.declared.script.Script.{Script}
use Rattle.causal_script.specs.declared.start.Start.{Start}
use Rattle.causal_script.specs.Lines.{script_lines}

-- the maximum size of a script in bytes
abbrev pub max_script : ℕ
max_script = 1048576

-- the maximum number of calls of an exploration
abbrev pub max_steps : ℕ
max_steps = 1000

-- the content of a script, without the memory layout of its commands
pub record ScriptContent : Type 0 where
  pub start : Start
  pub commands : List Command

-- the content of a script
abbrev pub script_content : Script → ScriptContent
script_content s = record { start = record { kind = s.kind; n = s.n; f = s.f; param = s.param; exploration = s.exploration }; commands = s.commands }

-- ---- the lines

-- the first word, with the space after it
abbrev pub exploration_word : Option Exploration → List ℕ
exploration_word None = codes "start "
exploration_word (Some e) = codes "explore "

-- ` SEED STEPS`, where the run is explored
abbrev pub exploration_numbers : Option Exploration → List ℕ
exploration_numbers None = []
exploration_numbers (Some e) = codes " " ++ (decimal e.seed ++ (codes " " ++ decimal e.steps))

-- `N F PARAM`, and the numbers of the exploration
abbrev pub start_numbers : Start → List ℕ
start_numbers s = decimal s.n ++ (codes " " ++ (decimal s.f ++ (codes " " ++ (decimal s.param ++ exploration_numbers s.exploration))))

-- the first line, for a given kind
abbrev pub start_line_at : Kind → Start → List ℕ
start_line_at Ring s = exploration_word s.exploration ++ (codes "ring " ++ start_numbers s)
start_line_at Echo s = exploration_word s.exploration ++ (codes "echo " ++ start_numbers s)
start_line_at Tally s =
    exploration_word s.exploration ++ (codes "tally " ++ (decimal s.n ++ (codes " " ++ (decimal s.f ++ exploration_numbers s.exploration))))

-- the first line
abbrev pub start_line : Start → List ℕ
start_line s = start_line_at s.kind s

-- the line of a command
abbrev pub command_line : Request → List ℕ
command_line (Deliver q source ssn) =
    codes "deliver " ++ (decimal q.0 ++ (codes " " ++ (decimal source.0 ++ (codes " " ++ decimal ssn))))
command_line (Crash p) = codes "crash " ++ decimal p.0
command_line (Restart p) = codes "restart " ++ decimal p.0
command_line (Flush p) = codes "flush " ++ decimal p.0
command_line (Forget p) = codes "forget " ++ decimal p.0

-- ---- the numbers

-- the numbers of an exploration are in their ranges
abbrev pub IsExploration : Exploration → Type 0
IsExploration e = (e.seed < 2 ^ 32) × (e.steps ≤ max_steps)

-- the numbers of a first line are in their ranges; a tally has no parameter
pub record IsStart (s : Start) : Type 0 where
  pub some : 1 ≤ s.n
  pub few : s.n ≤ 256
  pub faults : s.f < 2 ^ 16
  pub param : s.param < 2 ^ 8
  pub tally : s.kind ≡ Tally → s.param ≡ 0
  pub explored : IfSome s.exploration IsExploration

-- the numbers of a command are in their ranges
abbrev pub IsRequest : Request → Type 0
IsRequest (Deliver q source ssn) = (q.0 < 2 ^ 8) × (source.0 < 2 ^ 8) × (ssn < 2 ^ 32)
IsRequest (Crash p) = p.0 < 2 ^ 8
IsRequest (Restart p) = p.0 < 2 ^ 8
IsRequest (Flush p) = p.0 < 2 ^ 8
IsRequest (Forget p) = p.0 < 2 ^ 8

-- a valid script content: its numbers are in range; its commands are on the lines 2, 3 and so on; there are at most as
-- many as bytes in the text
pub record IsScriptContent (p : ScriptContent) : Type 0 where
  pub start : IsStart p.start
  pub requests : AllByRecursion (λ c. IsRequest c.request) p.commands
  pub numbered : map (λ c. c.line) p.commands ≡ range_with_len 2 (length p.commands)
  pub room : length p.commands ≤ max_script

-- the text consists of the script's lines and is within the size limit
pub record SpellsScript (text : List ℕ) (p : ScriptContent) : Type 0 where
  pub content : IsScriptContent p
  pub said : script_lines text ≡ start_line p.start ∷ map (λ c. command_line c.request) p.commands
  pub within : length text ≤ max_script
