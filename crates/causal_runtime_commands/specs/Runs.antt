-- What `run` writes for the text of a script.
use Rattle.std.specs.Prelude.{◌≡◌, ℕ, ◌+◌, ◌<◌, List, length, take, Option, IfSome}
use Rattle.std.specs.Io.KnownBytes.{Appends, Keeps}
use Rattle.causal_trace.specs.Rows.{Recording}
use Rattle.causal_trace.specs.Judgement.{IsSafeTrace}
use Rattle.causal_lines.specs.Canonical.{canonical_text}
use Rattle.causal_protocol.specs.declared.request.CoreFault.{CoreFault}
use Rattle.causal_script.specs.declared.script.Script.{Script}
use Rattle.causal_script.specs.declared.script.ScriptFault.{ScriptFault}
use Rattle.causal_script.specs.Spelling.{SpellsScript, script_content, max_script}
use Rattle.causal_script.specs.Faults.{IsFirstScriptFault}
use Rattle.causal_script.specs.Printing.{script_line, refused_line}
use Rattle.causal_run.specs.Runs.{IsRunFrom, IsRefusedFrom}
use Rattle.causal_run.specs.ScriptProcesses.{IsStartOf}
use Rattle.causal_outcomes.specs.Reading.{ReadsAtMost}
use Rattle.causal_outcomes.specs.declared.ended.Ended.{Ended}
use Rattle.causal_outcomes.specs.declared.ended.Ended.TheVariants.{Faulted, Ran, Refused, ReadFault, WriteFault, NoMemory, FinishFault}

-- the bytes that are read of a text: at most one more than a script may have
abbrev pub script_bytes_read : List ℕ → List ℕ
script_bytes_read text = take (max_script + 1) text

-- the answer to the text of a script, by the ending. `Ran`: the canonical text of the trace of a run of all its
-- commands, none refused, by the script's own processes, and that trace is safe for the script's f. `Refused`: the line
-- of the first command that such a run refuses. `Faulted`: the line of the text's first error.
abbrev pub IsScriptAnswer : List ℕ → Ended → List ℕ → Type 0
IsScriptAnswer text Ran out = (script : Script) × SpellsScript text (script_content script) × (recording : Recording)
    × IsRunFrom (IsStartOf script) script.commands script.exploration recording × IsSafeTrace recording script.f × (out ≡ canonical_text recording)
IsScriptAnswer text Refused out = (script : Script) × SpellsScript text (script_content script) × (line : ℕ) × (why : CoreFault)
    × IsRefusedFrom (IsStartOf script) script.commands line why × (out ≡ refused_line line why)
IsScriptAnswer text Faulted out = (first : ScriptFault) × IsFirstScriptFault text first × (out ≡ script_line first)
IsScriptAnswer text _ out = ⊥

-- the writer's contents before and after, by the ending: the whole answer is appended; after a write fault a proper
-- prefix of it; else nothing
abbrev pub WritesScript : List ℕ → Ended → Option (List ℕ) → Option (List ℕ) → Type 0
WritesScript text ReadFault old new = Keeps old new
WritesScript text NoMemory old new = Keeps old new
WritesScript text FinishFault old new = Keeps old new
WritesScript text WriteFault old new =
    (ended : Ended) × (out : List ℕ) × (n : ℕ) × IsScriptAnswer text ended out × (n < length out) × Appends old new (take n out)
WritesScript text ended old new = (out : List ℕ) × IsScriptAnswer text ended out × Appends old new out

-- `WritesScript` for the bytes read from a reader, if its bytes are known
abbrev pub WritesScriptFor : Option (List ℕ) → Ended → Option (List ℕ) → Option (List ℕ) → Type 0
WritesScriptFor given ended old new = IfSome given (λ text. WritesScript (script_bytes_read text) ended old new)

-- the reader advances by at most the bytes that are read of a script
abbrev pub ReadsAtMostScript : Option (List ℕ) → Option (List ℕ) → Type 0
ReadsAtMostScript old new = ReadsAtMost (max_script + 1) old new
