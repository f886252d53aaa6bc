-- What was expected at an invalid line of a script.
use Rattle.std.specs.Prelude.{ℕ, ◌==◌, if◌then◌else◌, List, Option, Some, None, codes}
use Rattle.causal_script.specs.declared.script.ScriptFaultKind.{ScriptFaultKind}
use Rattle.causal_script.specs.declared.script.ScriptFaultKind.TheVariants as kind
use Rattle.causal_runtime_commands.specs.declared.script.Reason.{Reason}
use Rattle.causal_runtime_commands.specs.declared.script.Reason.TheVariants as Why

-- line 1 is a start line, each later one a command
abbrev pub expected_at : ℕ → List ℕ
expected_at line =
    if line == 1 then codes "expected there: start ring N F H, start echo N F H or start tally N F, or the same with explore in place of start and SEED STEPS at the end, with N 1 to 256, F 0 to 65535, H 0 to 255, SEED 0 to 4294967295 and STEPS 0 to 1000" else
    codes "expected there: deliver Q SOURCE SSN, crash P, restart P, flush P or forget P, with one space between words, Q, SOURCE and P 0 to 255 and SSN 0 to 4294967295"

-- the hint on a line that is invalid in a script there; None for any other error
abbrev pub hint_at : ℕ → ScriptFaultKind → Option (List ℕ)
hint_at line kind.Script = Some (expected_at line)
hint_at line _ = None

-- the hint on the reason; None for a refused command
abbrev pub reason_hint : Reason → Option (List ℕ)
reason_hint (Why.Script fault) = hint_at fault.line fault.kind
reason_hint (Why.Run fault) = None
