-- The error and the context of a refused line.
use Rattle.std.specs.Prelude.{◌≡◌, List, ℕ, Option, Result, Ok, Err, IfSome}
use Rattle.causal_trace.specs.Rows.{Recording}
use Rattle.causal_line.specs.declared.text_refusal.FaultContext.{FaultContext}
use Rattle.causal_line.specs.declared.text_refusal.TextRefusal.{TextRefusal}
use Rattle.causal_line.specs.declared.kind.TextKind.{TextKind}
use Rattle.causal_line.specs.declared.kind.TextFault.{TextFault}
use Rattle.causal_line.specs.declared.parsed_line.ParsedLine.{ParsedLine}
use Rattle.causal_line.specs.declared.stage.Stage.{Stage}
use Rattle.causal_line.specs.declared.stage.Stage.TheVariants.{Within}
use Rattle.causal_line.specs.declared.version.Version.{Version}
use Rattle.causal_line.specs.Returns.{IsFaultOrNoMemory}
use Rattle.causal_line.specs.Values.{parse_line}

-- a result whose error kind is given this line number
infixl 10 ◌at◌
abbrev pub ◌at◌ : {A : Type 0} → Result A TextKind → ℕ → Result A TextFault
(Ok x) at line = Ok x
(Err kind) at line = Err (record { line = line; kind = kind })

-- the result is the defined value or error, or `NoMemory`, where the error has a context
abbrev pub ReturnsTextRefusal : {A : Type 0} → Result A TextRefusal → Result A TextFault → Type 0
ReturnsTextRefusal (Ok x) read = read ≡ Ok x
ReturnsTextRefusal (Err rejected) read = IsFaultOrNoMemory rejected.fault.kind rejected.fault read

-- the stage is within a text, and r is its recording so far
abbrev pub IsWithinText : Stage → Recording → Type 0
IsWithinText stage r = (version : Version) × (stage ≡ Within version r)

-- the context, if there is one, contains the recording of the stage and this parsed line
abbrev pub IsContextOf : Stage → ParsedLine → Option FaultContext → Type 0
IsContextOf stage parsed_line kept = IfSome kept (λ context. IsWithinText stage context.trace.recording × (context.parsed_line ≡ parsed_line))

-- the context, if there is one, contains the recording of the stage and the parsed form of this line
abbrev pub IsContextAt : Stage → List ℕ → Option FaultContext → Type 0
IsContextAt stage line kept = IfSome kept (λ context. IsWithinText stage context.trace.recording × (parse_line line ≡ Ok context.parsed_line))
