-- The exit status where no command is run.
use Rattle.std.specs.Prelude.{ℕ}
use Rattle.causal_arguments.specs.declared.arguments.EarlyExit.{EarlyExit}
use Rattle.causal_arguments.specs.declared.arguments.EarlyExit.TheVariants.{Status, WriteFault, NoMemory}
use Rattle.causal_outcomes.specs.Endings.{status_of}
use Rattle.causal_outcomes.specs.declared.ended.Ended.TheVariants as ended

-- the exit status after no command: of bad usage or help that of their message, else that of the failure
abbrev pub status_after : EarlyExit → ℕ
status_after (Status status) = status
status_after WriteFault = status_of ended.WriteFault
status_after NoMemory = status_of ended.NoMemory
