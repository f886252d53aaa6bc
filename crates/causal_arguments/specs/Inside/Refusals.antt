-- How the program ends if the command line requests no command.
use Rattle.std.specs.Prelude.{Bool, true, false}
use Rattle.clap.specs.declared.error.kind.ErrorKind.{ErrorKind}
use Rattle.clap.specs.declared.error.kind.ErrorKind.TheVariants.{OutOfMemory, DisplayHelp, DisplayVersion}
use Rattle.causal_arguments.specs.declared.arguments.EarlyExit.{EarlyExit}
use Rattle.causal_arguments.specs.declared.arguments.EarlyExit.TheVariants.{Status, WriteFault, NoMemory}

-- help and the version are answers, once printed; an allocation that failed is not bad usage; any other message is
abbrev pub exit_for_clap_error : ErrorKind → Bool → EarlyExit
exit_for_clap_error OutOfMemory printed = NoMemory
exit_for_clap_error DisplayHelp true = Status 0
exit_for_clap_error DisplayHelp false = WriteFault
exit_for_clap_error DisplayVersion true = Status 0
exit_for_clap_error DisplayVersion false = WriteFault
exit_for_clap_error _ printed = Status 3
