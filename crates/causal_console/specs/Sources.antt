-- The bytes of what a command line names.
use Rattle.std.specs.Prelude.{ℕ, List, Option}
use Rattle.causal_console.specs.declared.source.Source.{Source}
use Rattle.causal_console.specs.declared.source.Source.TheVariants.{Standard, File}

-- the bytes that standard input or a file still has, if they are known
abbrev pub bytes_in_source : {I F : Type 0} → (I → Option (List ℕ)) → (F → Option (List ℕ)) → Source I F → Option (List ℕ)
bytes_in_source in_stream in_file (Standard stream) = in_stream stream
bytes_in_source in_stream in_file (File file) = in_file file
