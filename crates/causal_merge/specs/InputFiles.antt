-- The files of the input, and the file and the line there of a line of the input.
use Rattle.std.specs.Prelude.{ℕ, ◌-◌, nat_lt, List}
use Rattle.std.specs.List.{prefix_len}
use Rattle.std.specs.List.Sorted.{IsNonDecreasingBy}
use Rattle.causal_merge.specs.declared.input_files.InputFile.{InputFile}

-- no file begins before an earlier one
abbrev pub AreFilesInOrder : List InputFile → Type 0
AreFilesInOrder files = IsNonDecreasingBy (λ file. file.begun) files

-- the index of the file in which a line begins: of the last of those that begin before the line after it. Lines count
-- from 1.
abbrev pub file_index : List InputFile → ℕ → ℕ
file_index files line = prefix_len (λ file. nat_lt file.begun line) files - 1
