-- A reader of recorder files, line after line.
-- `most` is the maximum number of entries of the trace. `before` has the lines read, the newest first.
use Rattle.std.specs.Prelude.{◌≡◌, ℕ, List, ◌++◌, length, reverse, sum_by, Result, Ok, Err}
use Rattle.causal_merge.specs.declared.fault.MergeFault.{MergeFault}
use Rattle.causal_merge.specs.declared.parsed_files.ParsedFiles.{ParsedFiles}
use Rattle.causal_merge.specs.ParsedFiles.{HasParsedLines, IsFaultOfLines}

-- a reader as a contract sees it: its limit on entries, the content of the lines so far, and their size in bytes
pub record RecordingReaderState : Type 0 where
  pub most : ℕ
  pub files : ParsedFiles
  pub size : ℕ

-- a reader with this limit on entries has read these lines
abbrev pub HasReadLines : ℕ → RecordingReaderState → List (List ℕ) → Type 0
HasReadLines most reader before = (reader.most ≡ most) × (reader.size ≡ sum_by length before) × HasParsedLines most reader.files before

-- the result of reading these lines too, the oldest first: a reader that has read them, or their error
abbrev pub IsReadBy : RecordingReaderState → List (List ℕ) → Result RecordingReaderState MergeFault → Type 0
IsReadBy reader more (Ok next) = (most : ℕ) (before : List (List ℕ)) → HasReadLines most reader before → HasReadLines most next (reverse more ++ before)
IsReadBy reader more (Err fault) = (most : ℕ) (before : List (List ℕ)) → HasReadLines most reader before → IsFaultOfLines most fault (reverse more ++ before)
