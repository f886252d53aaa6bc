-- The lines of a map: each has the file, the line and the clock from which an entry of a merged trace comes.
use Rattle.std.specs.Prelude.{ℕ, ◌+◌, ◌-◌, ◌==◌, nat_lt, if◌then◌else◌, List, [], ◌∷◌, ◌++◌, Option, Some, None, option_and_then, Result, Ok, Err, codes, decimal, length, slice_get}
use Rattle.std.specs.String.{string_bytes}
use Rattle.json.specs.Print.{escape}
use Rattle.serde_json.specs.Data.{Data}
use Rattle.serde_json.specs.Find.{at, as_str}
use Rattle.causal_line.specs.declared.kind.TextKind.{TextKind}
use Rattle.causal_line.specs.declared.kind.TextKind.TheVariants.{Form}
use Rattle.causal_line.specs.Reading.{◌>>=◌}
use Rattle.causal_line.specs.ParsedLines.{or_form, array_len, u32_at, u64_at}
use Rattle.causal_line.specs.Values.{parse_json}
use Rattle.causal_merge.specs.declared.input_files.InputFile.{InputFile}
use Rattle.causal_merge.specs.declared.origins.Origin.{Origin}
use Rattle.causal_merge.specs.InputFiles.{file_index}

-- the line for the entry at a position, `[position,file,line,clock]` and a line feed; the file is a JSON string
abbrev pub map_line : ℕ → List ℕ → ℕ → ℕ → List ℕ
map_line position file line clock =
    codes "[" ++ (decimal position ++ (codes "," ++ (file ++ (codes "," ++ (decimal line ++ (codes "," ++ (decimal clock ++ codes "]\n")))))))

-- the line for the entry at a position that comes from a line of this file; of no file, it is standard input's
abbrev pub line_in : ℕ → Option InputFile → Origin → List ℕ
line_in position (Some file) origin = map_line position (string_bytes file.name) (origin.line - file.feeds) origin.clock
line_in position None origin = map_line position (codes "\"-\"") origin.line origin.clock

-- the line for the entry at a position with this origin, which is a line of the input
abbrev pub entry_line : List InputFile → ℕ → Origin → List ℕ
entry_line files position origin = line_in position (slice_get files (file_index files origin.line)) origin

-- the lines for the entries from a position on, with these origins
abbrev pub map_from : List InputFile → ℕ → List Origin → List ℕ
map_from files position [] = []
map_from files position (origin ∷ later) = entry_line files position origin ++ map_from files (position + 1) later

-- the map of a trace whose entries have these origins
abbrev pub map_text : List InputFile → List Origin → List ℕ
map_text files origins = map_from files 0 origins

-- the fields `at=FILE:LINE clock=CLOCK`, each after a space; the file is escaped as in a JSON string
abbrev pub place_fields : List ℕ → ℕ → ℕ → List ℕ
place_fields file line clock = codes " at=" ++ (escape file ++ (codes ":" ++ (decimal line ++ (codes " clock=" ++ decimal clock))))

-- the string at an index
abbrev pub string_at : ℕ → Data → Result (List ℕ) TextKind
string_at i d = or_form (option_and_then as_str (at i d))

-- the fields for the entry at a position, by the value of its line; a value that is not its line has the error `Form`
unfoldable pub entry_place_fields : ℕ → Data → Result (List ℕ) TextKind
entry_place_fields position d = if array_len d == 4 then (do
  given ← u32_at 0 d
  file ← string_at 1 d
  line ← u64_at 2 d
  clock ← u64_at 3 d
  if given == position then Ok (place_fields file line clock) else Err Form) else Err Form

-- the maximum size of a line, in bytes without its line feed
abbrev pub max_line : ℕ
max_line = 65536

-- the fields for the entry at a position, by its line
unfoldable pub read_place : ℕ → List ℕ → Result (List ℕ) TextKind
read_place position line = if nat_lt max_line (length line) then Err Form else parse_json line >>= entry_place_fields position
