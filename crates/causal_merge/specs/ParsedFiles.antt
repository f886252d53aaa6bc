-- The content of the lines read so far, as `ParsedFiles` keeps it.
use Rattle.std.specs.Prelude.{◌≡◌, ℕ, ◌<◌, ◌≢◌, List, length, slice_index_or, false, Ok, Err, IfSome}
use Rattle.causal_trace.specs.Limits.{IsProcessCount}
use Rattle.causal_line.specs.declared.kind.TextKind.TheVariants.{NoMemory}
use Rattle.causal_merge.specs.declared.event.RecorderLine.{RecorderLine}
use Rattle.causal_merge.specs.declared.event.RecorderLine.TheVariants as says
use Rattle.causal_merge.specs.declared.fault.MergeKind.TheVariants as kind
use Rattle.causal_merge.specs.declared.fault.MergeFault.{MergeFault}
use Rattle.causal_merge.specs.declared.parsed_files.ParsedFiles.{ParsedFiles}
use Rattle.causal_merge.specs.ReadLines.{run_in, has_header, events_in, torn_in}
use Rattle.causal_merge.specs.Reading.{read_all_lines}

-- a header has a number of processes within the limits
abbrev pub IsSoundLine : RecorderLine → Type 0
IsSoundLine (says.Header process run) = IsProcessCount run.processes
IsSoundLine _ = Unit {0}

-- the fields are those of these lines
pub record AreParsedFiles (g : ParsedFiles) (said : List RecorderLine) : Type 0 where
  pub run : g.run ≡ run_in said
  pub headers_seen : (p : ℕ) → p < 256 → slice_index_or g.headers_seen p false ≡ has_header said p
  pub events : g.events.items ≡ events_in said
  pub torn : g.torn.items ≡ torn_in said
  pub count : g.count ≡ length said
  pub few : IfSome g.run (λ run. IsProcessCount run.processes)

-- the fields are those of the content of these lines, the newest first
abbrev pub HasParsedLines : ℕ → ParsedFiles → List (List ℕ) → Type 0
HasParsedLines most g before = (said : List RecorderLine) × (read_all_lines most before ≡ Ok said) × AreParsedFiles g said

-- the error is that of these lines, unless it is `NoMemory`
abbrev pub IsFaultOfLines : ℕ → MergeFault → List (List ℕ) → Type 0
IsFaultOfLines most fault before = fault.kind ≢ kind.Line NoMemory → read_all_lines most before ≡ Err fault
