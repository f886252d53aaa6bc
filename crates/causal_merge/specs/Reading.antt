-- The content of the lines of a text, or the first error of a line.
-- `most` is the maximum number of entries of the trace.
use Rattle.std.specs.Prelude.{ℕ, ◌+◌, ◌*◌, ◌==◌, ◌&&◌, nat_lt, min, if◌then◌else◌, List, [], ◌∷◌, length, sum_by, Option, None, unwrap_or, Result, Ok, Err, Bool}
use Rattle.serde_json.specs.Data.{Data}
use Rattle.causal_line.specs.declared.kind.TextKind.{TextKind}
use Rattle.causal_line.specs.declared.kind.TextKind.TheVariants.{Big, Header, NoProcess}
use Rattle.causal_line.specs.Reading.{◌>>=◌}
use Rattle.causal_line.specs.Values.{without_line_feed, parse_json}
use Rattle.causal_merge.specs.declared.event.RunHeader.{RunHeader}
use Rattle.causal_merge.specs.declared.event.RecorderLine.{RecorderLine}
use Rattle.causal_merge.specs.declared.event.RecorderLine.TheVariants as says
use Rattle.causal_merge.specs.declared.fault.MergeKind.TheVariants as kind
use Rattle.causal_merge.specs.declared.fault.MergeFault.{MergeFault}
use Rattle.causal_merge.specs.Shapes.{parse_recorder_value}
use Rattle.causal_merge.specs.TornLines.{is_blank, is_torn}
use Rattle.causal_merge.specs.ReadLines.{run_in}

-- the maximum size of any recorder files, in bytes
abbrev pub max_bytes : ℕ
max_bytes = 2147483648

-- the maximum size, in bytes, of recorder files whose trace may have this many entries
abbrev pub max_input_len : ℕ → ℕ
max_input_len most = min (most * 1024) max_bytes

-- the content of a line with this JSON value; if the bytes are not JSON, a torn line or their error
abbrev pub parse_json_value : List ℕ → Result Data TextKind → Result RecorderLine TextKind
parse_json_value bytes (Ok d) = parse_recorder_value d
parse_json_value bytes (Err k) = if is_torn bytes then Ok says.Torn else Err k

-- the content of a line, by its bytes without the line feed
unfoldable pub parse_bytes : List ℕ → Result RecorderLine TextKind
parse_bytes bytes = if is_blank bytes then Ok says.Blank else parse_json_value bytes (parse_json bytes)

-- whether two headers agree on the run
abbrev pub same_run : RunHeader → RunHeader → Bool
same_run a b = a.processes == b.processes && a.number == b.number

-- a header must agree with the first one on the run, and its process must be in the run
abbrev pub check_header : Option RunHeader → RecorderLine → Result RecorderLine TextKind
check_header first (says.Header process run) =
    if same_run (unwrap_or first run) run then (if nat_lt process.0 run.processes then Ok (says.Header process run) else Err NoProcess) else Err Header
check_header first said = Ok said

-- the content of the next line, after the first header, if any; the line ends at byte number `end` of the text
abbrev pub next_line : ℕ → Option RunHeader → ℕ → List ℕ → Result RecorderLine TextKind
next_line most first end line = if nat_lt (max_input_len most) end then Err Big else (parse_bytes (without_line_feed line) >>= check_header first)

-- an error of this line
abbrev pub line_fault : ℕ → TextKind → MergeFault
line_fault line k = record { line = line; kind = kind.Line k; detail = None }

-- the content with one more line, or the error of that line
abbrev pub with_recorder_line : List RecorderLine → Result RecorderLine TextKind → Result (List RecorderLine) MergeFault
with_recorder_line said (Ok said_next) = Ok (said_next ∷ said)
with_recorder_line said (Err k) = Err (line_fault (length said + 1) k)

-- the content of these lines, the newest first in both lists; else the error of the oldest line that has one
abbrev pub read_all_lines : ℕ → List (List ℕ) → Result (List RecorderLine) MergeFault
read_all_lines most [] = Ok []
read_all_lines most (line ∷ before) = read_all_lines most before >>= λ said. with_recorder_line said (next_line most (run_in said) (sum_by length (line ∷ before)) line)
