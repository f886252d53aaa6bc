-- The stage after the lines so far, and the next stage, or the error, of one more line.
use Rattle.std.specs.Prelude.{◌≡◌, ℕ, ◌*◌, ◌&&◌, ◌==◌, List, [], ◌∷◌, ◌++◌, length, map, nat_lt, nat_le, if◌then◌else◌, Option, Some, None, Result, Ok, Err, IsErr}
use Rattle.causal_trace.specs.Rows.{Recording, fault_within}
use Rattle.causal_trace.specs.State.{with_entry, entries_of}
use Rattle.causal_trace.specs.declared.entry.Entry.{Entry}
use Rattle.causal_trace.specs.declared.fault.TraceFault.{TraceFault}
use Rattle.causal_line.specs.declared.kind.TextKind.{TextKind}
use Rattle.causal_line.specs.declared.kind.TextKind.TheVariants as kind
use Rattle.causal_line.specs.declared.parsed_line.ParsedLine.{ParsedLine}
use Rattle.causal_line.specs.declared.parsed_line.ParsedLine.TheVariants as parsed
use Rattle.causal_line.specs.declared.version.Version.{Version}
use Rattle.causal_line.specs.Kinds.{text_kind_of}
use Rattle.causal_line.specs.Reading.{◌>>=◌}
use Rattle.causal_line.specs.Values.{parse_line}
use Rattle.causal_line.specs.Versions.{version_number, version_of, max_processes_in, allows}
use Rattle.causal_line.specs.declared.stage.Stage.{Stage}
use Rattle.causal_line.specs.declared.stage.Stage.TheVariants.{Opening, Within, Ended}

-- the maximum size in bytes of a text, by the limit on its entries
abbrev pub max_text_len : ℕ → ℕ
max_text_len most = 512 * most

-- that maximum for the greatest number of 32 bits
abbrev pub longest_text : ℕ
longest_text = max_text_len 4294967295

-- a recording of n processes with no entries
abbrev pub empty_recording : ℕ → Recording
empty_recording n = record { processes = n; past = [] }

-- the stage after a header with this version and number of processes
abbrev pub open_text : Option Version → ℕ → Result Stage TextKind
open_text None n = Err kind.Version
open_text (Some version) n = if nat_le 1 n && nat_le n (max_processes_in version) then Ok (Within version (empty_recording n)) else Err kind.Processes

-- the stage after an entry, if the trace has no error for it
abbrev pub push_entry : Version → Recording → Entry → Option TraceFault → Result Stage TextKind
push_entry version r e None = Ok (Within version (with_entry r e))
push_entry version r e (Some f) = Err (text_kind_of f)

-- the stage after a parsed line, by the limit on entries
abbrev pub apply_line : ℕ → Stage → ParsedLine → Result Stage TextKind
apply_line most Opening (parsed.Header number n) = open_text (version_of number) n
apply_line most Opening (parsed.Entry e) = Err kind.Header
apply_line most Opening (parsed.End count) = Err kind.Header
apply_line most (Within version r) (parsed.Header number n) = Err kind.Header
apply_line most (Within version r) (parsed.Entry e) = if allows version e then push_entry version r e (fault_within most r e) else Err kind.Form
apply_line most (Within version r) (parsed.End count) = if count == length r.past then Ok (Ended version r) else Err kind.Count
apply_line most (Ended version r) s = Err kind.After

-- `Big` if byte number `end` is beyond the text's limit, otherwise the given result
abbrev pub check_limit : ℕ → ℕ → Result Stage TextKind → Result Stage TextKind
check_limit most end next = if nat_lt (max_text_len most) end then Err kind.Big else next

-- the stage after one more line, which ends at byte number `end` of the text
-- Checked in this order: no end line before, the text's limit, the JSON value, the form of the line, and its place in
-- the text.
abbrev pub advance_stage : ℕ → Stage → ℕ → List ℕ → Result Stage TextKind
advance_stage most Opening end line = check_limit most end (parse_line line >>= apply_line most Opening)
advance_stage most (Within version r) end line = check_limit most end (parse_line line >>= apply_line most (Within version r))
advance_stage most (Ended version r) end line = Err kind.After

-- each line of this entry leads to this next stage
abbrev pub IsAppliedEntry : ℕ → Stage → ℕ → Entry → Stage → Type 0
IsAppliedEntry most stage end e next = (line : List ℕ) → parse_line line ≡ Ok (parsed.Entry e) → advance_stage most stage end line ≡ Ok next

-- each line of this entry has an error
abbrev pub IsRefusedEntry : ℕ → Stage → ℕ → Entry → Type 0
IsRefusedEntry most stage end e = (line : List ℕ) → parse_line line ≡ Ok (parsed.Entry e) → IsErr (advance_stage most stage end line)

-- the parsed lines up to a stage: the header, the entries in order, and the end line
abbrev pub lines_up_to : Stage → List ParsedLine
lines_up_to Opening = []
lines_up_to (Within version r) = parsed.Header (version_number version) r.processes ∷ map parsed.Entry (entries_of r)
lines_up_to (Ended version r) = parsed.Header (version_number version) r.processes ∷ map parsed.Entry (entries_of r) ++ parsed.End (length r.past) ∷ []
