-- An accepted line increases the line count by one and keeps the entries within the limit.
use Rattle.std.proofs.Common.{◌≡◌, ℕ, ◌+◌, ◌≤◌, List, Option, Result, Ok, Err, arith}
use Rattle.std.specs.Prelude.{nat_lt}
use Rattle.causal_trace.specs.Limits.{max_entries}
use Rattle.causal_trace.specs.Rows.{Recording}
use Rattle.causal_trace.specs.declared.entry.Entry.{Entry}
use Rattle.causal_trace.proofs.Lemmas.WellFormed.{rows_next, short_next}
use Rattle.causal_line.specs.declared.kind.TextKind.{TextKind}
use Rattle.causal_line.specs.declared.kind.TextKind.TheVariants as kind
use Rattle.causal_line.specs.declared.parsed_line.ParsedLine.{ParsedLine}
use Rattle.causal_line.specs.declared.parsed_line.ParsedLine.TheVariants as parsed
use Rattle.causal_line.specs.declared.stage.Stage.{Stage}
use Rattle.causal_line.specs.declared.stage.Stage.TheVariants.{Opening, Within, Ended}
use Rattle.causal_line.specs.declared.version.Version.{Version}
use Rattle.causal_line.specs.Reading.{◌>>=◌}
use Rattle.causal_line.specs.Refusals.{◌at◌}
use Rattle.causal_line.specs.Stages.{max_text_len, open_text, apply_line, check_limit, advance_stage}
use Rattle.causal_line.specs.Values.{parse_line}
use Rattle.causal_line.specs.Versions.{version_of}
use Rattle.causal_line.proofs.Lemmas.Passed.{bind_ok, passed_not}
use Rattle.causal_lines.specs.ReadPositions.{entries_in, lines_in}

abbrev pub Counts : Stage → Stage → Type 0
Counts s t = (lines_in t ≡ lines_in s + 1) × (entries_in t ≤ max_entries)

Counts-begun : (o : Option Version) (n : ℕ) (t : Stage) → open_text o n ≡ Ok t → Counts Opening t
Counts-begun o n t h = grind arith

Counts-entry : (most : ℕ) (version : Version) (r : Recording) (e : Entry) (t : Stage) → apply_line most (Within version r) (parsed.Entry e) ≡ Ok t → Counts (Within version r) t
Counts-entry most version r e t h = grind (arith, rows_next most r e, short_next r.processes r.past e)

Counts-follow : (most : ℕ) (s : Stage) (x : ParsedLine) (t : Stage) → entries_in s ≤ max_entries → apply_line most s x ≡ Ok t → Counts s t
Counts-follow most Opening (parsed.Header number n) t few h = Counts-begun (version_of number) n t h
Counts-follow most (Within version r) (parsed.Entry e) t few h = Counts-entry most version r e t h
Counts-follow most _ _ t few h = grind arith

Counts-limit : (most : ℕ) (s : Stage) (end : ℕ) (line : List ℕ) (t : Stage) → entries_in s ≤ max_entries → check_limit most end (parse_line line >>= apply_line most s) ≡ Ok t → Counts s t
Counts-limit most s end line t few h =
    let limit = passed_not (nat_lt (max_text_len most) end) _ kind.Big t h in
    let read = bind_ok (parse_line line) (apply_line most s) t limit.1 in
    Counts-follow most s read.0 t few read.2

-- a stage that a line leads to has one more line, and its entries are within the limit
pub Counts-stage : (most : ℕ) (s : Stage) (end : ℕ) (line : List ℕ) (t : Stage) → entries_in s ≤ max_entries → advance_stage most s end line ≡ Ok t → Counts s t
Counts-stage most (Ended version r) end line t few h = absurd (let no : Err kind.After ≡ Ok t = h in cc)
Counts-stage most s end line t few h = Counts-limit most s end line t few h

accepted : (read : Result Stage TextKind) (number : ℕ) (t : Stage) → (read at number) ≡ Ok t → read ≡ Ok t
accepted read number t h = grind arith

-- an accepted line is one more line, and the entries are within the limit
pub Counts-line : (most : ℕ) (s : Stage) (end : ℕ) (line : List ℕ) (number : ℕ) (t : Stage) → entries_in s ≤ max_entries → (advance_stage most s end line at number) ≡ Ok t → Counts s t
Counts-line most s end line number t few h = Counts-stage most s end line t few (accepted _ number t h)

-- the line count is at most two above the number of entries: the header and the end line
pub lines_few : (s : Stage) → lines_in s ≤ entries_in s + 2
lines_few s = grind arith
