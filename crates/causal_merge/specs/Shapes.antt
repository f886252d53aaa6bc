-- The content of a line's JSON value: a header, an event, or another process's clock that was heard.
use Rattle.std.specs.Prelude.{ℕ, ◌==◌, codes, if◌then◌else◌, Result, Ok, Err}
use Rattle.serde_json.specs.Data.{Data}
use Rattle.causal_name.specs.declared.Pid.{Pid}
use Rattle.causal_trace.specs.Limits.{is_process_count}
use Rattle.causal_line.specs.declared.kind.TextKind.{TextKind}
use Rattle.causal_line.specs.declared.kind.TextKind.TheVariants.{Form, Version, Processes}
use Rattle.causal_line.specs.Reading.{◌>>=◌}
use Rattle.causal_line.specs.ParsedLines.{field, u32_at, u64_at, pid_at, parse_det, dets_at, is_array_named}
use Rattle.causal_merge.specs.declared.event.Action.{Action}
use Rattle.causal_merge.specs.declared.event.Action.TheVariants.{Send, Deliver, Stable, Crash, Restart, Forget}
use Rattle.causal_merge.specs.declared.event.RecorderLine.{RecorderLine}
use Rattle.causal_merge.specs.declared.event.RecorderLine.TheVariants as says

-- a header's version is 1, and a run has 1 to 256 processes
abbrev pub check_header_values : Pid → ℕ → ℕ → ℕ → Result RecorderLine TextKind
check_header_values process version processes number =
    if version == 1 then (if is_process_count processes then Ok (says.Header process (record { processes = processes; number = number })) else Err Processes) else Err Version

-- `["recording",process,version,processes,run]`
unfoldable pub parse_recording_header : Data → Result RecorderLine TextKind
parse_recording_header d = do
  process ← pid_at 1 d
  version ← u32_at 2 d
  processes ← u32_at 3 d
  number ← u64_at 4 d
  check_header_values process version processes number

-- `[word,process,clock,..]`
unfoldable pub parse_event : Data → Action → Result RecorderLine TextKind
parse_event d act = do
  process ← pid_at 1 d
  clock ← u64_at 2 d
  Ok (says.Event (record { process = process; clock = clock; act = act }))

-- `["send",process,clock,to,ssn]`
unfoldable pub parse_send_event : Data → Result RecorderLine TextKind
parse_send_event d = do
  to ← pid_at 3 d
  ssn ← u32_at 4 d
  parse_event d (Send to ssn)

-- `["deliver",process,clock,source,lane,ssn,rsn,[dets]]`
unfoldable pub parse_deliver_event : Data → Result RecorderLine TextKind
parse_deliver_event d = do
  source ← pid_at 3 d
  lane ← u32_at 4 d
  ssn ← u32_at 5 d
  rsn ← u32_at 6 d
  listed ← dets_at 7 d
  parse_event d (Deliver source lane ssn rsn listed)

-- `["stable",process,clock,det]`
unfoldable pub parse_stable_event : Data → Result RecorderLine TextKind
parse_stable_event d = do
  named ← field 3 d
  det ← parse_det named
  parse_event d (Stable det)

-- `["restart",process,clock,[dets]]`
unfoldable pub parse_restart_event : Data → Result RecorderLine TextKind
parse_restart_event d = do
  listed ← dets_at 3 d
  parse_event d (Restart listed)

-- `["forget",process,clock,[dets]]`
unfoldable pub parse_forget_event : Data → Result RecorderLine TextKind
parse_forget_event d = do
  listed ← dets_at 3 d
  parse_event d (Forget listed)

-- `["heard",process,clock,from,its clock]`: only its shape is checked
unfoldable pub heard_of : Data → Result RecorderLine TextKind
heard_of d = do
  process ← pid_at 1 d
  clock ← u64_at 2 d
  from ← pid_at 3 d
  sent ← u64_at 4 d
  Ok says.Heard

-- the shapes of a line; a value that has none of them is refused
unfoldable pub parse_recorder_value : Data → Result RecorderLine TextKind
parse_recorder_value d =
    if is_array_named d (codes "recording") 5 then parse_recording_header d else
    if is_array_named d (codes "send") 5 then parse_send_event d else
    if is_array_named d (codes "deliver") 8 then parse_deliver_event d else
    if is_array_named d (codes "stable") 4 then parse_stable_event d else
    if is_array_named d (codes "crash") 3 then parse_event d Crash else
    if is_array_named d (codes "restart") 4 then parse_restart_event d else
    if is_array_named d (codes "forget") 4 then parse_forget_event d else
    if is_array_named d (codes "heard") 5 then heard_of d else
    Err Form
