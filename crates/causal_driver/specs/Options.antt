-- What may be requested of a run: what leads on, and what disturbs it.
use Rattle.std.specs.Prelude.{ℕ, ◌%◌, ◌/◌, ◌==◌, ◌&&◌, nat_lt, Bool, true, List, [], ◌∷◌, map, filter, flat_map, Option, Some, None, Result, Ok, Err, if◌then◌else◌}
use Rattle.std.specs.List.{range_with_len}
use Rattle.causal_name.specs.declared.Pid.{Pid}
use Rattle.causal_name.specs.declared.MsgName.{MsgName}
use Rattle.causal_name.specs.Names.{same_message}
use Rattle.causal_trace.specs.Past.{restarts}
use Rattle.causal_protocol.specs.declared.request.Request.{Request}
use Rattle.causal_protocol.specs.declared.request.Request.TheVariants as Requests
use Rattle.causal_protocol.specs.declared.request.CoreFault.{CoreFault}
use Rattle.causal_protocol.specs.Run.{Run, memories_of}
use Rattle.causal_core.specs.View.{named_message_of}
use Rattle.causal_core.specs.Pendings.{pending_in}

-- whether a message may be the next delivery of a process for which this message, or none, is named
abbrev pub may_follow : Option MsgName → MsgName → Bool
may_follow None m = true
may_follow (Some named) m = same_message named m

-- the delivery of a message to q
abbrev pub delivery : Pid → MsgName → Request
delivery q m = Requests.Deliver q m.source m.ssn

-- what leads on at p, by what is named for its next delivery: its restart if it is down, else each delivery that it may make
abbrev pub moves_at : Run → Pid → Result (Option MsgName) CoreFault → List Request
moves_at r p (Err fault) = Requests.Restart p ∷ []
moves_at r p (Ok named) = map (delivery p) (filter (may_follow named) (pending_in (memories_of r) p))

abbrev pub moves_of : Run → ℕ → List Request
moves_of r p = moves_at r (record { 0 = p }) (named_message_of r (record { 0 = p }))

-- what leads on, by process; nothing does if all processes are up and none may deliver
abbrev pub moves : Run → List Request
moves r = flat_map (moves_of r) (range_with_len 0 r.recording.processes)

-- what disturbs a run without leading on: a crash if fewer than this many restarts were made, a forgetting or a flush
abbrev pub disturbance_at : Run → ℕ → ℕ → Pid → Request
disturbance_at r few kind p =
    if kind == 0 && nat_lt (restarts r.recording.past) few then Requests.Crash p
    else (if kind == 1 then Requests.Forget p else Requests.Flush p)

abbrev pub disturbance : Run → ℕ → ℕ → Request
disturbance r few choice = disturbance_at r few (choice % 4) (record { 0 = (choice / 4) % r.recording.processes })
