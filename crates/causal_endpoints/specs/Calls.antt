-- What the embedder of an endpoint does with each call: what it takes, changes, sends and records.
use Rattle.std.specs.Prelude.{◌≡◌, ℕ, ◌<◌, ◌^◌, Bool, true, List, [], ◌∷◌, length, slice_get, Option, Some, None, Ok}
use Rattle.std.specs.FinMap as fin
use Rattle.causal_name.specs.declared.Pid.{Pid}
use Rattle.causal_name.specs.declared.MsgName.{MsgName}
use Rattle.causal_name.specs.declared.Det.{Det}
use Rattle.causal_name.specs.Names.{is_ascending}
use Rattle.causal_trace.specs.declared.entry.Entry.{Entry}
use Rattle.causal_trace.specs.declared.entry.Entry.TheVariants.{Send, Deliver, Stable, Restart}
use Rattle.causal_trace.specs.Past.{list_has, det_from}
use Rattle.causal_log.specs.Logs.{dets_of, forgotten_in}
use Rattle.causal_protocol.specs.Naming.{with_own}
use Rattle.causal_protocol.specs.Steps.{forget_entries}
use Rattle.causal_protocol.specs.MemoryQueries.{has_entry}
use Rattle.causal_wire.specs.declared.parcel.Head.{Head}
use Rattle.causal_wire.specs.Parcels.{Contents, message, question}
use Rattle.causal_wire.specs.Bytes.{parcel_bytes}
use Rattle.causal_wire.specs.Reading.{read_parcel}
use Rattle.causal_node.specs.NodeStates.{RoundState}
use Rattle.causal_node.specs.NodeForgetting.{next_slot}
use Rattle.causal_node.specs.NodeAnswers.{round_reply}
use Rattle.causal_node.specs.NodeRecovery.{begin_fault, reply_fault, ask_fault, read_fault, after_not_up, opened_node}
use Rattle.causal_nodes.specs.Packets.{Sent, write_packet, written_packet, read_packet, stored_packet}
use Rattle.causal_calls.specs.Views.{numbers}
use Rattle.causal_calls.specs.Parcels.{write_of}
use Rattle.causal_endpoint.specs.Endpoints.{EndpointState, run_of, next_clock, with_node}
use Rattle.causal_endpoint.specs.Sending.{send_fault, next_message, after_send}
use Rattle.causal_endpoint.specs.Resending.{resent_bytes, resend_fault}
use Rattle.causal_endpoint.specs.Acknowledging.{acknowledge_fault, acknowledgement_to}
use Rattle.causal_endpoint.specs.Forgetting.{forget_fault, endpoint_after_forget}
use Rattle.causal_endpoint.specs.Receiving.{parcel_fault, name_in, batch_in, clock_after, reply_bytes, after_parcel}
use Rattle.causal_endpoint.specs.Recovering.{after_begin, question_fault, question_to, stored_fault, after_stored, after_read, restart_fault, after_restart}
use Rattle.causal_endpoints.specs.Packets.{IsSendOf}

-- what a call takes: bytes that were sent, what stable storage sent, or that a process has ended, and its next lane
pub data CallInput : Type 0 where
  nothing : CallInput
  bytes : List ℕ → CallInput
  from_storage : Sent → CallInput
  ended : (process : Pid) (lane : ℕ) → CallInput

-- what is done after a call: bytes are sent, something goes to stable storage, a round was given a name
pub record Output : Type 0 where
  pub bytes : List (List ℕ)
  pub to_storage : List Sent
  pub names : List ℕ

abbrev pub no_output : Output
no_output = record { bytes = []; to_storage = []; names = [] }

abbrev pub one_parcel : List ℕ → Output
one_parcel b = record { bytes = b ∷ []; to_storage = []; names = [] }

abbrev pub one_request : Sent → Output
one_request k = record { bytes = []; to_storage = k ∷ []; names = [] }

abbrev pub one_name : ℕ → Output
one_name name = record { bytes = []; to_storage = []; names = name ∷ [] }

-- what is sent after a parcel was taken: the reply to a question
abbrev pub output_at : EndpointState → ℕ → Head → Contents → Output
output_at e now head (question round view) = one_parcel (reply_bytes e head.source round (clock_after e now head) (round_reply e.node view))
output_at e now head other = no_output

-- what is recorded after a parcel was taken: a message's delivery, which names the send entry of that message
abbrev pub Records : List Entry → EndpointState → Head → Contents → List Entry → Type 0
Records past e head (message ssn items body) entries =
    (at : ℕ) × IsSendOf past at head.lane (name_in head ssn)
    × (entries ≡ Deliver e.node.identity.me at (length e.node.memory.received) (with_own (det_from e.node.identity.me (length e.node.memory.received) (name_in head ssn)) (dets_of (batch_in head items))) ∷ [])
Records past e head other entries = entries ≡ []

-- One call that an endpoint does not refuse, at the machine's time `now`, with what its embedder does with it: what the
-- call takes, the next state, which is that of the call's contract, what is sent, and what is recorded. `past` is what
-- all processes have recorded so far.
pub data EndpointCall (past : List Entry) (e : EndpointState) : CallInput → EndpointState → Output → List Entry → Type 0 where
  send : (now : ℕ) (to : Pid) (body : List ℕ) → send_fault e now to (length body) ≡ None
      → EndpointCall past e nothing (after_send e now to body) (one_parcel (parcel_bytes (run_of e) (next_message e to body (next_clock now e.clock)))) (Send e.node.identity.me to (length e.node.memory.sent) ∷ [])
  resend : (ssn : ℕ) (again : List ℕ) → resend_fault e ssn (slice_get e.node.memory.sent ssn) ≡ None → resent_bytes e ssn (slice_get e.node.memory.sent ssn) ≡ Some again
      → EndpointCall past e nothing e (one_parcel again) []
  acknowledge : (now : ℕ) (to : Pid) (dets : List Det) → is_ascending dets ≡ true → acknowledge_fault e now to (length dets) ≡ None
      → EndpointCall past e nothing (with_node e e.node (next_clock now e.clock)) (one_parcel (parcel_bytes (run_of e) (acknowledgement_to e to dets (next_clock now e.clock)))) []
  forget : (now : ℕ) → forget_fault e now ≡ None
      → EndpointCall past e nothing (endpoint_after_forget e now) no_output (forget_entries e.node.identity.me (forgotten_in (next_slot e.node) e.node.memory.log))
  receive : (now : ℕ) (b : List ℕ) (p : Head × Contents) (entries : List Entry) → read_parcel (run_of e) b ≡ Ok p → parcel_fault e now p ≡ None → Records past e p.0 p.1 entries
      → EndpointCall past e (bytes b) (after_parcel e now p) (output_at e now p.0 p.1) entries
  -- determinants that the log has are written to stable storage, and what it has confirmed is recorded
  write : (dets : List Det) → e.node.recovery ≡ None → ((d : Det) → list_has dets d ≡ true → has_entry d e.node.memory.log ≡ true)
      → EndpointCall past e nothing e (one_request (write_packet (write_of e.node dets))) []
  stored : (now : ℕ) (dets : Det → Bool) (det : Det) → e.node.recovery ≡ None → stored_fault e now ≡ None → dets det ≡ true
      → EndpointCall past e (from_storage (written_packet dets)) (after_stored e now det) no_output (Stable det ∷ [])
  -- a process recovers
  begin_round : (name : ℕ) → name < 2 ^ 64 → begin_fault e.node.recovery ≡ None → EndpointCall past e nothing (after_begin e name) (one_name name) []
  ask : (now : ℕ) (to : Pid) → question_fault e now to ≡ None
      → EndpointCall past e nothing (with_node e e.node (next_clock now e.clock)) (one_parcel (parcel_bytes (run_of e) (question_to e to (next_clock now e.clock)))) []
  take_ended : (name : ℕ) (q : Pid) (number : ℕ) → reply_fault e.node.recovery name q ≡ None
      → EndpointCall past e (ended q number) (with_node e (after_not_up e.node q number) e.clock) no_output []
  ask_storage : (r : RoundState) → e.node.recovery ≡ Some (Some r) → ask_fault e.node.recovery ≡ None
      → EndpointCall past e nothing e (one_request (read_packet e.node.identity.me.0 r.name (numbers e.node.floors))) []
  take_stored : (now : ℕ) (r : RoundState) (dets : Det → Bool) (det : Det) → e.node.recovery ≡ Some (Some r) → stored_fault e now ≡ None → dets det ≡ true
      → EndpointCall past e (from_storage (stored_packet e.node.identity.me.0 r.name dets)) (after_stored e now det) no_output (Stable det ∷ [])
  finish_read : (r : RoundState) (dets : Det → Bool) → e.node.recovery ≡ Some (Some r) → read_fault e.node.recovery r.name ≡ None → ((d : Det) → dets d ≡ true → has_entry d r.log ≡ true)
      → EndpointCall past e (from_storage (stored_packet e.node.identity.me.0 r.name dets)) (after_read e) no_output []
  restart : (now : ℕ) (reserved : List MsgName) → restart_fault e now ≡ None
      → EndpointCall past e nothing (after_restart e now reserved) no_output (Restart e.node.identity.me (fin.keys (after_restart e now reserved).node.memory.log) ∷ [])
  -- a process that recovers dies: an endpoint is opened again, in the same lane
  open_again : (round : Option RoundState) (clock : ℕ) → e.node.recovery ≡ Some round → clock < 2 ^ 62
      → EndpointCall past e nothing (record { node = opened_node e.node.identity e.node.lane; run = e.run; clock = clock }) no_output []
