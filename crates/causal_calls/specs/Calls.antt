-- What a process does that makes only the calls of a node: what each takes, changes, sends and records.
use Rattle.std.specs.Prelude.{◌≡◌, ℕ, ◌==◌, Bool, true, false, List, [], ◌∷◌, length, Option, Some, None}
use Rattle.std.specs.FinMap as fin
use Rattle.causal_name.specs.declared.Pid.{Pid}
use Rattle.causal_name.specs.declared.MsgName.{MsgName}
use Rattle.causal_name.specs.declared.Det.{Det}
use Rattle.causal_name.specs.Names.{is_ascending}
use Rattle.causal_trace.specs.declared.entry.Entry.{Entry}
use Rattle.causal_trace.specs.declared.entry.Entry.TheVariants.{Send, Deliver, Stable, Restart}
use Rattle.causal_trace.specs.Past.{list_has, det_from}
use Rattle.causal_log.specs.declared.batch.Item.{Item}
use Rattle.causal_log.specs.Logs.{LogMap, dets_of, forgotten_in}
use Rattle.causal_protocol.specs.Naming.{message_name, with_own}
use Rattle.causal_protocol.specs.MemoryQueries.{has_entry}
use Rattle.causal_protocol.specs.Steps.{forget_entries}
use Rattle.causal_node.specs.declared.node_answer.RoundReply.TheVariants as Replies
use Rattle.causal_node.specs.NodeStates.{NodeState, RoundState, floor_of}
use Rattle.causal_node.specs.NodeRefusals.{node_send_fault, deliver_fault}
use Rattle.causal_node.specs.NodeSteps.{node_after_send, node_after_delivery}
use Rattle.causal_node.specs.NodeRecovery.{begin_fault, reply_fault, node_stored_fault, ask_fault, read_fault, node_restart_fault, new_round_state, with_recovery, map_round, with_log_of, after_not_up, after_number, node_after_stored, node_after_read, after_restart_at, opened_node}
use Rattle.causal_node.specs.NodeAnswers.{answer_fault, round_reply, node_after_answer}
use Rattle.causal_node.specs.NodeAcknowledgements.{node_acknowledge_fault, learn_fault, after_acknowledgement}
use Rattle.causal_node.specs.NodeForgetting.{next_slot, node_forget_fault, node_after_forget}
use Rattle.causal_nodes.specs.Packets.{Sent, message_packet, acknowledgement_packet, write_packet, written_packet, question_packet, answer_packet, not_up_packet, read_packet, stored_packet, number_packet}
use Rattle.causal_calls.specs.Views.{numbers}
use Rattle.causal_calls.specs.Parcels.{message_with, next_message_packet, acknowledgement_with, acknowledgement_of, log_packet, write_of}

-- One call that a node does not refuse, with what its embedder does with it: what was taken from the network, the
-- node's next state, what is sent, and what is recorded. The state after each is that of the call's contract.
-- `position` is the number of entries recorded so far, by all processes.
pub data NodeCall (position : ℕ) (old : NodeState) : Option Sent → NodeState → List Sent → List Entry → Type 0 where
  send : (to : Pid) (body : List ℕ) → node_send_fault old to ≡ None
      → NodeCall position old None (node_after_send old to body) (message_packet (message_name old.identity.me (length old.memory.sent)) (next_message_packet position old to) ∷ []) (Send old.identity.me to (length old.memory.sent) ∷ [])
  -- the determinants of a piggyback ascend
  deliver : (lane : ℕ) (name : MsgName) (at : ℕ) (items : List Item) → is_ascending (dets_of items) ≡ true
      → deliver_fault old lane name items ≡ None
      → NodeCall position old (Some (message_packet name (message_with lane old.identity.me at name items))) (node_after_delivery old name items) [] (Deliver old.identity.me at (length old.memory.received) (with_own (det_from old.identity.me (length old.memory.received) name) (dets_of items)) ∷ [])
  -- an acknowledgement is sent, and one is taken
  acknowledge : (to : Pid) (dets : List Det) → node_acknowledge_fault old to ≡ None
      → NodeCall position old None old (acknowledgement_packet (acknowledgement_of old to dets) ∷ []) []
  learn : (lane : ℕ) (from : Pid) (items : List Item) → learn_fault old lane from ≡ None
      → NodeCall position old (Some (acknowledgement_packet (acknowledgement_with from lane old.identity.me items))) (after_acknowledgement old items) [] []
  -- what is known to be stable is forgotten, but nothing of deliveries still to be made; if that is nothing, nothing is
  -- recorded
  forget : node_forget_fault old ≡ None
      → NodeCall position old None (node_after_forget old) [] (forget_entries old.identity.me (forgotten_in (next_slot old) old.memory.log))
  -- determinants that the log has are written to stable storage
  write : (dets : List Det) → old.recovery ≡ None → ((d : Det) → list_has dets d ≡ true → has_entry d old.memory.log ≡ true)
      → NodeCall position old None old (write_packet (write_of old dets) ∷ []) []
  -- stable storage has confirmed a write
  stored : (dets : Det → Bool) (det : Det) → old.recovery ≡ None → dets det ≡ true
      → NodeCall position old (Some (written_packet dets)) (node_after_stored old det old.recovery) [] (Stable det ∷ [])
  -- a question is answered, in three ways
  answer_log : (asker : Pid) (name : ℕ) (view : List ℕ) → answer_fault old asker view ≡ None → round_reply old view ≡ Replies.Log
      → NodeCall position old (Some (question_packet asker.0 name (numbers view))) (node_after_answer old view) (answer_packet name (log_packet old.identity.me.0 old.lane asker.0 old.memory.log) ∷ []) []
  answer_not_up : (asker : Pid) (name : ℕ) (view : List ℕ) → answer_fault old asker view ≡ None → round_reply old view ≡ Replies.NotUp
      → NodeCall position old (Some (question_packet asker.0 name (numbers view))) (node_after_answer old view) (not_up_packet old.identity.me.0 asker.0 name ∷ []) []
  answer_number : (asker : Pid) (view : List ℕ) → answer_fault old asker view ≡ None → round_reply old view ≡ Replies.OwnNumber
      → NodeCall position old None (node_after_answer old view) (number_packet old.identity.me.0 old.lane ∷ []) []
  -- a round begins, and all others are asked
  begin_round : (name : ℕ) → begin_fault old.recovery ≡ None
      → NodeCall position old None (with_recovery old (Some (Some (new_round_state old.identity name)))) (question_packet old.identity.me.0 name (numbers old.floors) ∷ []) []
  take_log : (name lane : ℕ) (q : Pid) (log : LogMap) → reply_fault old.recovery name q ≡ None
      → NodeCall position old (Some (answer_packet name (log_packet q.0 lane old.identity.me.0 log))) (with_recovery old (map_round (λ r. with_log_of r q.0 log) old.recovery)) [] []
  -- of a process that is not up, with the number that the view has for it
  take_not_up : (name : ℕ) (q : Pid) → reply_fault old.recovery name q ≡ None
      → NodeCall position old (Some (not_up_packet q.0 old.identity.me.0 name)) (after_not_up old q (floor_of old.floors q)) [] []
  -- another number ends the round
  take_other_number : (name : ℕ) (q : Pid) (number : ℕ) → reply_fault old.recovery name q ≡ None → (floor_of old.floors q == number) ≡ false
      → NodeCall position old (Some (number_packet q.0 number)) (after_not_up old q number) [] []
  take_number : (name : ℕ) (q : Pid) (number : ℕ) → reply_fault old.recovery name q ≡ None
      → NodeCall position old (Some (number_packet q.0 number)) (after_number old q number) [] []
  -- after the last reply stable storage is asked, each determinant that it had is taken, and then its reply counts
  ask_storage : (r : RoundState) → old.recovery ≡ Some (Some r) → ask_fault old.recovery ≡ None
      → NodeCall position old None old (read_packet old.identity.me.0 r.name (numbers old.floors) ∷ []) []
  take_stored : (r : RoundState) (dets : Det → Bool) (det : Det) → old.recovery ≡ Some (Some r) → node_stored_fault old.recovery ≡ None → dets det ≡ true
      → NodeCall position old (Some (stored_packet old.identity.me.0 r.name dets)) (node_after_stored old det old.recovery) [] (Stable det ∷ [])
  finish_read : (r : RoundState) (dets : Det → Bool) → old.recovery ≡ Some (Some r) → read_fault old.recovery r.name ≡ None
      → ((d : Det) → dets d ≡ true → has_entry d r.log ≡ true)
      → NodeCall position old (Some (stored_packet old.identity.me.0 r.name dets)) (with_recovery old (map_round node_after_read old.recovery)) [] []
  restart : (reserved : List MsgName) → node_restart_fault old.recovery ≡ None
      → NodeCall position old None (after_restart_at old old.recovery reserved) [] (Restart old.identity.me (fin.keys (after_restart_at old old.recovery reserved).memory.log) ∷ [])
  -- a process that recovers dies: a node is opened again, in the same lane
  open_again : (round : Option RoundState) → old.recovery ≡ Some round → NodeCall position old None (opened_node old.identity old.lane) [] []
