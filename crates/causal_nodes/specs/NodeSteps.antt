-- What one process may do, by its own state and what it takes alone: its next state, what it sends and what it records.
use Rattle.std.specs.Prelude.{◌≡◌, ℕ, suc, ◌+◌, ◌<◌, ◌≤◌, max, Bool, true, false, not, ◌==◌, ◌&&◌, ◌||◌, List, [], ◌∷◌, ◌++◌, length, Option, None, Some, ◌⊎◌}
use Rattle.std.specs.List.{list_any}
use Rattle.causal_name.specs.declared.Pid.{Pid}
use Rattle.causal_name.specs.declared.MsgName.{MsgName}
use Rattle.causal_name.specs.declared.Det.{Det}
use Rattle.causal_name.specs.Names.{same_det, same_message, message_of, is_ascending}
use Rattle.causal_name.specs.Sets.{count_below}
use Rattle.causal_trace.specs.declared.entry.Entry.{Entry}
use Rattle.causal_trace.specs.declared.entry.Entry.TheVariants.{Send, Deliver, Stable, Restart, Forget}
use Rattle.causal_trace.specs.Past.{list_has, det_from}
use Rattle.causal_steps.specs.Transit.{TransitParcel}
use Rattle.causal_rounds.specs.Rounds.{with_value_at}
use Rattle.causal_world.specs.World.{Packet}
use Rattle.causal_nodes.specs.Node.{NodeLog, UpNode, NodeRound, DownNode, Node, up_node, down_node, lane_or_next}
use Rattle.causal_nodes.specs.Packets.{Sent, message_packet, acknowledgement_packet, write_packet, written_packet, question_packet, answer_packet, not_up_packet, read_packet, stored_packet, number_packet}

-- floors raised to a view
abbrev pub raised : (ℕ → ℕ) → (ℕ → ℕ) → ℕ → ℕ
raised floors view z = max (floors z) (view z)

abbrev pub empty_log : NodeLog
empty_log = record { has = λ d. false; holder = λ d q. false; stable = λ d. false }

-- a memory with another log, or with other floors
abbrev pub with_node_log : UpNode → NodeLog → UpNode
with_node_log a log = record a { log = log }

abbrev pub with_floors : UpNode → (ℕ → ℕ) → UpNode
with_floors a floors = record a { floors = floors }

abbrev pub with_one_sent : UpNode → UpNode
with_one_sent a = record a { sent = a.sent + 1 }

-- the log of p after a delivery that lists these: it knows the holders that the message names, and that p is one
abbrev pub node_log_after_delivery : ℕ → List Det → TransitParcel → NodeLog → NodeLog
node_log_after_delivery p listed t log = record {
  has = λ d. list_has listed d || log.has d;
  holder = λ d q. (list_has listed d && (t.names_holder d q || q == p)) || log.holder d q;
  stable = log.stable;
}

abbrev pub up_after_delivery : ℕ → MsgName → List Det → TransitParcel → UpNode → UpNode
up_after_delivery p name listed t a = record a {
  log = node_log_after_delivery p listed t a.log;
  received = a.received ++ name ∷ [];
}

-- the log after an acknowledgement: of what is logged it knows the holders that the acknowledgement names
abbrev pub log_after_acknowledgement : TransitParcel → NodeLog → NodeLog
log_after_acknowledgement t log = record { has = log.has; holder = λ d q. (log.has d && t.names_holder d q) || log.holder d q; stable = log.stable }

-- the log after a determinant is known to be stable
abbrev pub log_after_mark : Det → NodeLog → NodeLog
log_after_mark det log = record { has = log.has; holder = log.holder; stable = λ d. (log.has d && same_det d det) || log.stable d }

abbrev pub log_without : List Det → NodeLog → NodeLog
log_without listed log = record {
  has = λ d. not (list_has listed d) && log.has d;
  holder = λ d q. not (list_has listed d) && log.holder d q;
  stable = λ d. not (list_has listed d) && log.stable d;
}

-- a process that is down, with another round, or that has just gone down
abbrev pub with_round : DownNode → Option NodeRound → DownNode
with_round x round = record { lane = x.lane; told = x.told; round = round }

abbrev pub fallen_node : ℕ → DownNode
fallen_node lane = record { lane = lane; told = λ q. 0; round = None }

abbrev pub new_node_round : ℕ → (ℕ → ℕ) → NodeRound
new_node_round name view = record { name = name; view = view; heard = λ q. false; gathered = empty_log }

-- a round after a reply: an answer, one that brings nothing, and one of stable storage, whole or in part
abbrev pub after_answer : ℕ → TransitParcel → NodeRound → NodeRound
after_answer from t r = record r {
  heard = with_value_at r.heard from true;
  gathered = record {
    has = λ d. r.gathered.has d || t.carries d;
    holder = λ d q. r.gathered.holder d q || t.names_holder d q;
    stable = λ d. r.gathered.stable d || t.names_stable d;
  };
}

abbrev pub with_heard : ℕ → NodeRound → NodeRound
with_heard from r = record r { heard = with_value_at r.heard from true }

abbrev pub round_with_stored : Det → NodeRound → NodeRound
round_with_stored det r = record r {
  gathered = record {
    has = λ d. r.gathered.has d || same_det d det;
    holder = r.gathered.holder;
    stable = λ d. r.gathered.stable d || same_det d det;
  };
}

-- the memory of p after a restart with this round
abbrev pub up_after_restart : ℕ → ℕ → NodeRound → UpNode
up_after_restart p lane r = record {
  lane = lane;
  log = record { has = r.gathered.has; holder = λ d q. (r.gathered.has d && q == p) || r.gathered.holder d q; stable = r.gathered.stable };
  floors = r.view;
  sent = 0;
  received = [];
}

-- what p sends of its log, from its present lane: nothing that its log does not know
pub record IsOfNodeLog (p : ℕ) (a : UpNode) (new : Packet) : Type 0 where
  pub from : new.parcel.from ≡ p
  pub lane : new.lane ≡ a.lane
  pub logged : (d : Det) → new.parcel.carries d ≡ true → a.log.has d ≡ true
  pub known_holders : (d : Det) (q : ℕ) → new.parcel.names_holder d q ≡ true
      → (a.log.holder d q ≡ true) × (new.parcel.carries d ≡ true)
  pub known_stable : (d : Det) → new.parcel.names_stable d ≡ true → a.log.stable d ≡ true
  pub names_sender : (d : Det) → new.parcel.carries d ≡ true → new.parcel.names_holder d p ≡ true

-- One step of the process `me`, one of n, for the bound f: its state, what it takes, its next state, what it sends, and
-- its entries. `position` is the number of entries recorded so far, by all processes.
pub data NodeStep (n f : ℕ) (me : Pid) (position : ℕ) : Node → Option Sent → Node → List Sent → List Entry → Type 0 where
  -- a message is sent; what it leaves out of the log is known to be stable, or has more than f known holders
  send_row : (a : UpNode) (to : Pid) (new : Packet) → to.0 < n → IsOfNodeLog me.0 a new → new.to ≡ to.0
      → new.parcel.send ≡ Some position
      → ((d : Det) → a.log.has d ≡ true → (new.parcel.carries d ≡ true) ⊎ ((a.log.stable d ≡ true) ⊎ (f < count_below n (a.log.holder d))))
      → NodeStep n f me position (up_node a) None (up_node (with_one_sent a)) (message_packet (record { source = me; ssn = a.sent }) new ∷ []) (Send me to a.sent ∷ [])
  -- a message of no refused lane is delivered, once in a lane; if the log has a determinant for the slot, it names
  -- this message
  deliver_row : (a : UpNode) (name : MsgName) (p : Packet) (send : ℕ) (listed : List Det) → is_ascending listed ≡ true
      → p.to ≡ me.0
      → a.floors p.parcel.from ≤ p.lane → p.parcel.send ≡ Some send → list_any (same_message name) a.received ≡ false
      → ((d : Det) → a.log.has d ≡ true → d.dest ≡ me → d.rsn ≡ length a.received → message_of d ≡ name)
      → ((d : Det) → list_has listed d ≡ (same_det d (det_from me (length a.received) name) || p.parcel.carries d))
      → NodeStep n f me position (up_node a) (Some (message_packet name p)) (up_node (up_after_delivery me.0 name listed p.parcel a)) [] (Deliver me send (length a.received) listed ∷ [])
  acknowledge_row : (a : UpNode) (new : Packet) → IsOfNodeLog me.0 a new → new.parcel.send ≡ None
      → NodeStep n f me position (up_node a) None (up_node a) (acknowledgement_packet new ∷ []) []
  learn_row : (a : UpNode) (p : Packet) → p.to ≡ me.0 → a.floors p.parcel.from ≤ p.lane
      → NodeStep n f me position (up_node a) (Some (acknowledgement_packet p)) (up_node (with_node_log a (log_after_acknowledgement p.parcel a.log))) [] []
  write_row : (a : UpNode) (new : Packet) → IsOfNodeLog me.0 a new → new.to ≡ n → new.parcel.send ≡ None
      → NodeStep n f me position (up_node a) None (up_node a) (write_packet new ∷ []) []
  -- what stable storage has confirmed is recorded, and known to be stable
  mark_row : (a : UpNode) (dets : Det → Bool) (det : Det) → dets det ≡ true
      → NodeStep n f me position (up_node a) (Some (written_packet dets)) (up_node (with_node_log a (log_after_mark det a.log))) [] (Stable det ∷ [])
  -- what is known to be stable is forgotten, but no determinant of the process that is still to be
  -- repeated
  forget_row : (a : UpNode) (listed : List Det) → is_ascending listed ≡ true
      → ((d : Det) → list_has listed d ≡ true → a.log.stable d ≡ true)
      → ((d : Det) → list_has listed d ≡ true → d.dest.0 ≡ me.0 → d.rsn < length a.received)
      → NodeStep n f me position (up_node a) None (up_node (with_node_log a (log_without listed a.log))) [] (Forget me listed ∷ [])
  -- a question with its own lane is answered with the whole log; what is below the view is refused from now on
  answer_row : (a : UpNode) (s name : ℕ) (view : ℕ → ℕ) (new : Packet) → view me.0 ≡ a.lane → IsOfNodeLog me.0 a new
      → new.to ≡ s → new.parcel.send ≡ None → ((d : Det) → new.parcel.carries d ≡ a.log.has d)
      → NodeStep n f me position (up_node a) (Some (question_packet s name view)) (up_node (with_floors a (raised a.floors view))) (answer_packet name new ∷ []) []
  -- any process sends its number
  tell_row : (old : Node) → NodeStep n f me position old None old (number_packet me.0 (lane_or_next old) ∷ []) []
  -- a process that is down hears a number
  hear_number_row : (x : DownNode) (q number : ℕ)
      → NodeStep n f me position (down_node x) (Some (number_packet q number)) (down_node (record { lane = x.lane; told = with_value_at x.told q number; round = x.round })) [] []
  -- a round begins, with its next lane, and numbers not above those that others have sent
  begin_row : (x : DownNode) (name : ℕ) (view : ℕ → ℕ) → view me.0 ≡ x.lane + 1
      → ((q : ℕ) → (q ≡ me.0 → ⊥) → view q ≤ x.told q)
      → NodeStep n f me position (down_node x) None (down_node (with_round x (Some (new_node_round name view)))) (question_packet me.0 name view ∷ []) []
  -- a question with its next lane is answered by a process that is down; its own round ends
  not_up_row : (x : DownNode) (s name : ℕ) (view : ℕ → ℕ) → (s ≡ me.0 → ⊥) → view me.0 ≡ x.lane + 1
      → NodeStep n f me position (down_node x) (Some (question_packet s name view)) (down_node (with_round x None)) (not_up_packet me.0 s name ∷ []) []
  -- the process dies while it is down: it has given up its round
  give_up_row : (x : DownNode) → NodeStep n f me position (down_node x) None (down_node (fallen_node x.lane)) [] []
  -- a reply to the present round is taken
  hear_answer_row : (x : DownNode) (r : NodeRound) (p : Packet) → x.round ≡ Some r → p.to ≡ me.0
      → NodeStep n f me position (down_node x) (Some (answer_packet r.name p)) (down_node (with_round x (Some (after_answer p.parcel.from p.parcel r)))) [] []
  hear_not_up_row : (x : DownNode) (r : NodeRound) (q : ℕ) → x.round ≡ Some r
      → NodeStep n f me position (down_node x) (Some (not_up_packet q me.0 r.name)) (down_node (with_round x (Some (with_heard q r)))) [] []
  -- after the replies of all others stable storage is asked
  read_row : (x : DownNode) (r : NodeRound) → x.round ≡ Some r → ((q : ℕ) → q < n → (q ≡ me.0 → ⊥) → r.heard q ≡ true)
      → NodeStep n f me position (down_node x) None (down_node x) (read_packet me.0 r.name r.view ∷ []) []
  -- what it has stored is recorded, one determinant after the other, and then the reply counts
  take_stored_row : (x : DownNode) (r : NodeRound) (dets : Det → Bool) (det : Det) → x.round ≡ Some r
      → dets det ≡ true
      → NodeStep n f me position (down_node x) (Some (stored_packet me.0 r.name dets)) (down_node (with_round x (Some (round_with_stored det r)))) [] (Stable det ∷ [])
  hear_stored_row : (x : DownNode) (r : NodeRound) (dets : Det → Bool) → x.round ≡ Some r
      → ((d : Det) → dets d ≡ true → r.gathered.has d ≡ true)
      → NodeStep n f me position (down_node x) (Some (stored_packet me.0 r.name dets)) (down_node (with_round x (Some (with_heard n r)))) [] []
  -- after all replies the process comes up in its next lane with what it has gathered
  restart_row : (x : DownNode) (r : NodeRound) (listed : List Det) → is_ascending listed ≡ true → x.round ≡ Some r
      → ((q : ℕ) → q < suc n → (q ≡ me.0 → ⊥) → r.heard q ≡ true) → ((d : Det) → list_has listed d ≡ r.gathered.has d)
      → NodeStep n f me position (down_node x) None (up_node (up_after_restart me.0 (x.lane + 1) r)) [] (Restart me listed ∷ [])
