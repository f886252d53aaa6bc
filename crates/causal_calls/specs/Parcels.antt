-- What a node's embedder sends of the node's log.
use Rattle.std.specs.Prelude.{ℕ, false, ◌&&◌, List, length, map, filter, None}
use Rattle.causal_name.specs.declared.Pid.{Pid}
use Rattle.causal_name.specs.declared.MsgName.{MsgName}
use Rattle.causal_name.specs.declared.Det.{Det}
use Rattle.causal_trace.specs.Past.{list_has}
use Rattle.causal_log.specs.declared.batch.Item.{Item}
use Rattle.causal_log.specs.Logs.{LogMap, known_of, item_of, batch_items}
use Rattle.causal_protocol.specs.Naming.{message_name}
use Rattle.causal_protocol.specs.MemoryQueries.{has_entry, log_knows_holder, log_knows_stable, has_item, item_holder, parcel_of}
use Rattle.causal_world.specs.World.{Packet}
use Rattle.causal_node.specs.NodeStates.{NodeState}

-- a message of this name from this lane, with this piggyback; `send` is the position of its send entry
abbrev pub message_with : ℕ → Pid → ℕ → MsgName → List Item → Packet
message_with lane to send name items = record { parcel = parcel_of name.source.0 (record { to = to; send = send; batch = items }); lane = lane; to = to.0 }

-- a whole log, from this process in this lane
abbrev pub log_packet : ℕ → ℕ → ℕ → LogMap → Packet
log_packet from lane to log = record {
  parcel = record { from = from; send = None; carries = λ d. has_entry d log; names_holder = λ d q. log_knows_holder d q log; names_stable = λ d. log_knows_stable d log };
  lane = lane;
  to = to;
}

-- an acknowledgement with these items, from this process in this lane
abbrev pub acknowledgement_with : Pid → ℕ → Pid → List Item → Packet
acknowledgement_with from lane to items = record {
  parcel = record { from = from.0; send = None; carries = λ d. has_item d items; names_holder = λ d q. item_holder d q items; names_stable = λ d. false };
  lane = lane;
  to = to.0;
}

-- what a log says of those of these determinants that it has
abbrev pub items_of_logged : LogMap → List Det → List Item
items_of_logged log dets = map (λ det. item_of (det, known_of log det)) (filter (λ det. has_entry det log) dets)

-- a node's acknowledgement of these determinants to a process
abbrev pub acknowledgement_of : NodeState → Pid → List Det → Packet
acknowledgement_of s to dets = acknowledgement_with s.identity.me s.lane to (items_of_logged s.memory.log dets)

-- a write of these determinants to stable storage
abbrev pub write_of : NodeState → List Det → Packet
write_of s dets = record {
  parcel = record {
    from = s.identity.me.0;
    send = None;
    carries = λ d. list_has dets d;
    names_holder = λ d q. list_has dets d && log_knows_holder d q s.memory.log;
    names_stable = λ d. false;
  };
  lane = s.lane;
  to = s.identity.processes;
}

-- the next message of a node, to this process; `position` is the number of entries so far, by all processes
abbrev pub next_message_packet : ℕ → NodeState → Pid → Packet
next_message_packet position s to = message_with s.lane to position (message_name s.identity.me (length s.memory.sent)) (batch_items s.identity.faults s.memory.log)
