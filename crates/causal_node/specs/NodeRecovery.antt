-- The recovery of a node: its rounds, its replies to others' rounds, and its restart.
use Rattle.std.specs.Prelude.{◌==◌, ℕ, suc, zero, Bool, true, false, not, ◌&&◌, ◌||◌, nat_lt, nat_le, max, List, [], length, replicate, slice_set, Option, Some, None, if◌then◌else◌}
use Rattle.std.specs.List.{list_any}
use Rattle.std.specs.BTreeMap.{is_at}
use Rattle.std.specs.Ordering.{nat_cmp}
use Rattle.std.specs.FinMap as fin
use Rattle.std.specs.FinSet as set
use Rattle.causal_name.specs.declared.Pid.{Pid}
use Rattle.causal_name.specs.declared.MsgName.{MsgName}
use Rattle.causal_name.specs.declared.Det.{Det}
use Rattle.causal_name.specs.Names.{same_pid, message_cmp, message_of}
use Rattle.causal_log.specs.Knowledge.{stable_and_held_by}
use Rattle.causal_log.specs.Logs.{LogMap, after_learn, after_union}
use Rattle.causal_protocol.specs.Gathering.{with_held}
use Rattle.causal_protocol.specs.Memory.{new_memory}
use Rattle.causal_node.specs.declared.node.Identity.{Identity}
use Rattle.causal_node.specs.declared.node_fault.NodeFault.{NodeFault}
use Rattle.causal_node.specs.declared.node_fault.NodeFault.TheVariants as Faults
use Rattle.causal_memory.specs.ProcessMemories.{with_stable}
use Rattle.causal_node.specs.NodeStates.{NodeState, Recovery, RoundState, floor_of, with_memory}
use Rattle.causal_node.specs.NodeRefusals.{or_else}
use Rattle.causal_trace.specs.Limits.{max_processes}

-- the processes below n
unfoldable pub processes_below : ℕ → set.FinSet nat_cmp
processes_below zero = set.empty
processes_below (suc n) = set.insert (processes_below n) n

-- the node at another stage
abbrev pub with_recovery : NodeState → Recovery → NodeState
with_recovery n recovery = record n { recovery = recovery }

-- a round to which nobody has replied
abbrev pub new_round_state : Identity → ℕ → RoundState
new_round_state who name = record { name = name; awaited = set.remove (processes_below who.processes) who.me.0; log = fin.empty; read = false }

-- the node with a determinant that its process read from stable storage in a round
abbrev pub with_stored_in : NodeState → RoundState → Det → NodeState
with_stored_in n r det = with_recovery n (Some (Some (record r { log = after_learn r.log det (stable_and_held_by n.identity.me) })))

-- the node after stable storage has confirmed a determinant, or has been read
abbrev pub node_after_stored : NodeState → Det → Recovery → NodeState
node_after_stored n det None = with_memory n (with_stable det n.memory) n.bodies
node_after_stored n det (Some None) = n
node_after_stored n det (Some (Some r)) = with_stored_in n r det

-- the log with which a process restarts: what its round has gathered, and that it holds all of it
abbrev pub restart_log_of : Pid → LogMap → LogMap
restart_log_of me log = with_held (fin.keys log) me log

-- whether one of these determinants is of a delivery of a message of this name to a process
abbrev pub is_named_for : Pid → List Det → MsgName → Bool
is_named_for me dets m = list_any (λ d. same_pid d.dest me && is_at (message_cmp (message_of d)) m) dets

-- the node after its restart with the log that a round has gathered, and these reserved names
abbrev pub node_after_restart : NodeState → LogMap → List MsgName → NodeState
node_after_restart n log reserved = record n {
  memory = new_memory (restart_log_of n.identity.me log);
  bodies = [];
  received_names = [];
  reserved_names = reserved;
  recovery = None;
}

-- the first refusal that applies to opening a node
abbrev pub node_open_fault : Identity → Option NodeFault
node_open_fault who = or_else (nat_lt max_processes who.processes || nat_le who.processes who.me.0) Faults.NoProcess None

-- a node that is opened in this lane
abbrev pub opened_node : Identity → ℕ → NodeState
opened_node who lane = record {
  identity = who;
  lane = lane;
  floors = slice_set (replicate who.processes 0) who.me.0 lane;
  memory = new_memory fin.empty;
  bodies = [];
  received_names = [];
  reserved_names = [];
  recovery = if lane == 0 then None else Some None;
}

-- the first refusal that applies to a round's beginning
abbrev pub begin_fault : Recovery → Option NodeFault
begin_fault None = Some Faults.Up
begin_fault (Some r) = None

-- the first refusal that applies to a determinant that storage has
abbrev pub node_stored_fault : Recovery → Option NodeFault
node_stored_fault None = None
node_stored_fault (Some None) = Some Faults.NoRound
node_stored_fault (Some (Some r)) = or_else (nat_lt 0 (set.len r.awaited)) Faults.Waiting None

-- the first refusal that applies to a restart
abbrev pub node_restart_fault : Recovery → Option NodeFault
node_restart_fault None = Some Faults.Up
node_restart_fault (Some None) = Some Faults.NoRound
node_restart_fault (Some (Some r)) = or_else (nat_lt 0 (set.len r.awaited) || not r.read) Faults.Waiting None

-- the first refusal that applies to the question to stable storage
abbrev pub ask_fault : Recovery → Option NodeFault
ask_fault None = Some Faults.Up
ask_fault (Some None) = Some Faults.NoRound
ask_fault (Some (Some r)) = or_else (nat_lt 0 (set.len r.awaited)) Faults.Waiting None

-- the first refusal that applies to the end of a read, in the round of this name
abbrev pub read_fault : Recovery → ℕ → Option NodeFault
read_fault None name = Some Faults.Up
read_fault (Some None) name = Some Faults.Unasked
read_fault (Some (Some r)) name = or_else (not (r.name == name)) Faults.Unasked (or_else (nat_lt 0 (set.len r.awaited)) Faults.Waiting None)

-- the first refusal that applies to a reply of q to the round of this name
abbrev pub reply_fault : Recovery → ℕ → Pid → Option NodeFault
reply_fault None name q = Some Faults.Up
reply_fault (Some None) name q = Some Faults.Unasked
reply_fault (Some (Some r)) name q = or_else (not (r.name == name && set.contains r.awaited q.0)) Faults.Unasked None

-- the round after q has replied with this log
abbrev pub with_log_of : RoundState → ℕ → LogMap → RoundState
with_log_of r q log = record { name = r.name; awaited = set.remove r.awaited q; log = after_union r.log log; read = r.read }

-- the round after q has replied that it is not up
abbrev pub without_awaited : RoundState → ℕ → RoundState
without_awaited r q = record { name = r.name; awaited = set.remove r.awaited q; log = r.log; read = r.read }

-- the round once stable storage has been read
abbrev pub node_after_read : RoundState → RoundState
node_after_read r = record { name = r.name; awaited = r.awaited; log = r.log; read = true }

-- the stage with a changed round, if there is one
abbrev pub map_round : (RoundState → RoundState) → Recovery → Recovery
map_round change None = None
map_round change (Some None) = Some None
map_round change (Some (Some r)) = Some (Some (change r))

-- the node after the restart that completes its round, if it has one
abbrev pub after_restart_at : NodeState → Recovery → List MsgName → NodeState
after_restart_at n None reserved = n
after_restart_at n (Some None) reserved = n
after_restart_at n (Some (Some r)) reserved = node_after_restart n r.log reserved

-- the floors once a process has told its number
abbrev pub raised_at : List ℕ → Pid → ℕ → List ℕ
raised_at floors q number = if nat_lt q.0 (length floors) then slice_set floors q.0 (max number (floor_of floors q)) else floors

-- the node after q has told its number, which differs from the view's: the round is given up
abbrev pub after_number : NodeState → Pid → ℕ → NodeState
after_number n q number = record n { floors = raised_at n.floors q number; recovery = Some None }

-- the node after q has replied, or another process for it, that it is not up and that this is its next lane
abbrev pub after_not_up : NodeState → Pid → ℕ → NodeState
after_not_up n q number = if floor_of n.floors q == number then with_recovery n (map_round (λ r. without_awaited r q.0) n.recovery) else after_number n q number
