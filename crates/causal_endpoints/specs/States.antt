-- What is true of each state of an endpoint: its numbers, and what it logs and keeps, fit into parcels.
use Rattle.std.specs.Prelude.{◌≡◌, ℕ, ◌<◌, ◌≤◌, ◌^◌, true, map, length, slice_get, Some, None}
use Rattle.std.specs.List.{AllByRecursion}
use Rattle.std.specs.FinMap as fin
use Rattle.causal_name.specs.declared.Det.{Det}
use Rattle.causal_log.specs.Logs.{LogMap}
use Rattle.causal_protocol.specs.Limits.{max_run_entries}
use Rattle.causal_protocol.specs.Memory.{SentMessage}
use Rattle.causal_protocol.specs.MemoryQueries.{has_entry}
use Rattle.causal_wire.specs.declared.parcel.Head.{Head}
use Rattle.causal_wire.specs.Parcels.{Contents, IsDet, IsRun, AreItems, IsParcel}
use Rattle.causal_wire.specs.Bytes.{parcel_bytes}
use Rattle.causal_node.specs.NodeStates.{Recovery}
use Rattle.causal_nodes.specs.Packets.{Sent, write_packet, written_packet, stored_packet}
use Rattle.causal_calls.specs.Views.{IsNodeState}
use Rattle.causal_endpoint.specs.Endpoints.{EndpointState, run_of}
use Rattle.causal_endpoint.specs.Items.{wire_item}
use Rattle.causal_endpoints.specs.Calls.{CallInput, nothing, bytes, from_storage, ended}

-- the determinants of a log are of n processes
abbrev pub HasDets : ℕ → LogMap → Type 0
HasDets n log = (d : Det) → has_entry d log ≡ true → IsDet n d

-- a round has a name of 64 bits, and has gathered determinants of n processes
abbrev pub IsRoundWithin : ℕ → Recovery → Type 0
IsRoundWithin n None = Unit {0}
IsRoundWithin n (Some None) = Unit {0}
IsRoundWithin n (Some (Some r)) = (r.name < 2 ^ 64) × HasDets n r.log

-- a kept message of a process goes to one of n, with items that a parcel can have
pub record IsKeptMessage (n me : ℕ) (kept : SentMessage) : Type 0 where
  pub to : kept.to.0 < n
  pub items : AreItems n me (map (wire_item (record { 0 = me })) kept.batch)

-- what is true of each state that calls of an endpoint reach
pub record IsEndpointState (e : EndpointState) : Type 0 where
  pub node : IsNodeState e.node
  pub run : IsRun (run_of e)
  pub lane : e.node.lane < 2 ^ 32
  pub clock : e.clock < 2 ^ 62
  pub floors : AllByRecursion (λ number. number < 2 ^ 32) e.node.floors
  pub logged : HasDets e.node.identity.processes e.node.memory.log
  pub round : IsRoundWithin e.node.identity.processes e.node.recovery
  pub kept : (ssn : ℕ) (kept : SentMessage) → slice_get e.node.memory.sent ssn ≡ Some kept → IsKeptMessage e.node.identity.processes e.node.identity.me.0 kept
  pub sent : length e.node.memory.sent ≤ max_run_entries
  pub received : length e.node.memory.received ≤ max_run_entries

-- a log has fewer than 2^32 determinants
abbrev pub HasCountedLog : EndpointState → Type 0
HasCountedLog e = fin.len e.node.memory.log < 2 ^ 32

-- the determinants of what goes to stable storage, or comes from it, are of n processes
abbrev pub IsOfDets : ℕ → Sent → Type 0
IsOfDets n (write_packet p) = (d : Det) → p.parcel.carries d ≡ true → IsDet n d
IsOfDets n (written_packet dets) = (d : Det) → dets d ≡ true → IsDet n d
IsOfDets n (stored_packet to name dets) = (d : Det) → dets d ≡ true → IsDet n d
IsOfDets n _ = Unit {0}

-- what a call takes is of the run: the bytes of a parcel, determinants and lanes of its processes
abbrev pub IsOfRun : EndpointState → CallInput → Type 0
IsOfRun e nothing = Unit {0}
IsOfRun e (bytes b) = (p : Head × Contents) × IsParcel (run_of e) p × (b ≡ parcel_bytes (run_of e) p)
IsOfRun e (from_storage k) = IsOfDets e.node.identity.processes k
IsOfRun e (ended q lane) = lane < 2 ^ 32
