-- That each call of a node is a step of the theory of nodes, or changes nothing that the theory sees.
use Rattle.std.specs.Prelude.{◌≡◌, ℕ, ◌<◌, true, List, [], Option, None, Some, ◌⊎◌}
use Rattle.causal_name.specs.declared.Det.{Det}
use Rattle.causal_trace.specs.declared.entry.Entry.{Entry}
use Rattle.causal_log.specs.Logs.{LogMap}
use Rattle.causal_protocol.specs.MemoryQueries.{has_entry}
use Rattle.causal_world.specs.World.{Packet}
use Rattle.causal_node.specs.NodeStates.{NodeState}
use Rattle.causal_nodes.specs.Node.{Node}
use Rattle.causal_nodes.specs.Packets.{Sent, WasSent}
use Rattle.causal_nodes.specs.NodeSteps.{NodeStep}
use Rattle.causal_nodes.specs.Network.{IsCarrying}
use Rattle.causal_calls.specs.Views.{Represents, IsNodeState}
use Rattle.causal_calls.specs.Calls.{NodeCall}

-- no two determinants of a log share a slot
abbrev pub HasLogSingleSlots : LogMap → Type 0
HasLogSingleSlots log = (a b : Det) → has_entry a log ≡ true → has_entry b log ≡ true → a.dest ≡ b.dest → a.rsn ≡ b.rsn → a ≡ b

-- what is sent names only processes as holders
abbrev pub NamesProcesses : ℕ → Sent → Type 0
NamesProcesses n k = (p : Packet) → IsCarrying k p → (d : Det) (q : ℕ) → p.parcel.names_holder d q ≡ true → q < n

abbrev pub TakesOfProcesses : ℕ → Option Sent → Type 0
TakesOfProcesses n None = Unit {0}
TakesOfProcesses n (Some k) = NamesProcesses n k

-- a step of the process that the state represents, to one that the next state represents
pub record IsStepOf (position : ℕ) (old : NodeState) (node : Node) (taken : Option Sent) (new : NodeState) (emitted : List Sent) (entries : List Entry) : Type 0 where
  pub next : Node
  pub step : NodeStep old.identity.processes old.identity.faults old.identity.me position node taken next emitted entries
  pub represents : Represents new next

-- the next state represents the same process, and nothing is sent or recorded
pub record IsNoStep (node : Node) (new : NodeState) (emitted : List Sent) (entries : List Entry) : Type 0 where
  pub silent : emitted ≡ []
  pub unrecorded : entries ≡ []
  pub represents : Represents new node

abbrev pub CallsAreSteps : Type 0
CallsAreSteps = (position : ℕ) (old new : NodeState) (taken : Option Sent) (emitted : List Sent) (entries : List Entry) (node : Node) → NodeCall position old taken new emitted entries
    → IsNodeState old → (old.recovery ≡ None → HasLogSingleSlots old.memory.log) → Represents old node
    → IsStepOf position old node taken new emitted entries ⊎ IsNoStep node new emitted entries

-- a call keeps what is true of each state of a node, and what it sends names only processes
abbrev pub CallsKeepNodeStates : Type 0
CallsKeepNodeStates = (position : ℕ) (old new : NodeState) (taken : Option Sent) (emitted : List Sent) (entries : List Entry) → NodeCall position old taken new emitted entries
    → IsNodeState old → TakesOfProcesses old.identity.processes taken
    → IsNodeState new × (new.identity ≡ old.identity) × ((k : Sent) → WasSent emitted k → NamesProcesses old.identity.processes k)
