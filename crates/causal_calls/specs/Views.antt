-- How the state of a node represents a process of the theory of nodes.
use Rattle.std.specs.Prelude.{◌≡◌, ℕ, ◌+◌, ◌<◌, ◌≤◌, true, false, List, length, Option, Some, None, slice_get, unwrap_or}
use Rattle.std.specs.List.{list_any}
use Rattle.std.specs.FinSet as set
use Rattle.causal_name.specs.declared.Det.{Det}
use Rattle.causal_name.specs.declared.MsgName.{MsgName}
use Rattle.causal_name.specs.Names.{same_message}
use Rattle.causal_log.specs.Logs.{LogMap}
use Rattle.causal_protocol.specs.MemoryQueries.{has_entry, log_knows_holder, log_knows_stable}
use Rattle.causal_node.specs.declared.node.Identity.{Identity}
use Rattle.causal_node.specs.NodeStates.{NodeState, RoundState, Recovery, has_name}
use Rattle.causal_nodes.specs.Node.{NodeLog, UpNode, NodeRound, DownNode, Node, up_node, down_node}

-- what a log knows
abbrev pub log_view : LogMap → NodeLog
log_view log = record { has = λ d. has_entry d log; holder = λ d q. log_knows_holder d q log; stable = λ d. log_knows_stable d log }

-- the number that a list has for each process; 0 for numbers of no process
abbrev pub numbers : List ℕ → ℕ → ℕ
numbers view q = unwrap_or (slice_get view q) 0

-- a node that is up
abbrev pub up_view : NodeState → UpNode
up_view s = record { lane = s.lane; log = log_view s.memory.log; floors = numbers s.floors; sent = length s.memory.sent; received = s.memory.received }

-- A round that has taken the same replies. A process that gathers may already be a holder of what its node has read
-- from stable storage.
pub record IsRoundOf (s : NodeState) (r : RoundState) (y : NodeRound) : Type 0 where
  pub name : y.name ≡ r.name
  pub view : y.view ≡ numbers s.floors
  pub heard : (q : ℕ) → q < s.identity.processes → (q ≡ s.identity.me.0 → ⊥) → set.contains r.awaited q ≡ false → y.heard q ≡ true
  pub read : r.read ≡ true → y.heard s.identity.processes ≡ true
  pub has : (d : Det) → y.gathered.has d ≡ has_entry d r.log
  pub holder : (d : Det) (q : ℕ) → (q ≡ s.identity.me.0 → ⊥) → y.gathered.holder d q ≡ log_knows_holder d q r.log
  pub own : (d : Det) → y.gathered.holder d s.identity.me.0 ≡ true → y.gathered.has d ≡ true
  pub stable : (d : Det) → y.gathered.stable d ≡ log_knows_stable d r.log

abbrev pub HasRoundOf : NodeState → Option RoundState → Option NodeRound → Type 0
HasRoundOf s None round = Unit {0}
HasRoundOf s (Some r) round = (y : NodeRound) × (round ≡ Some y) × IsRoundOf s r y

-- A process that is down, whose next lane is the node's, and which was sent numbers not below its floors. If the node
-- has a round, so has the process.
pub record IsDownView (s : NodeState) (recovers : Option RoundState) (x : DownNode) : Type 0 where
  pub lane : s.lane ≡ x.lane + 1
  pub told : (q : ℕ) → (q ≡ s.identity.me.0 → ⊥) → numbers s.floors q ≤ x.told q
  pub round : HasRoundOf s recovers x.round

abbrev pub RepresentsAt : NodeState → Recovery → Node → Type 0
RepresentsAt s None node = node ≡ up_node (up_view s)
RepresentsAt s (Some round) node = (x : DownNode) × (node ≡ down_node x) × IsDownView s round x

-- the node's state represents this process
abbrev pub Represents : NodeState → Node → Type 0
Represents s node = RepresentsAt s s.recovery node

-- the holders that a log knows are processes
abbrev pub HasHoldersBelow : ℕ → LogMap → Type 0
HasHoldersBelow n log = (d : Det) (q : ℕ) → log_knows_holder d q log ≡ true → q < n

-- a round awaits no reply of its own process, and knows only processes as holders
abbrev pub IsRecoveryState : Identity → Recovery → Type 0
IsRecoveryState who None = Unit {0}
IsRecoveryState who (Some None) = Unit {0}
IsRecoveryState who (Some (Some r)) = HasHoldersBelow who.processes r.log × (set.contains r.awaited who.me.0 ≡ false)

-- What is true of each state that the calls of a node reach: it has a floor for each process, and its own is its lane;
-- holders are processes, and the process is one of what it logs; the set of received names has exactly those in the
-- list.
pub record IsNodeState (s : NodeState) : Type 0 where
  pub process : s.identity.me.0 < s.identity.processes
  pub floors : length s.floors ≡ s.identity.processes
  pub own_floor : numbers s.floors s.identity.me.0 ≡ s.lane
  pub holders : HasHoldersBelow s.identity.processes s.memory.log
  pub own : (d : Det) → has_entry d s.memory.log ≡ true → log_knows_holder d s.identity.me.0 s.memory.log ≡ true
  pub received : (m : MsgName) → has_name s.received_names m ≡ list_any (same_message m) s.memory.received
  pub recovery : IsRecoveryState s.identity s.recovery
