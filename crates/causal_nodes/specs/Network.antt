-- Processes and stable storage on a network that loses, duplicates, reorders and delays packets.
use Rattle.std.specs.Prelude.{◌≡◌, ℕ, ◌<◌, ◌≤◌, Bool, true, false, ◌||◌, List, [], ◌∷◌, ◌++◌, length, Option}
use Rattle.causal_name.specs.declared.Pid.{Pid}
use Rattle.causal_name.specs.declared.Det.{Det}
use Rattle.causal_name.specs.Sets.{count_below}
use Rattle.causal_trace.specs.declared.entry.Entry.{Entry}
use Rattle.causal_trace.specs.declared.entry.Entry.TheVariants.{Crash}
use Rattle.causal_trace.specs.Judgement.{IsSafeTrace}
use Rattle.causal_rounds.specs.Rounds.{with_value_at}
use Rattle.causal_world.specs.World.{Packet}
use Rattle.causal_nodes.specs.Node.{UpNode, DownNode, Node, up_node, down_node, is_node_down}
use Rattle.causal_nodes.specs.Packets.{Sent, message_packet, acknowledgement_packet, write_packet, written_packet, question_packet, answer_packet, read_packet, stored_packet, WasSent, WasTaken, is_of_round}
use Rattle.causal_nodes.specs.NodeSteps.{NodeStep, raised, fallen_node}

-- the entries so far, newest first; the processes; all that was sent; what stable storage has, and from which lane on
-- it takes writes of each process
pub record Network : Type 0 where
  pub past : List Entry
  pub nodes : ℕ → Node
  pub sent : List Sent
  pub stored : Det → Bool
  pub floors : ℕ → ℕ

-- a round that begins has a name that its process has not given to a round before, in any lane
abbrev pub HasFreshName : List Sent → Sent → Type 0
HasFreshName sent (question_packet from name view) = (k : Sent) → WasSent sent k → is_of_round k from name ≡ false
HasFreshName sent _ = Unit {0}

-- What happens on the network. Four things are assumed: what is taken was sent, at any time before; fewer than f
-- processes are down at a crash, and a process is down only after its crash; the number of its lane outlives it, and
-- names of rounds are fresh; stable storage keeps what it has stored, and takes no write below its floors.
pub data NetworkEvent (n f : ℕ) (net : Network) : Network → Type 0 where
  step_event : (me : Pid) (taken : Option Sent) (node : Node) (emitted : List Sent) (entries : List Entry) → me.0 < n
      → WasTaken net.sent taken
      → NodeStep n f me (length net.past) (net.nodes me.0) taken node emitted entries
      → ((new : Sent) → WasSent emitted new → HasFreshName net.sent new)
      → NetworkEvent n f net (record { past = entries ++ net.past; nodes = with_value_at net.nodes me.0 node; sent = emitted ++ net.sent; stored = net.stored; floors = net.floors })
  crash_event : (who : Pid) (a : UpNode) → who.0 < n → net.nodes who.0 ≡ up_node a
      → count_below n (λ q. is_node_down (net.nodes q)) < f
      → NetworkEvent n f net (record { past = Crash who ∷ net.past; nodes = with_value_at net.nodes who.0 (down_node (fallen_node a.lane)); sent = net.sent; stored = net.stored; floors = net.floors })
  -- stable storage takes a write of no refused lane, and confirms it
  store_event : (p : Packet) → WasSent net.sent (write_packet p) → net.floors p.parcel.from ≤ p.lane
      → NetworkEvent n f net (record { past = net.past; nodes = net.nodes; sent = written_packet p.parcel.carries ∷ net.sent; stored = λ d. net.stored d || p.parcel.carries d; floors = net.floors })
  -- stable storage sends all that it has, and refuses from now on what is below the view
  read_event : (s name : ℕ) (view : ℕ → ℕ) → WasSent net.sent (read_packet s name view)
      → NetworkEvent n f net (record { past = net.past; nodes = net.nodes; sent = stored_packet s name net.stored ∷ net.sent; stored = net.stored; floors = raised net.floors view })

-- a new process: in lane 0, with an empty log
pub record IsNewNode (a : UpNode) : Type 0 where
  pub lane : a.lane ≡ 0
  pub empty : (d : Det) → a.log.has d ≡ false
  pub no_holders : (d : Det) (q : ℕ) → a.log.holder d q ≡ false
  pub no_stable : (d : Det) → a.log.stable d ≡ false
  pub floors : (q : ℕ) → a.floors q ≡ 0
  pub sent : a.sent ≡ 0
  pub received : a.received ≡ []

-- n new processes; nothing was sent or stored
pub record IsNewNetwork (n : ℕ) (net : Network) : Type 0 where
  pub past : net.past ≡ []
  pub nodes : (p : ℕ) → p < n → (a : UpNode) × (net.nodes p ≡ up_node a) × IsNewNode a
  pub sent : net.sent ≡ []
  pub stored : (d : Det) → net.stored d ≡ false
  pub floors : (q : ℕ) → net.floors q ≡ 0

pub data IsReachableNetwork (n f : ℕ) : Network → Type 0 where
  new_network : (net : Network) → IsNewNetwork n net → IsReachableNetwork n f net
  next_network : (net next : Network) → IsReachableNetwork n f net → NetworkEvent n f net next
      → IsReachableNetwork n f next

-- what a packet carries to a log, if it carries anything
abbrev pub IsCarrying : Sent → Packet → Type 0
IsCarrying (message_packet name p) q = p ≡ q
IsCarrying (acknowledgement_packet p) q = p ≡ q
IsCarrying (write_packet p) q = p ≡ q
IsCarrying (answer_packet name p) q = p ≡ q
IsCarrying _ q = ⊥

-- d survives: stable storage has it, or the log of a process that is up, or a packet that its receiver may still take
pub data SurvivesIn (n : ℕ) (net : Network) (d : Det) : Type 0 where
  in_storage : net.stored d ≡ true → SurvivesIn n net d
  in_log : (p : ℕ) (a : UpNode) → p < n → net.nodes p ≡ up_node a → a.log.has d ≡ true → SurvivesIn n net d
  -- its receiver is up, and does not refuse its lane
  in_transit : (k : Sent) (t : Packet) (a : UpNode) → WasSent net.sent k → IsCarrying k t → t.to < n
      → net.nodes t.to ≡ up_node a → a.floors t.parcel.from ≤ t.lane → t.parcel.carries d ≡ true → SurvivesIn n net d
  -- its receiver is down, and its sender is up in the lane that sent it
  in_transit_to_down : (k : Sent) (t : Packet) (x : DownNode) (a : UpNode) → WasSent net.sent k → IsCarrying k t
      → t.to < n → net.nodes t.to ≡ down_node x → net.nodes t.parcel.from ≡ up_node a → t.lane ≡ a.lane
      → t.parcel.carries d ≡ true → SurvivesIn n net d
  -- it is a write that stable storage does not refuse
  in_write : (t : Packet) → WasSent net.sent (write_packet t) → net.floors t.parcel.from ≤ t.lane
      → t.parcel.carries d ≡ true → SurvivesIn n net d

-- the recording of each network that nodes reach is safe for f at each instant: no crash that f allows leaves an orphan
abbrev pub NodesAreSafe : Type 0
NodesAreSafe = (n f : ℕ) (net : Network) → IsReachableNetwork n f net → IsSafeTrace (record { processes = n; past = net.past }) f

-- no two different determinants that survive are of one slot: a delivery is repeated with one message at most
abbrev pub NodesShareNoSlot : Type 0
NodesShareNoSlot = (n f : ℕ) (net : Network) → IsReachableNetwork n f net → (a b : Det) → SurvivesIn n net a → SurvivesIn n net b → a.dest ≡ b.dest → a.rsn ≡ b.rsn → a ≡ b

-- a process comes up again after a crash, with the determinant of a delivery of its lane before
abbrev pub NodesRecover : Type 0
NodesRecover = (net : Network) × IsReachableNetwork 2 1 net × (a : UpNode) × (net.nodes 1 ≡ up_node a) × (a.lane ≡ 1) × (d : Det) × (a.log.has d ≡ true) × (d.dest.0 ≡ 1)
