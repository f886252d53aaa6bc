-- Systems of processes that make only the calls of nodes, with stable storage, on a network.
use Rattle.std.specs.Prelude.{◌≡◌, ℕ, ◌+◌, ◌<◌, ◌≤◌, Bool, true, false, ◌||◌, List, [], ◌∷◌, ◌++◌, length, Option, None, is_some}
use Rattle.causal_name.specs.declared.Pid.{Pid}
use Rattle.causal_name.specs.declared.Det.{Det}
use Rattle.causal_name.specs.Sets.{count_below}
use Rattle.causal_trace.specs.declared.entry.Entry.{Entry}
use Rattle.causal_trace.specs.declared.entry.Entry.TheVariants.{Crash}
use Rattle.causal_trace.specs.Judgement.{IsSafeTrace}
use Rattle.causal_rounds.specs.Rounds.{with_value_at}
use Rattle.causal_protocol.specs.MemoryQueries.{has_entry}
use Rattle.causal_world.specs.World.{Packet}
use Rattle.causal_node.specs.declared.node.Identity.{Identity}
use Rattle.causal_node.specs.NodeStates.{NodeState}
use Rattle.causal_node.specs.NodeRecovery.{opened_node}
use Rattle.causal_nodes.specs.Packets.{Sent, write_packet, written_packet, read_packet, stored_packet, WasSent, WasTaken}
use Rattle.causal_nodes.specs.NodeSteps.{raised}
use Rattle.causal_nodes.specs.Network.{HasFreshName}
use Rattle.causal_calls.specs.Calls.{NodeCall}

-- the entries so far, newest first; the state of each process's node; all that was sent; what stable storage has, and
-- from which lane on it takes writes of each process
pub record System : Type 0 where
  pub past : List Entry
  pub nodes : ℕ → NodeState
  pub sent : List Sent
  pub stored : Det → Bool
  pub floors : ℕ → ℕ

abbrev pub identity_of : ℕ → ℕ → ℕ → Identity
identity_of n f p = record { processes = n; me = record { 0 = p }; faults = f }

abbrev pub is_recovering : NodeState → Bool
is_recovering s = is_some s.recovery

-- What happens. What a call takes was sent before; fewer than f processes recover at a crash; after a crash a node is
-- opened in the next lane; names of rounds are fresh; stable storage keeps what it has stored, and takes no write
-- below its floors.
pub data SystemEvent (n f : ℕ) (w : System) : System → Type 0 where
  call_event : (me : Pid) (taken : Option Sent) (node : NodeState) (emitted : List Sent) (entries : List Entry) → me.0 < n
      → WasTaken w.sent taken
      → NodeCall (length w.past) (w.nodes me.0) taken node emitted entries
      → ((new : Sent) → WasSent emitted new → HasFreshName w.sent new)
      → SystemEvent n f w (record { past = entries ++ w.past; nodes = with_value_at w.nodes me.0 node; sent = emitted ++ w.sent; stored = w.stored; floors = w.floors })
  crash_event : (who : Pid) → who.0 < n → (w.nodes who.0).recovery ≡ None
      → count_below n (λ q. is_recovering (w.nodes q)) < f
      → SystemEvent n f w (record { past = Crash who ∷ w.past; nodes = with_value_at w.nodes who.0 (opened_node (w.nodes who.0).identity ((w.nodes who.0).lane + 1)); sent = w.sent; stored = w.stored; floors = w.floors })
  store_event : (p : Packet) → WasSent w.sent (write_packet p) → w.floors p.parcel.from ≤ p.lane
      → SystemEvent n f w (record { past = w.past; nodes = w.nodes; sent = written_packet p.parcel.carries ∷ w.sent; stored = λ d. w.stored d || p.parcel.carries d; floors = w.floors })
  read_event : (s name : ℕ) (view : ℕ → ℕ) → WasSent w.sent (read_packet s name view)
      → SystemEvent n f w (record { past = w.past; nodes = w.nodes; sent = stored_packet s name w.stored ∷ w.sent; stored = w.stored; floors = raised w.floors view })

-- n nodes are opened in lane 0; nothing was sent or stored
pub record IsNewSystem (n f : ℕ) (w : System) : Type 0 where
  pub past : w.past ≡ []
  pub nodes : (p : ℕ) → p < n → w.nodes p ≡ opened_node (identity_of n f p) 0
  pub sent : w.sent ≡ []
  pub stored : (d : Det) → w.stored d ≡ false
  pub floors : (q : ℕ) → w.floors q ≡ 0

pub data IsReachableSystem (n f : ℕ) : System → Type 0 where
  new_system : (w : System) → IsNewSystem n f w → IsReachableSystem n f w
  next_system : (w next : System) → IsReachableSystem n f w → SystemEvent n f w next → IsReachableSystem n f next

-- the recording of each system that calls of nodes reach is safe for f at each instant: no crash that f allows leaves
-- an orphan
abbrev pub SystemsAreSafe : Type 0
SystemsAreSafe = (n f : ℕ) (w : System) → IsReachableSystem n f w → IsSafeTrace (record { processes = n; past = w.past }) f

-- no two different determinants in logs of nodes that are up share a slot
abbrev pub SystemsShareNoSlot : Type 0
SystemsShareNoSlot = (n f : ℕ) (w : System) → IsReachableSystem n f w → (p q : ℕ) → p < n → q < n → (w.nodes p).recovery ≡ None → (w.nodes q).recovery ≡ None
    → (a b : Det) → has_entry a (w.nodes p).memory.log ≡ true → has_entry b (w.nodes q).memory.log ≡ true → a.dest ≡ b.dest → a.rsn ≡ b.rsn → a ≡ b
