-- Systems of endpoints that exchange bytes, with stable storage, on a network that forges no bytes.
use Rattle.std.specs.Prelude.{◌≡◌, ℕ, ◌+◌, ◌<◌, ◌≤◌, ◌^◌, Bool, true, false, ◌||◌, List, [], ◌∷◌, ◌++◌, Some, None}
use Rattle.causal_name.specs.declared.Pid.{Pid}
use Rattle.causal_name.specs.declared.Det.{Det}
use Rattle.causal_name.specs.Sets.{count_below}
use Rattle.causal_trace.specs.declared.entry.Entry.{Entry}
use Rattle.causal_trace.specs.declared.entry.Entry.TheVariants.{Crash}
use Rattle.causal_trace.specs.Limits.{max_processes}
use Rattle.causal_trace.specs.Judgement.{IsSafeTrace}
use Rattle.causal_rounds.specs.Rounds.{with_value_at}
use Rattle.causal_protocol.specs.MemoryQueries.{has_entry}
use Rattle.causal_world.specs.World.{Packet}
use Rattle.causal_node.specs.NodeRecovery.{opened_node}
use Rattle.causal_nodes.specs.Packets.{Sent, write_packet, written_packet, read_packet, stored_packet}
use Rattle.causal_nodes.specs.NodeSteps.{raised}
use Rattle.causal_calls.specs.Systems.{identity_of, is_recovering}
use Rattle.causal_endpoint.specs.Endpoints.{EndpointState}
use Rattle.causal_endpoints.specs.Calls.{CallInput, nothing, bytes, from_storage, ended, Output, EndpointCall}
use Rattle.causal_endpoints.specs.States.{HasCountedLog}
use Rattle.causal_endpoints.specs.CallLaws.{IsListed}

-- the entries so far, newest first; the state of each process's endpoint; all bytes that were sent; what went to stable
-- storage and came from it; what that has, and from which lane on it takes writes of each process; and the names that
-- each process has given to rounds
pub record EndpointSystem : Type 0 where
  pub past : List Entry
  pub endpoints : ℕ → EndpointState
  pub sent : List (List ℕ)
  pub requests : List Sent
  pub stored : Det → Bool
  pub floors : ℕ → ℕ
  pub names : ℕ → List ℕ

-- the process has crashed, or died while it recovered, and its next endpoint, of this lane, has done nothing
pub record HasGoneDown (e : EndpointState) (number : ℕ) : Type 0 where
  pub down : e.node.recovery ≡ Some None
  pub fresh : e.node ≡ opened_node e.node.identity number

-- what a call takes was sent before; a process is said to have ended only while it has
abbrev pub IsTakeable : ℕ → EndpointSystem → CallInput → Type 0
IsTakeable n w nothing = Unit {0}
IsTakeable n w (bytes b) = IsListed w.sent b
IsTakeable n w (from_storage k) = IsListed w.requests k
IsTakeable n w (ended q number) = (q.0 < n) × HasGoneDown (w.endpoints q.0) number

-- the endpoint that a process opens after a crash
abbrev pub opened_after : EndpointState → ℕ → EndpointState
opened_after e clock = record { node = opened_node e.node.identity (e.node.lane + 1); run = e.run; clock = clock }

-- What happens. What a call takes was sent before, at any time, and any number of times; a log has fewer than 2^32
-- determinants, as its length says; fewer than f processes recover at a crash; after a crash an endpoint is opened in
-- the next lane, which has 32 bits; a process gives no name to two rounds; stable storage keeps what it has stored, and
-- takes no write below its floors.
pub data EndpointEvent (n f : ℕ) (w : EndpointSystem) : EndpointSystem → Type 0 where
  call_event : (me : Pid) (input : CallInput) (e : EndpointState) (output : Output) (entries : List Entry) → me.0 < n
      → IsTakeable n w input
      → EndpointCall w.past (w.endpoints me.0) input e output entries
      → HasCountedLog e
      → ((name : ℕ) → IsListed output.names name → IsListed (w.names me.0) name → ⊥)
      → EndpointEvent n f w (record w {
        past = entries ++ w.past;
        endpoints = with_value_at w.endpoints me.0 e;
        sent = output.bytes ++ w.sent;
        requests = output.to_storage ++ w.requests;
        names = with_value_at w.names me.0 (output.names ++ w.names me.0);
      })
  crash_event : (who : Pid) (clock : ℕ) → who.0 < n → (w.endpoints who.0).node.recovery ≡ None
      → count_below n (λ q. is_recovering (w.endpoints q).node) < f
      → (w.endpoints who.0).node.lane + 1 < 2 ^ 32 → clock < 2 ^ 62
      → EndpointEvent n f w (record w {
        past = Crash who ∷ w.past;
        endpoints = with_value_at w.endpoints who.0 (opened_after (w.endpoints who.0) clock);
      })
  store_event : (p : Packet) → IsListed w.requests (write_packet p) → w.floors p.parcel.from ≤ p.lane
      → EndpointEvent n f w (record w {
        requests = written_packet p.parcel.carries ∷ w.requests;
        stored = λ d. w.stored d || p.parcel.carries d;
      })
  read_event : (s name : ℕ) (view : ℕ → ℕ) → IsListed w.requests (read_packet s name view)
      → EndpointEvent n f w (record w {
        requests = stored_packet s name w.stored ∷ w.requests;
        floors = raised w.floors view;
      })

-- n endpoints of a run are opened in lane 0; nothing was sent or stored
pub record IsNewEndpointSystem (n f run : ℕ) (w : EndpointSystem) : Type 0 where
  pub processes : n ≤ max_processes
  pub bound : f < 2 ^ 16
  pub number : run < 2 ^ 64
  pub past : w.past ≡ []
  pub endpoints : (p : ℕ) → p < n → (clock : ℕ) × (clock < 2 ^ 62) × (w.endpoints p ≡ record { node = opened_node (identity_of n f p) 0; run = run; clock = clock })
  pub sent : w.sent ≡ []
  pub requests : w.requests ≡ []
  pub stored : (d : Det) → w.stored d ≡ false
  pub floors : (q : ℕ) → w.floors q ≡ 0

pub data IsReachableEndpointSystem (n f run : ℕ) : EndpointSystem → Type 0 where
  new_system : (w : EndpointSystem) → IsNewEndpointSystem n f run w → IsReachableEndpointSystem n f run w
  next_system : (w next : EndpointSystem) → IsReachableEndpointSystem n f run w → EndpointEvent n f w next → IsReachableEndpointSystem n f run next

-- the recording of each system that endpoints reach is safe for f at each instant: no crash that f allows leaves an
-- orphan
abbrev pub EndpointSystemsAreSafe : Type 0
EndpointSystemsAreSafe = (n f run : ℕ) (w : EndpointSystem) → IsReachableEndpointSystem n f run w → IsSafeTrace (record { processes = n; past = w.past }) f

-- no two different determinants in logs of endpoints that are up share a slot
abbrev pub EndpointSystemsShareNoSlot : Type 0
EndpointSystemsShareNoSlot = (n f run : ℕ) (w : EndpointSystem) → IsReachableEndpointSystem n f run w → (p q : ℕ) → p < n → q < n
    → (w.endpoints p).node.recovery ≡ None → (w.endpoints q).node.recovery ≡ None
    → (a b : Det) → has_entry a (w.endpoints p).node.memory.log ≡ true → has_entry b (w.endpoints q).node.memory.log ≡ true → a.dest ≡ b.dest → a.rsn ≡ b.rsn → a ≡ b
