-- That each call of an endpoint is a call of its node, with the packets that its parcels' bytes encode.
use Rattle.std.specs.Prelude.{◌≡◌, ℕ, List, [], ◌∷◌, length, slice_get, Option, None, Some, Ok, ◌⊎◌}
use Rattle.causal_trace.specs.declared.entry.Entry.{Entry}
use Rattle.causal_protocol.specs.Memory.{SentMessage}
use Rattle.causal_protocol.specs.Naming.{message_name}
use Rattle.causal_wire.specs.declared.parcel.Head.{Head}
use Rattle.causal_wire.specs.Parcels.{Contents}
use Rattle.causal_wire.specs.Reading.{read_parcel}
use Rattle.causal_node.specs.NodeStates.{NodeState, RoundState}
use Rattle.causal_nodes.specs.Packets.{Sent, message_packet, question_packet, WasSent}
use Rattle.causal_calls.specs.Views.{numbers}
use Rattle.causal_calls.specs.Parcels.{message_with}
use Rattle.causal_calls.specs.Calls.{NodeCall}
use Rattle.causal_endpoint.specs.Endpoints.{EndpointState, run_of}
use Rattle.causal_endpoints.specs.Packets.{IsSendWith, taken_with, not_up_for, Says}
use Rattle.causal_endpoints.specs.Calls.{CallInput, nothing, bytes, from_storage, ended, Output, EndpointCall}
use Rattle.causal_endpoints.specs.States.{IsEndpointState, HasCountedLog, IsOfDets, IsOfRun}

-- these bytes were sent
abbrev pub IsListed : {X : Type 0} → List X → X → Type 0
IsListed [] x = ⊥
IsListed (y ∷ ys) x = (y ≡ x) ⊎ IsListed ys x

-- what the node takes with an input, which another process has sent: the packet of the parcel, with the position of a
-- message's send entry
abbrev pub TakesPacket : List Entry → EndpointState → CallInput → Option Sent → Type 0
TakesPacket past e nothing taken = taken ≡ None
TakesPacket past e (bytes b) taken =
    (p : Head × Contents) × (read_parcel (run_of e) b ≡ Ok p) × (p.0.dest ≡ e.node.identity.me) × (p.0.source.0 ≡ e.node.identity.me.0 → ⊥)
    × ((taken ≡ None) ⊎ ((at : ℕ) × IsSendWith past at p.0 p.1 × (taken ≡ Some (taken_with e.node at p.0 p.1))))
TakesPacket past e (from_storage k) taken = taken ≡ Some k
TakesPacket past e (ended q number) taken = (r : RoundState) × (e.node.recovery ≡ Some (Some r)) × (taken ≡ Some (not_up_for e.node q number r.name)) × (q.0 ≡ e.node.identity.me.0 → ⊥)

-- the node's call, what it takes and sends, and that the bytes that are sent are the packets of that call
pub record IsNodeCall (past : List Entry) (old : EndpointState) (input : CallInput) (new : EndpointState) (output : Output) (entries : List Entry) : Type 0 where
  pub taken : Option Sent
  pub sent : List Sent
  pub call : NodeCall (length past) old.node taken new.node sent entries
  pub takes : TakesPacket past old input taken
  pub parcels : (b : List ℕ) → IsListed output.bytes b → (k : Sent) × WasSent sent k × Says old (length past) b k
  pub requests : (k : Sent) → IsListed output.to_storage k → WasSent sent k
  -- a question begins a round of a name that was given
  pub questions : (from name : ℕ) (view : ℕ → ℕ) → WasSent sent (question_packet from name view) → (from ≡ old.node.identity.me.0) × IsListed output.names name

-- what a node sends again, by the position of a message's send entry: the question of its round, the messages that it
-- keeps
pub data IsSentAgain (n : NodeState) : (ℕ → Sent) → Type 0 where
  question : (r : RoundState) → n.recovery ≡ Some (Some r) → IsSentAgain n (λ at. question_packet n.identity.me.0 r.name (numbers n.floors))
  message : (ssn : ℕ) (kept : SentMessage) → slice_get n.memory.sent ssn ≡ Some kept
      → IsSentAgain n (λ at. message_packet (message_name n.identity.me ssn) (message_with n.lane kept.to at (message_name n.identity.me ssn) kept.batch))

-- the node stays as it is, nothing is recorded, and the bytes are a packet that it sends again
pub record IsNoCall (old : EndpointState) (input : CallInput) (new : EndpointState) (output : Output) (entries : List Entry) : Type 0 where
  pub nothing_taken : input ≡ nothing
  pub same : new.node ≡ old.node
  pub unrecorded : entries ≡ []
  pub parcels : (b : List ℕ) → IsListed output.bytes b → (packet : ℕ → Sent) × IsSentAgain old.node packet × ((at : ℕ) → Says old at b (packet at))
  pub no_requests : output.to_storage ≡ []
  pub no_names : output.names ≡ []

-- an endpoint's call is a call of its node, or sends again what the node has sent
abbrev pub EndpointCallsAreNodeCalls : Type 0
EndpointCallsAreNodeCalls = (past : List Entry) (old new : EndpointState) (input : CallInput) (output : Output) (entries : List Entry) → EndpointCall past old input new output entries
    → IsEndpointState old → HasCountedLog old → IsOfRun old input
    → IsNodeCall past old input new output entries ⊎ IsNoCall old input new output entries

-- it keeps what is true of each state of an endpoint, and sends to stable storage determinants of processes
abbrev pub EndpointCallsKeepStates : Type 0
EndpointCallsKeepStates = (past : List Entry) (old new : EndpointState) (input : CallInput) (output : Output) (entries : List Entry) → EndpointCall past old input new output entries
    → IsEndpointState old → HasCountedLog old → IsOfRun old input
    → IsEndpointState new × (new.node.identity ≡ old.node.identity) × (new.run ≡ old.run) × ((k : Sent) → IsListed output.to_storage k → IsOfDets old.node.identity.processes k)
