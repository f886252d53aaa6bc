-- What the calls that change a node do: the endpoint after them, what is kept, what is written.
use Rattle.std.specs.Prelude.{◌≡◌, ℕ, List, Some, slice_get}
use Rattle.std.specs.FinMap as fin
use Rattle.causal_name.specs.declared.Pid.{Pid}
use Rattle.causal_name.specs.declared.Det.{Det}
use Rattle.causal_name.specs.declared.MsgName.{MsgName}
use Rattle.causal_wire.specs.Bytes.{parcel_bytes}
use Rattle.causal_wire.specs.Reading.{read_parcel}
use Rattle.causal_node.specs.NodeStates.{has_name}
use Rattle.causal_node.specs.NodeRecovery.{is_named_for, after_not_up}
use Rattle.causal_endpoint.specs.declared.sending.SendRecord.{SendRecord}
use Rattle.causal_endpoint.specs.declared.receiving.Received.{Received}
use Rattle.causal_endpoint.specs.declared.recovery.RestartRecord.{RestartRecord}
use Rattle.causal_endpoint.specs.declared.forgetting.Forgotten.{Forgotten}
use Rattle.causal_endpoint.specs.Endpoints.{EndpointState, run_of, next_clock, with_node}
use Rattle.causal_endpoint.specs.Sending.{after_send, IsSent}
use Rattle.causal_endpoint.specs.Receiving.{IsReceipt}
use Rattle.causal_endpoint.specs.Recovering.{after_begin, after_read, after_stored, after_restart, question_to}
use Rattle.causal_endpoint.specs.Forgetting.{endpoint_after_forget, IsForgotten}
use Rattle.causal_endpoint.specs.Acknowledging.{acknowledgement_to}
use Rattle.causal_endpoint.specs.Resending.{resent_bytes}
use Rattle.nixu_node.specs.declared.c_node.CReceived.{CReceived}
use Rattle.nixu_node.specs.declared.c_node.CSent.{CSent}
use Rattle.nixu_node.specs.declared.open_node.Kept.{Kept}
use Rattle.nixu_node.specs.declared.open_node.Kept.TheVariants as Kepts
use Rattle.nixu_node.specs.declared.open_node.OpenNode.{OpenNode}
use Rattle.nixu_node.specs.Structs.{c_sent_of, c_received_of}

-- a parcel with these bytes is kept, and nothing else
abbrev pub KeepsParcel : List ℕ → Kept → Type 0
KeepsParcel bytes (Kepts.Parcel parcel) = parcel.items ≡ bytes
KeepsParcel bytes other = ⊥

-- a message was sent
pub record HasSentMessage (e : EndpointState) (now : ℕ) (to : Pid) (body : List ℕ) (written : CSent) (next : OpenNode) : Type 0 where
  pub after : next.endpoint ≡ after_send e now to body
  pub sent : (s : SendRecord) × (next.kept ≡ Kepts.Sent to s) × (written ≡ c_sent_of s) × IsSent e now to body s

-- a kept message is to be sent again, with these bytes
pub record HasResent (e : EndpointState) (ssn : ℕ) (next : OpenNode) : Type 0 where
  pub after : next.endpoint ≡ e
  pub parcel : (bytes : List ℕ) × (resent_bytes e ssn (slice_get e.node.memory.sent ssn) ≡ Some bytes) × KeepsParcel bytes next.kept

-- a parcel was received
pub record HasReceivedParcel (e : EndpointState) (now : ℕ) (bytes : List ℕ) (written : CReceived) (next : OpenNode) : Type 0 where
  pub received : (r : Received) × (next.kept ≡ Kepts.Received r) × (written ≡ c_received_of r) × IsReceipt e now (read_parcel (run_of e) bytes) r next.endpoint

-- an acknowledgement of these determinants is to be sent
pub record HasAcknowledged (e : EndpointState) (now : ℕ) (to : Pid) (dets : List Det) (next : OpenNode) : Type 0 where
  pub after : next.endpoint ≡ with_node e e.node (next_clock now e.clock)
  pub parcel : KeepsParcel (parcel_bytes (run_of e) (acknowledgement_to e to dets (next_clock now e.clock))) next.kept

-- a round has begun
pub record HasBegun (e : EndpointState) (name : ℕ) (next : OpenNode) : Type 0 where
  pub after : next.endpoint ≡ after_begin e name
  pub nothing : next.kept ≡ Kepts.Nothing

-- the round's question is to be sent
pub record HasAsked (e : EndpointState) (now : ℕ) (to : Pid) (next : OpenNode) : Type 0 where
  pub after : next.endpoint ≡ with_node e e.node (next_clock now e.clock)
  pub parcel : KeepsParcel (parcel_bytes (run_of e) (question_to e to (next_clock now e.clock))) next.kept

-- the caller has said that a process is not up, and which lane is its next one
pub record HasTakenEnded (e : EndpointState) (who : Pid) (lane : ℕ) (next : OpenNode) : Type 0 where
  pub after : next.endpoint ≡ with_node e (after_not_up e.node who lane) e.clock
  pub nothing : next.kept ≡ Kepts.Nothing

-- stable storage has a determinant
pub record HasStored (e : EndpointState) (now : ℕ) (det : Det) (next : OpenNode) : Type 0 where
  pub after : next.endpoint ≡ after_stored e now det
  pub stored : next.kept ≡ Kepts.Stored (next_clock now e.clock) det

-- stable storage was read
pub record HasReadStorage (e : EndpointState) (next : OpenNode) : Type 0 where
  pub after : next.endpoint ≡ after_read e
  pub nothing : next.kept ≡ Kepts.Nothing

-- the restart entry lists the log, and what it names for the process is reserved
pub record IsRestarted (e : EndpointState) (now : ℕ) (r : RestartRecord) (after : EndpointState) : Type 0 where
  pub clock : r.clock ≡ next_clock now e.clock
  pub listed : r.listed.items ≡ fin.keys after.node.memory.log
  pub reserved : (m : MsgName) → has_name after.node.reserved_names m ≡ is_named_for e.node.identity.me r.listed.items m

-- the process has restarted
pub record HasRestarted (e : EndpointState) (now : ℕ) (next : OpenNode) : Type 0 where
  pub after : next.endpoint ≡ after_restart e now next.endpoint.node.reserved_names
  pub restarted : (r : RestartRecord) × (next.kept ≡ Kepts.Restarted r) × IsRestarted e now r next.endpoint

-- what is known to be stable was forgotten
pub record HasForgotten (e : EndpointState) (now : ℕ) (next : OpenNode) : Type 0 where
  pub after : next.endpoint ≡ endpoint_after_forget e now
  pub forgotten : (f : Forgotten) × (next.kept ≡ Kepts.Forgotten f) × IsForgotten e now f
