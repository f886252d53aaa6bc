-- The value under the lock: its plain data, its item calls and its snapshots.
use Rattle.std.specs.Prelude.{◌≡◌, ◌<◌, ⊤, ℕ, List, [], length, replicate, Option, Some, None, Result, Ok, Err}
use Rattle.causal_trace.specs.Judgement.{IsSafeTrace}
use Rattle.causal_process.specs.declared.message.Input.{Input}
use Rattle.causal_process.specs.declared.message.Outgoing.{Outgoing}
use Rattle.causal_protocol.specs.Run.{Run}
use Rattle.causal_core.specs.CoreView.{CoreState, IsUnchanged, core_run, core_state, core_store}
use Rattle.causal_core.specs.Flushes.{FaultMeansFailure}
use Rattle.causal_protocol.specs.declared.request.Request.{Request}
use Rattle.causal_protocol.specs.declared.request.Reply.{Reply}
use Rattle.causal_protocol.specs.declared.request.Reply.TheVariants.{Restarted as Again, Refused, FlushRefused}
use Rattle.causal_protocol.specs.declared.request.Restarted.{Restarted}
use Rattle.causal_shared.specs.declared.locked.Locked.{Locked}
use Rattle.causal_shared.specs.declared.refused.LockedRefused.{LockedRefused}
use Rattle.causal_shared.specs.declared.fault.LockedFault.{LockedFault}
use Rattle.causal_shared.specs.declared.fault.LockedFault.TheVariants.{NoRecord, Core, Flush}
use Rattle.causal_shared.specs.History.{run_length, item_count, new_record, LockedState, AddsItem}
use Rattle.causal_shared.specs.Limits.{max_items}
use Rattle.causal_shared.specs.declared.item.Snapshot.{Snapshot}

-- the plain data of the locked value
abbrev pub locked_state : {S B : Type 0} {Has : _} → Locked S B Has → LockedState
locked_state l = record { run = core_run l.core; history = l.history.items; seats = l.seats.items }

-- `call` is the number of the seat's next call, and the history is not full
abbrev pub IsNextCall : LockedState → ℕ → ℕ → Type 0
IsNextCall held seat call = (seat < length held.seats) × (call ≡ item_count held.seats seat) × (length held.history < max_items)

-- the state of its core: the run, the bodies of the kept messages, and the boxes
abbrev pub core_state_of : {S B : Type 0} {Has : _} → Locked S B Has → CoreState B
core_state_of l = core_state l.core

-- the store of its core
abbrev pub core_store_of : {S B : Type 0} {Has : _} → Locked S B Has → S
core_store_of l = core_store l.core

-- if a flush returns an error of the store, the store's failure count has increased accordingly
abbrev pub LockedFaultMeansFailure : ℕ → ℕ → LockedFault → Type 0
LockedFaultMeansFailure old new (Flush f) = FaultMeansFailure old new f
LockedFaultMeansFailure old new fault = ⊤

-- the item reply for an error: the core's refusal; none if no item was made
abbrev pub fault_item_reply : LockedFault → Option Reply
fault_item_reply NoRecord = None
fault_item_reply (Core fault) = Some (Refused fault)
fault_item_reply (Flush fault) = Some (FlushRefused fault)

-- the item reply for a result, by the function for its error
abbrev pub item_reply_by : {A E : Type 0} → (E → Option Reply) → (A → Reply) → Result A E → Option Reply
item_reply_by refusal answer (Ok a) = Some (answer a)
item_reply_by refusal answer (Err e) = refusal e

-- the item reply for a result of the locked value
abbrev pub item_reply : {A : Type 0} → (A → Reply) → Result A LockedFault → Option Reply
item_reply answer result = item_reply_by fault_item_reply answer result

-- the item reply for a restart's result, whose error also contains the spare
abbrev pub restart_item_reply : {B : Type 0} → Result Restarted (LockedRefused B) → Option Reply
restart_item_reply result = item_reply_by (λ refused. fault_item_reply refused.fault) Again result

-- both boxes return equal outputs for all inputs
abbrev pub AnswersAs : {B : Type 0} → (B → List Input → List (List Outgoing)) → B → B → Type 0
AnswersAs answers a b = (inputs : List Input) → answers a inputs ≡ answers b inputs

-- the core's run, the bodies of its messages and the outputs of its boxes are unchanged
abbrev pub LeavesCore : {S B : Type 0} {Has : _} → (B → List Input → List (List Outgoing)) → Locked S B Has → Locked S B Has → Type 0
LeavesCore answers old new = IsUnchanged answers (core_state_of old) (core_state_of new)

-- an item call adds one item; if no item was made, nothing changes
abbrev pub ItemCall : LockedState → LockedState → ℕ → ℕ → Request → Option Reply → Type 0
ItemCall old new seat call request None = new ≡ old
ItemCall old new seat call request (Some reply) = AddsItem old new seat call request reply

-- an item call of the locked value, with this item reply
abbrev pub IsRecordedCall : {S B : Type 0} {Has : _}
    → Locked S B Has → Locked S B Has → ℕ → ℕ → Request → Option Reply → Type 0
IsRecordedCall old new seat call request reply = ItemCall (locked_state old) (locked_state new) seat call request reply

-- an item call of the locked value, with the item reply for its result
abbrev pub IsRecordedResult : {A S B : Type 0} {Has : _}
    → Locked S B Has → Locked S B Has → ℕ → ℕ → Request → (A → Reply) → Result A LockedFault → Type 0
IsRecordedResult old new seat call request answer result = IsRecordedCall old new seat call request (item_reply answer result)

-- an empty history over a run; each of the k seats has the run's length as its `seen` count
abbrev pub new_locked_state : Run → ℕ → LockedState
new_locked_state r k = record { run = r; history = []; seats = replicate k (new_record (run_length r)) }

-- the snapshot contains the trace, the number of items and the core's failure bound
pub record IsSnapshot (held : LockedState) (s : Snapshot) : Type 0 where
  pub trace : s.trace.recording ≡ held.run.recording
  pub calls : s.calls ≡ length held.history
  pub faults : s.faults ≡ held.run.faults

-- the snapshot's trace is safe for its bound f: at no instant does a crash of f processes leave an orphan
abbrev pub IsSafeSnapshot : Snapshot → Type 0
IsSafeSnapshot s = IsSafeTrace s.trace.recording s.faults
