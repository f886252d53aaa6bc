-- The invariant of runs, the reachable runs, and what the laws say of them.
use Rattle.std.specs.Prelude.{◌≡◌, ℕ, zero, suc, ◌<◌, ◌+◌, List, [], length, Some, is_none, slice_get}
use Rattle.causal_name.specs.declared.Pid.{Pid}
use Rattle.causal_name.specs.declared.Det.{Det}
use Rattle.causal_trace.specs.declared.entry.Entry.{Entry}
use Rattle.causal_trace.specs.Past.{is_down, logs, message_at}
use Rattle.causal_trace.specs.Judgement.{IsSafeTrace}
use Rattle.causal_trace.specs.Survivors.{IsFollowed}
use Rattle.causal_steps.specs.Reachable.{IsReachableState}
use Rattle.causal_protocol.specs.declared.request.Request.{Request}
use Rattle.causal_protocol.specs.declared.request.Request.TheVariants as Requests
use Rattle.causal_protocol.specs.declared.request.Reply.{Reply}
use Rattle.causal_protocol.specs.declared.request.Reply.TheVariants as Replies
use Rattle.causal_protocol.specs.declared.request.CoreFault.{CoreFault}
use Rattle.causal_protocol.specs.Memory.{SentMessage, Memories, present_at}
use Rattle.causal_protocol.specs.Naming.{message_name}
use Rattle.causal_protocol.specs.Run.{Run, memories_of}
use Rattle.causal_protocol.specs.Steps.{append_all, AreSends, Steps}
use Rattle.causal_protocol.specs.MemoryQueries.{messages, memory_logs, volatile_of}
use Rattle.causal_protocol.specs.Invariant.{SlotsAreSingle, SurvivorsAreDelivered}
use Rattle.causal_protocol.specs.ReplyEntries.{reply_entries}

-- the memories match the entries: exactly the up processes have one, and each message in a memory was sent at its
-- position with its number
pub record MemoriesMatchEntries (n : ℕ) (past : List Entry) (ms : Memories) : Type 0 where
  pub count : length ms ≡ n
  pub state : (p : ℕ) → p < n → is_none (present_at ms p) ≡ is_down past p
  pub placed : (p ssn : ℕ) (k : SentMessage) → slice_get (messages ms p) ssn ≡ Some k → message_at past k.send ≡ Some (message_name (record { 0 = p }) ssn)
  -- a process's memory has the log that the entries give
  pub logged : (p : ℕ) (d : Det) → p < n → memory_logs ms p d ≡ logs past p d

-- the memories match the entries, and legal steps of the general protocol reach the state
pub record IsInvariantState (n f : ℕ) (past : List Entry) (ms : Memories) : Type 0 where
  pub fit : MemoriesMatchEntries n past ms
  pub reached : IsReachableState n f past (volatile_of ms)

-- the run's last state satisfies the invariant, and the run is safe so far
abbrev pub SatisfiesInvariant : Run → Type 0
SatisfiesInvariant r = IsInvariantState r.recording.processes r.faults r.recording.past (memories_of r)

-- the processes below p have begun, in order, each with its first sends, and nothing else has happened
abbrev pub HaveBegunBelow : ℕ → ℕ → List Entry → Type 0
HaveBegunBelow n zero past = past ≡ []
HaveBegunBelow n (suc p) past = (before : List Entry) × (number : ℕ) × (sends : List Entry) × HaveBegunBelow n p before × AreSends n (record { 0 = p }) 0 number sends × (past ≡ append_all sends before)

-- the reachable runs: all processes begin, and then legal steps follow
pub data IsReachable : Run → Type 0 where
  opened : (r : Run) → HaveBegunBelow r.recording.processes r.recording.processes r.recording.past → r.writers ≡ [] → IsReachable r
  stepped : (old new : Run) (request : Request) (reply : Reply) → IsReachable old → Steps old request reply new → IsReachable new

-- a run is safe at each instant, for its bound f
abbrev pub IsSafeRun : Run → Type 0
IsSafeRun r = IsSafeTrace r.recording r.faults

-- no two surviving determinants fill one slot
abbrev pub HasSingleSlots : Run → Type 0
HasSingleSlots r = SlotsAreSingle r.recording.processes r.recording.past

-- at each instant of a run no two surviving determinants fill one slot
abbrev pub IsFollowedRun : Run → Type 0
IsFollowedRun r = IsFollowed r.recording

-- each surviving determinant is that of a delivery so far
abbrev pub HasDeliveredSurvivors : Run → Type 0
HasDeliveredSurvivors r = SurvivorsAreDelivered r.recording.processes r.recording.past

-- each run that satisfies the invariant has the property
abbrev pub OfInvariantRuns : (Run → Type 0) → Type 0
OfInvariantRuns Has = (r : Run) → SatisfiesInvariant r → Has r

-- each reachable run has the property
abbrev pub OfReachableRuns : (Run → Type 0) → Type 0
OfReachableRuns Has = (r : Run) → IsReachable r → Has r

-- the initial state satisfies the invariant
abbrev pub StartSatisfiesInvariant : Type 0
StartSatisfiesInvariant = (r : Run) → HaveBegunBelow r.recording.processes r.recording.processes r.recording.past → r.writers ≡ [] → SatisfiesInvariant r

-- each legal step preserves the invariant
abbrev pub RequestsPreserveInvariant : Type 0
RequestsPreserveInvariant = (old new : Run) (request : Request) (reply : Reply) → Steps old request reply new → SatisfiesInvariant old → SatisfiesInvariant new

-- a refused call other than a flush leaves the run unchanged
abbrev pub RefusalsChangeNothing : Type 0
RefusalsChangeNothing = (old new : Run) (request : Request) (fault : CoreFault) → Steps old request (Replies.Refused fault) new → new ≡ old

-- a legal step appends as many entries as its reply says
abbrev pub RepliesMatchEntries : Type 0
RepliesMatchEntries = (old new : Run) (request : Request) (reply : Reply) → Steps old request reply new → length new.recording.past ≡ length old.recording.past + reply_entries reply

-- a fact holds in the last state of a run
abbrev pub HoldsInState : (ℕ → ℕ → List Entry → Memories → Type 0) → Run → Type 0
HoldsInState Fact r = Fact r.recording.processes r.faults r.recording.past (memories_of r)

-- the fact holds after each legal step for these requests, refusals included, from a run that satisfies the invariant
abbrev pub StepsEstablish : (Request → Type 0) → (ℕ → ℕ → List Entry → Memories → Type 0) → Type 0
StepsEstablish IsAsked Fact = (old new : Run) (request : Request) (reply : Reply) → IsAsked request → Steps old request reply new → SatisfiesInvariant old → HoldsInState Fact new

abbrev pub IsDeliveryRequest : Request → Type 0
IsDeliveryRequest request = (q source : Pid) × (ssn : ℕ) × (request ≡ Requests.Deliver q source ssn)

abbrev pub IsCrash : Request → Type 0
IsCrash request = (p : Pid) × (request ≡ Requests.Crash p)

abbrev pub IsRestartRequest : Request → Type 0
IsRestartRequest request = (p : Pid) × (request ≡ Requests.Restart p)

abbrev pub IsFlush : Request → Type 0
IsFlush request = (p : Pid) × (request ≡ Requests.Flush p)

abbrev pub IsForgetting : Request → Type 0
IsForgetting request = (p : Pid) × (request ≡ Requests.Forget p)
