-- A legal step has at most one proof.
use Rattle.std.specs.Prelude.{ℕ, List}
use Rattle.std.proofs.Props.{props}
use Rattle.causal_trace.specs.declared.entry.Entry.{Entry}
use Rattle.causal_protocol.specs.declared.request.Request.{Request}
use Rattle.causal_protocol.specs.declared.request.Request.TheVariants as Requests
use Rattle.causal_protocol.specs.declared.request.Reply.{Reply}
use Rattle.causal_protocol.specs.declared.request.Reply.TheVariants as Replies
use Rattle.causal_protocol.specs.declared.request.CoreFault.{CoreFault}
use Rattle.causal_protocol.specs.declared.request.CoreFault.TheVariants as Faults
use Rattle.causal_protocol.specs.Run.{Run}
use Rattle.causal_protocol.specs.Steps.{LegalStep, IsPartialFlush}

-- that a flush is partial has at most one proof
pub IsPart-prop : (fault : CoreFault) (done all : ℕ) → IsProp (IsPartialFlush fault done all)
IsPart-prop Faults.NoMemory done all = Prim.hlevel props
IsPart-prop fault done all = Prim.hlevel props

-- that a step is legal has at most one proof
pub LegalStep-prop : (r : Run) (request : Request) (reply : Reply) (appended : List Entry) → IsProp (LegalStep r request reply appended)
unfolding LegalStep
LegalStep-prop r (Requests.Deliver q source ssn) (Replies.Delivered d) appended = Prim.hlevel props
LegalStep-prop r (Requests.Crash p) (Replies.Crashed first) appended = Prim.hlevel props
LegalStep-prop r (Requests.Restart p) (Replies.Restarted d) appended = Prim.hlevel props
LegalStep-prop r (Requests.Flush p) (Replies.FlushRefused f) appended = Prim.hlevel (props, IsPart-prop)
LegalStep-prop r (Requests.Forget p) (Replies.Forgotten count) appended = Prim.hlevel props
LegalStep-prop r request reply appended = Prim.hlevel props
