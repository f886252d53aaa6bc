-- The facts on a history are propositions: each has at most one proof.
use Rattle.std.specs.Prelude.{List, [], ◌∷◌}
use Rattle.std.specs.Coded.{Unit-prop}
use Rattle.std.proofs.Props.{props}
use Rattle.causal_protocol.specs.declared.request.Request.{Request}
use Rattle.causal_protocol.specs.declared.request.Reply.{Reply}
use Rattle.causal_protocol.specs.Run.{Run}
use Rattle.causal_protocol.proofs.Lemmas.StepProps.{LegalStep-prop}
use Rattle.causal_shared.specs.declared.item.Item.{Item}
use Rattle.causal_shared.specs.declared.item.SeatRecord.{SeatRecord}
use Rattle.causal_shared.specs.History.{IsCallStep, AllLegal, IsHistory}
use Rattle.causal_shared.specs.LockInvariant.{AllRecordsFit, LockInvariant}

pub IsStep-prop : (old : Run) (request : Request) (reply : Reply) (new : Run) → IsProp (IsCallStep old request reply new)
IsStep-prop old request reply new = Prim.hlevel (props, LegalStep-prop)

pub AllLegal-prop : (r : Run) (items : List Item) → IsProp (AllLegal r items)
AllLegal-prop r [] = Unit-prop
AllLegal-prop r (item ∷ items) = Prim.hlevel (props, IsStep-prop, AllLegal-prop r items)

pub IsHistory-prop : (r : Run) (items : List Item) → IsProp (IsHistory r items)
IsHistory-prop r items = Prim.hlevel (props, AllLegal-prop)

pub AllKept-prop : (r : Run) (items : List Item) (seats : List SeatRecord) → IsProp (AllRecordsFit r items seats)
AllKept-prop r items seats = Prim.hlevel props

pub Keeps-prop : (r : Run) (items : List Item) (seats : List SeatRecord) → IsProp (LockInvariant r items seats)
Keeps-prop r items seats = Prim.hlevel (props, IsHistory-prop, AllKept-prop)
