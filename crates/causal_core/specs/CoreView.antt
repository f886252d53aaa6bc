-- The views of a core that contracts use, and the effects of a delivery and a crash.
use Rattle.std.specs.Prelude.{◌≡◌, ℕ, List, [], Option, slice_set}
use Rattle.causal_name.specs.declared.Pid.{Pid}
use Rattle.causal_process.specs.declared.message.Input.{Input}
use Rattle.causal_process.specs.declared.message.Input.TheVariants.{Message as Given}
use Rattle.causal_process.specs.declared.message.Outgoing.{Outgoing}
use Rattle.causal_core.specs.declared.runtime.Core.{Core}
use Rattle.causal_protocol.specs.declared.request.CoreFault.{CoreFault}
use Rattle.causal_protocol.specs.Run.{Run}
use Rattle.causal_protocol.specs.Naming.{message_name}
use Rattle.causal_core.specs.Boxes.{SameAnswers, SameElsewhere, StepsAt, HoldsNone}
use Rattle.causal_core.specs.View.{body_at, sent_in, with_delivery, with_bodies}

-- the run, the bodies of the kept messages, and the boxes in their slots
pub record CoreState (B : Type 0) : Type 0 where
  pub run : Run
  pub bodies : List (List (List ℕ))
  pub slots : List (Option B)

-- the run of a core
abbrev pub core_run : {S B : Type 0} {Has : _} → Core S B Has → Run
core_run core = core.run_data.run

-- the stable storage of a core
abbrev pub core_store : {S B : Type 0} {Has : _} → Core S B Has → S
core_store core = core.store

-- the refusal at which the last replay ended, if it ended at one
abbrev pub core_replay_refusal : {S B : Type 0} {Has : _} → Core S B Has → Option CoreFault
core_replay_refusal core = core.replay_refusal

-- the state of a core: its run, bodies and boxes
abbrev pub core_state : {S B : Type 0} {Has : _} → Core S B Has → CoreState B
core_state core = record { run = core.run_data.run; bodies = core.run_data.bodies; slots = core.slots.items }

module _ {B : Type 0} (answers : B → List Input → List (List Outgoing)) where
  -- nothing changed: the run, the kept messages, and what each box answers
  pub record IsUnchanged (old new : CoreState B) : Type 0 where
    pub run : new.run ≡ old.run
    pub bodies : new.bodies ≡ old.bodies
    pub boxes : SameAnswers answers old.slots new.slots

  -- the box of q was given the message, and its sends are its first answer; those to processes are recorded, and their
  -- bodies kept; q's later answers are those that would have followed the message, and the other boxes answer as before
  pub record Delivers (q source : Pid) (ssn : ℕ) (old new : CoreState B) : Type 0 where
    pub sends : List Outgoing
    pub box : StepsAt answers q.0 (Given source (body_at old.bodies (message_name source ssn))) sends old.slots new.slots
    pub others : SameElsewhere answers q.0 old.slots new.slots
    pub run : new.run ≡ with_delivery old.run q (message_name source ssn) sends
    pub bodies : new.bodies ≡ with_bodies old.bodies q.0 (sent_in old.run sends)

  -- the box of p and the bodies of p's messages are gone, and the other boxes answer as before
  pub record Crashes (p : Pid) (old new : CoreState B) : Type 0 where
    pub box : HoldsNone answers p.0 new.slots
    pub others : SameElsewhere answers p.0 old.slots new.slots
    pub bodies : new.bodies ≡ slice_set old.bodies p.0 []
