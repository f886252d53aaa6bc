-- The effect of a restart on a core.
use Rattle.std.specs.Prelude.{◌≡◌, List, ◌∷◌, Some, slice_set}
use Rattle.causal_name.specs.declared.Pid.{Pid}
use Rattle.causal_process.specs.declared.message.Input.{Input}
use Rattle.causal_process.specs.declared.message.Input.TheVariants.{Begin}
use Rattle.causal_process.specs.declared.message.Outgoing.{Outgoing}
use Rattle.causal_protocol.specs.declared.request.CoreFault.{CoreFault}
use Rattle.causal_core.specs.declared.restart.Refused.{Refused}
use Rattle.causal_core.specs.Boxes.{answers_at, prepend_answer, SameElsewhere}
use Rattle.causal_core.specs.View.{sent_in, with_restart}
use Rattle.causal_core.specs.CoreView.{CoreState}

-- the fault of a refused restart
abbrev pub refused_fault : {B : Type 0} → Refused B → CoreFault
refused_fault refused = refused.fault

module _ {B : Type 0} (answers : B → List Input → List (List Outgoing)) where
  -- the spare is in p's slot after its `Begin`; its sends are its first answer; those to processes are recorded after
  -- the restart, and their bodies replace those that p kept; the other boxes answer as before
  pub record Restarts (p : Pid) (spare : B) (old new : CoreState B) : Type 0 where
    pub sends : List Outgoing
    pub box : (inputs : List Input) → Some (answers spare (Begin ∷ inputs)) ≡ prepend_answer sends (answers_at answers new.slots p.0 inputs)
    pub others : SameElsewhere answers p.0 old.slots new.slots
    pub run : new.run ≡ with_restart old.run p sends
    pub bodies : new.bodies ≡ slice_set old.bodies p.0 (sent_in old.run sends)
