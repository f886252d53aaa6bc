-- Each step of a process preserves the invariant of the world.
use Rattle.std.proofs.Common.{Some, refl}
use Rattle.causal_rounds.proofs.Lemmas.RoundSteps.{set_at_here}
use Rattle.causal_world.specs.Steps.{send, crash, begin, give_up, answer, refuse, not_up, deliver, restart, acknowledge, learn, land, read, write_entry, confirm, forget}
use Rattle.causal_world.specs.Invariant.{WorldStepsPreserve}
use Rattle.causal_world.proofs.Sends.{acknowledge_preserves, send_preserves}
use Rattle.causal_world.proofs.RoundChanges.{begin_preserves, give_up_preserves, not_up_preserves, answered_preserves, refuse_preserves, read_preserves}
use Rattle.causal_world.proofs.Crashes.{crash_preserves, learn_preserves, confirm_preserves}
use Rattle.causal_world.proofs.Delivers.{deliver_preserves}
use Rattle.causal_world.proofs.Restarts.{restart_preserves}
use Rattle.causal_world.proofs.Storage.{land_preserves, write_preserves, forget_preserves}

pub world_steps_preserve : WorldStepsPreserve
world_steps_preserve n f w x (send from to ssn i new s position left_out) k = send_preserves n f w from.0 i new s k from to ssn refl position left_out
world_steps_preserve n f w x (crash who low up few) k = crash_preserves n f w k who low up few
world_steps_preserve n f w x (begin s view absent low down own told present gone) k = begin_preserves n f w k s view absent low down own told present gone
world_steps_preserve n f w x (give_up s) k = give_up_preserves n f w k s
world_steps_preserve n f w x (answer y s i r floors new low up at fits rise above below s_new to none whole) k =
    answered_preserves n f _ (acknowledge_preserves n f w y i new s_new k none) y s i r floors new low up at fits rise above below (set_at_here w.packets i (Some new)) to s_new.of_log.from s_new.lane whole
world_steps_preserve n f w x (refuse y floors up rise below) k = refuse_preserves n f w k y floors up rise below
world_steps_preserve n f w x (not_up q s r low down other at fits) k = not_up_preserves n f w k q s r low down other at fits
world_steps_preserve n f w x (deliver to place rsn listed i p message known low up at mine floor position sent count only lists new itself keeps) k =
    deliver_preserves n f w k to place rsn listed i p message known low up at mine floor position sent count only lists new itself keeps
world_steps_preserve n f w x (restart who listed r known marked low at all lists owns from new itself keeps marks) k = restart_preserves n f w k who listed r known marked low at all lists owns from new itself keeps marks
world_steps_preserve n f w x (acknowledge p i new s none) k = acknowledge_preserves n f w p i new s k none
world_steps_preserve n f w x (learn p i t known up at to floor new keeps) k = learn_preserves n f w k p i t known up at to floor new keeps
world_steps_preserve n f w x (land i p at to floor) k = land_preserves n f w k i p at to floor
world_steps_preserve n f w x (read s r floors at all rise above below) k = read_preserves n f w k s r floors at all rise above below
world_steps_preserve n f w x (write_entry det marked stored new) k = write_preserves n f w k det marked stored new
world_steps_preserve n f w x (confirm marked new) k = confirm_preserves n f w k marked new
world_steps_preserve n f w x (forget who listed low up known spares) k = forget_preserves n f w k who listed low known spares
