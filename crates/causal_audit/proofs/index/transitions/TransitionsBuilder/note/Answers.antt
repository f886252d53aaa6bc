use Rattle.causal_audit.proofs.Common.{◌∷◌, is_down}
use Rattle.causal_audit.specs.Inside.DeliveryStates.{HasExactly}
use Rattle.std.proofs.lemmas.Result.{on_ok_weaker}
use Rattle.causal_audit.proofs.index.transitions.TransitionsBuilder.note.Goals as goal

pub returns : goal.returns
returns c =
    on_ok_weaker c.note_fall.result (λ fallen past long filed.
    let shown : HasExactly c.down_after-self.result (λ p. is_down (c.args.entry.now ∷ past) p) = c.down_after-self.ensures past filed.down in
    record {
      down = shown;
      turned = c.in_ok-note_transition.ensures past long shown filed.turned;
      crashed = c.in_ok-note.ensures.transitions past long filed.crashed;
      crashes = c.note.ensures.count;
      restarted = c.in_ok-note-2.ensures.transitions past long filed.restarted;
      restarts = c.note-2.ensures.count;
      fallen = fallen past long shown filed.fallen;
      falls = c.note_fall.ensures.count;
      lasting = c.last_release_end-self.ensures past long filed.lasting;
    })
    c.note_fall.ensures.falls
