use Rattle.std.proofs.Common.{◌∙◌, ap, sym, refl, append-nil}
use Rattle.std.proofs.lemmas.List.{drop_all}
use Rattle.causal_picture.specs.Drawings.{shown_mark_at}
use Rattle.causal_picture.proofs.Drawn.{next_found, next_missed}
use Rattle.causal_picture.proofs.drawing.chain_marks.Goals as goal
use Rattle.causal_picture.proofs.drawing.chain_marks.Goals.{in-Some+in_ok-push, in_default}

pub loop-position-preserved : goal.loop-position-preserved
loop-position-preserved c =
    let of = shown_mark_at c.args.trace.now.recording.past c.args.grid.now in
    let i = c.loop-position.position-index in
    elim c.match-shown_mark_at.branch [
      | in-Some+in_ok-push w ↦
          next_found of c.args.chain.now i _ _ _ _ c.loop-position-test.true c.loop-position.invariant
          _ (sym c.shown_mark_at.ensures ∙ w.in-Some.is) (ap (λ m. m.items) w.marks-is ∙ w.in_ok-push.ensures.items)
      | in_default w ↦
          next_missed of c.args.chain.now i _ _ _ _ c.loop-position-test.true c.loop-position.invariant
          (sym c.shown_mark_at.ensures ∙ w.in_default.is) (ap (λ m. m.items) w.marks-is)
    ]

pub loop-position-init : goal.loop-position-init
loop-position-init c = rw c.new-marks.ensures.items refl

pub returns : goal.returns
returns c = rw (drop_all c.loop-position.position-index c.args.chain.now c.loop-position-test.false, append-nil) at c.loop-position.invariant
