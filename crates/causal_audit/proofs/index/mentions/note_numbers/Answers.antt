use Rattle.std.proofs.lemmas.Grind.{common_steps}
use Rattle.causal_audit.proofs.Common.{◌≡◌, append-nil, arith, take, take_all}
use Rattle.causal_audit.proofs.index.Numbered.{one_more_number}
use Rattle.causal_audit.proofs.index.mentions.note_numbers.Goals as goal

pub loop-det-init : goal.loop-det-init
loop-det-init c before are = rw append-nil are

pub loop-det-preserved : goal.loop-det-preserved
loop-det-preserved c before are = grind (arith, common_steps, one_more_number)

pub returns : goal.returns
returns c before are =
    let all : take c.loop-det.det-index c.args.dets.now ≡ c.args.dets.now = take_all c.loop-det.det-index c.args.dets.now c.loop-det-test.false in
    rw all at (c.loop-det.invariant before are)
