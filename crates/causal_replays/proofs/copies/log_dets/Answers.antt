use Rattle.std.proofs.Common.{◌∙◌, arith}
use Rattle.std.proofs.lemmas.Grind.{common_steps}
use Rattle.std.proofs.lemmas.List.{take_all}
use Rattle.causal_trace.proofs.Lemmas.DeliveredDets.{has_more}
use Rattle.causal_replays.proofs.copies.log_dets.Goals as goal

pub loop-det-preserved : goal.loop-det-preserved
loop-det-preserved c = record {
  held = λ d i p at. grind (arith, common_steps, has_more, c.in_ok-log_det.ensures.held d i p at, c.loop-det.invariant.held d i p at);
  stored = c.log_det.ensures.stored ∙ c.loop-det.invariant.stored;
  sized = c.in_ok-log_det.ensures.sized;
}

pub returns-clause-held : goal.returns-clause-held
returns-clause-held c d i p at = grind (arith, take_all c.loop-det.det-index c.args.listed.now (omega (arith, c.loop-det-test.false)), c.loop-det.invariant.held d i p at)
