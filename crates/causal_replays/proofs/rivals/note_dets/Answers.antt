use Rattle.std.proofs.Common.{get_or, arith}
use Rattle.std.proofs.lemmas.List.{take_all}
use Rattle.std.proofs.lemmas.List.Folds.{list_any_at, list_any_more}
use Rattle.causal_name.specs.declared.Det.{Det}
use Rattle.causal_name.specs.Names.{same_det}
use Rattle.causal_name.proofs.Lemmas.DetOrder.{same_itself}
use Rattle.causal_replays.proofs.RivalLemmas.{noted_fewer}
use Rattle.causal_replays.proofs.rivals.note_dets.Goals as goal

zero_det : Det
zero_det = record { source = record { 0 = 0 }; ssn = 0; dest = record { 0 = 0 }; rsn = 0 }

pub note_det-requires-clause-copied : goal.note_det-requires-clause-copied
unfolding zero_det
note_det-requires-clause-copied c =
    let det = get_or c.args.dets.now c.loop-det.det-index zero_det in
    c.requires.copied det (list_any_at (same_det det) c.args.dets.now c.loop-det.det-index zero_det c.loop-det-test.true (same_itself det))

pub loop-det-preserved : goal.loop-det-preserved
unfolding zero_det
loop-det-preserved c = record {
  count = c.note_det.ensures.count;
  of_slots = c.in_ok-least.ensures.of_slots;
  noted = λ test before.
      noted_fewer _ _ _ _ _ _ (λ d t. grind (arith, list_any_more (same_det d) c.args.dets.now c.loop-det.det-index zero_det c.loop-det-test.true, t))
      (c.in_ok-least.ensures.noted _ (c.loop-det.invariant.noted test before));
}

pub returns-clause-noted : goal.returns-clause-noted
returns-clause-noted c test before = simp (take_all c.loop-det.det-index c.args.dets.now (omega (arith, c.loop-det-test.false))) at (c.loop-det.invariant.noted test before)
