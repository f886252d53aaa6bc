use Rattle.std.proofs.Common.{arith}
use Rattle.std.proofs.lemmas.Result.{on_err_weaker, IfOk-weaker}
use Rattle.causal_core.proofs.BoxLemmas.{SameAnswers-set, answers_at-set_other, steps-set, map-set_kept, HasBox_within}
use Rattle.causal_core.proofs.boxes.step_box.Goals as goal

pub returns : goal.returns
returns g c = record {
  ok = IfOk-weaker c.step_slot.result _ _ (λ sends. steps-set _ c.args.slots.now.items c.args.q _ _ _ _ (HasBox_within c.args.slots.now.items c.args.q c.requires) c.index_mut.ensures.value) c.step_slot.ensures.ok;
  few = c.step_slot.ensures.few;
  others = grind (arith, answers_at-set_other);
  err = grind (arith, on_err_weaker, SameAnswers-set);
  filled = grind (arith, map-set_kept);
}
