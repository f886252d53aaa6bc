use Rattle.std.proofs.Common.{◌∷◌, sym, ap, subst, ◌∙◌}
use Rattle.std.specs.Prelude.{◌==◌, ◌||◌, ◌&&◌, not}
use Rattle.causal_name.specs.Names.{same_det}
use Rattle.causal_trace.specs.Past.{list_has, logs}
use Rattle.causal_replays.specs.Inside.Holdings.{holds}
use Rattle.causal_replays.specs.Inside.Copies.{is_stored, IsCopyTable}
use Rattle.causal_replays.proofs.copies.apply_entry.Goals as goal

pub returns-in-Stable-clause-copies : goal.returns-in-Stable-clause-copies
returns-in-Stable-clause-copies c past are =
    subst (λ e. IsCopyTable c.args.trace.now.recording.past (e ∷ past) c.store_det.new.copies) (sym c.in-Stable.is) (record {
      held = λ d i p at. ap (λ x. holds x i p) c.store_det.ensures.held ∙ are.held d i p at;
      stored = λ d i at. c.store_det.ensures.stored d i at ∙ ap (λ b. same_det d c.in-Stable.det || b) (are.stored d i at);
    })

pub returns-in-Forget-clause-copies : goal.returns-in-Forget-clause-copies
returns-in-Forget-clause-copies c past are =
    subst (λ e. IsCopyTable c.args.trace.now.recording.past (e ∷ past) c.forget_dets.new.copies) (sym c.in-Forget.is) (record {
      held = λ d i p at. c.forget_dets.ensures.held d i p at ∙ ap (λ b. not (c.in-Forget.who.0 == p && list_has c.as_slice-in-Forget.result.now d) && b) (are.held d i p at) ∙ ap (λ x. not (c.in-Forget.who.0 == p && list_has x d) && logs past p d) c.as_slice-in-Forget.ensures;
      stored = λ d i at. ap (λ x. is_stored x i) c.forget_dets.ensures.stored ∙ are.stored d i at;
    })
