use Rattle.std.proofs.Common.{◌∙◌, ap, subst}
use Rattle.causal_trace.specs.Past.{instant}
use Rattle.causal_trace.proofs.Lemmas.AtInstants.{state_at}
use Rattle.causal_explain.specs.Inside.Marks.{AreMarks, first_in}
use Rattle.causal_explain.specs.declared.marks.EventKind.TheVariants.{DeliveryWithoutDet}
use Rattle.causal_explain.proofs.MarkLemmas.{first_marked}
use Rattle.causal_explain.proofs.missing_det.first_lacking.Goals as goal

pub returns : goal.returns
returns c =
    let r = c.args.trace.now.recording in
    let past = instant r.past c.args.end in
    let marks = c.in_ok-marks.marks.items in
    let marked : AreMarks DeliveryWithoutDet past c.args.det marks =
    subst (λ x. AreMarks DeliveryWithoutDet x c.args.det marks) (state_at r c.entries.result.now c.entries.ensures.value c.args.end c.requires) c.in_ok-marks.ensures in
    c.first_in.ensures ∙ ap (λ x. first_in x c.args.chain.now) c.as_slice.ensures.value ∙ first_marked past c.args.det marks c.args.chain.now marked
