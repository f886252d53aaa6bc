use Rattle.causal_audit.proofs.Common.{◌≡◌, ap, sym, subst, ◌∙◌, arith, length, length-reverse, reverse, reverse-reverse, past_whole, Recording}
use Rattle.causal_trace.specs.declared.trace.Trace.{Trace}
use Rattle.causal_audit.specs.Inside.Index.Lists.{past_of}
use Rattle.causal_audit.specs.Inside.Index.Parts.{IsTransitionPart}
use Rattle.causal_audit.specs.Inside.Index.RunIndexes.{IsTransitionIndex}
use Rattle.causal_audit.proofs.index_parts.TransitionIndex.of.Goals as goal

pub invariant_of-result : goal.invariant_of-result
invariant_of-result c =
    let r = c.args.trace.now.recording in
    let entries = c.entries-entries.result.now in
    let transitions = c.in_ok-transitions.transitions in
    let whole : past_of entries ≡ r.past = past_whole entries ∙ ap reverse c.entries-entries.ensures.value ∙ reverse-reverse r.past in
    subst (λ (x : Recording). IsTransitionPart x transitions) (sym (ap (λ (t : Trace). t.recording) c.of-2.ensures)) (record {
      formed = c.entries-entries.ensures.formed;
      short = omega (arith, c.entries-entries.ensures.few, ap length c.entries-entries.ensures.value, length-reverse r.past);
      turned = subst (λ past. IsTransitionIndex past transitions) whole c.in_ok-transitions.ensures;
    })
