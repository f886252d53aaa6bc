use Rattle.causal_audit.proofs.Common.{◌≡◌, sym, ap, subst, ◌∙◌, Recording}
use Rattle.causal_trace.specs.declared.trace.Trace.{Trace}
use Rattle.causal_audit.specs.Searches.{SearchScope}
use Rattle.causal_audit.specs.Inside.Index.Parts.{IsEffectPart, IsTransitionPart}
use Rattle.causal_audit.proofs.indexed_run.IndexedRun.with_prefix.Goals as goal
use Rattle.causal_audit.proofs.indexed_run.IndexedRun.with_prefix.Goals.{After-of-2}

-- the run is that of the trace
same : (c : After-of-2) → c.self.inside.run.value.recording ≡ c.args.trace.now.recording
same c = ap (λ (s : SearchScope). s.run) c.self.view_is ∙ c.requires.run ∙ sym c.requires.same

pub invariant_of-transitions : goal.invariant_of-transitions
invariant_of-transitions c =
    let searched = c.self.invariant.searched in
    subst (λ (r : Recording). IsTransitionPart r c.self.inside.index.transitions) (same (goal.at.invariant_of-transitions c).After-of-2 ∙ sym (ap (λ (t : Trace). t.recording) c.of.ensures))
    (record { formed = searched.formed; short = searched.short; turned = c.self.invariant.indexed.turned })

pub invariant_of-effects : goal.invariant_of-effects
invariant_of-effects c =
    let searched = c.self.invariant.searched in
    subst (λ (r : Recording). IsEffectPart r c.self.inside.departures.items c.self.inside.reached.items) (same (goal.at.invariant_of-effects c).After-of-2 ∙ sym (ap (λ (t : Trace). t.recording) c.of-2.ensures))
    (record { staying = searched.staying; reaching = searched.reaching })
