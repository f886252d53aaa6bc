use Rattle.causal_audit.proofs.Common.{sym, ap, subst, ◌∙◌, deliveries_in}
use Rattle.causal_audit.specs.Breaches.{EarliestBreachBy, IsHorizon}
use Rattle.causal_audit.specs.Inside.Among.{last_relevant_instant}
use Rattle.causal_audit.specs.Searches.{SearchScope}
use Rattle.causal_audit.proofs.VerdictLemmas.{horizon_of, horizon_within}
use Rattle.causal_audit.proofs.audit.index_early.Goals as goal
use Rattle.causal_audit.proofs.audit.index_early.Goals.{In_ok-early}

-- the earliest breach in the early part
least : (c : In_ok-early) → EarliestBreachBy c.args.trace.now.recording c.args.f c.early_part_len-first.result 0 (deliveries_in c.args.trace.now.recording.past) c.in_ok-early.early
least c = subst (λ (s : SearchScope). EarliestBreachBy s.run s.f s.end 0 (deliveries_in s.run.past) c.in_ok-early.early) c.in_ok-indexed.ensures c.in_ok-early.ensures

pub returns-clause-run : goal.returns-clause-run
returns-clause-run c = ap (λ (s : SearchScope). s.run) c.in_ok-indexed.ensures

pub returns-clause-within : goal.returns-clause-within
returns-clause-within c =
    let within = c.last_deciding_instant-end.ensures.within c.args.f c.requires.excess in
    rw c.last_relevant_instant.ensures
    (horizon_within c.args.trace.now.recording c.args.f _ c.early_part_len-first.result c.in_ok-early.early c.early_part_len-first.ensures within (least (goal.at.returns-clause-within c).In_ok-early))

pub returns-clause-decides : goal.returns-clause-decides
returns-clause-decides c =
    let r = c.args.trace.now.recording in
    let end = c.last_deciding_instant-end.ensures.value in
    subst (IsHorizon r c.args.f c.args.excess.now) (sym (c.last_relevant_instant.ensures ∙ ap (λ n. last_relevant_instant n c.in_ok-early.early) end))
    (horizon_of r c.args.f c.args.excess.now c.early_part_len-first.result c.in_ok-early.early (rw end at c.early_part_len-first.ensures) (least (goal.at.returns-clause-decides c).In_ok-early))
