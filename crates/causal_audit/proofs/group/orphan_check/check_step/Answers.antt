use Rattle.causal_audit.proofs.Common.{◌≡◌, ◌≤◌, ◌∙◌, arith, inl, inr, sym, ap, subst, ℕ, false, contains, contains-empty, nat_cmp, ◌+◌, and_parts, and_from, instant, HasOrphan, false≢true, cases_Bool, None}
use Rattle.causal_audit.specs.Inside.Group.Walk.{position_at, opened_at, IsBreachOfPlace}
use Rattle.causal_audit.proofs.group.GroupWalk.{among_opened, asked_less, found_next, judged_more, least_in_all, none_over, suspect}
use Rattle.causal_trace.proofs.Lemmas.AtInstants.{up_to_next}
use Rattle.causal_audit.proofs.group.orphan_check.check_step.Goals as goal

pub loop-least-preserved-then-delivery-step : goal.loop-least-preserved-then-delivery-step
loop-least-preserved-then-delivery-step c =
    let r = c.args.trace.now.recording in
    let candidates = c.args.candidates.now in
    let t = c.args.step.now.t in
    let i = c.loop-least.invariant in
    let p = c.in-Some.place in
    let low = c.requires.unresolved.places p (and_parts (contains c.args.unresolved.now p) (contains c.suspect_places-places.result p) (sym (c.intersection-rest.ensures p) ∙ i.judged.left p c.in-Some.ensures.0)).0 in
    let over = subst (λ x. (opened_at candidates x).until ≤ t + 1) c.from.ensures c.if-delivery-step.true in
    record {
      judged =
          rw c.remove.ensures
          (grind (arith, judged_more r c.args.f candidates t c.intersection-rest.result c.loop-least.rest c.loop-least.least None p c.in-Some.ensures.0 i.judged (among_opened candidates p low) (none_over r c.args.f t candidates p low c.requires.candidates c.requires.none over)));
      unresolved = rw c.remove-then-delivery-step.ensures (asked_less candidates (t + 1) p c.loop-least.unresolved i.unresolved over);
    }

pub loop-least-preserved : goal.loop-least-preserved
loop-least-preserved c =
    let r = c.args.trace.now.recording in
    let candidates = c.args.candidates.now in
    let i = c.loop-least.invariant in
    let p = c.in-Some.place in
    let low = c.requires.unresolved.places p (and_parts (contains c.args.unresolved.now p) (contains c.suspect_places-places.result p) (sym (c.intersection-rest.ensures p) ∙ i.judged.left p c.in-Some.ensures.0)).0 in
    record {
      judged =
          rw (c.remove.ensures, c.earlier_breach-least.ensures)
          (judged_more r c.args.f candidates c.args.step.now.t c.intersection-rest.result c.loop-least.rest c.loop-least.least c.check_place-found.result p c.in-Some.ensures.0 i.judged (among_opened candidates p low)
          (found_next r candidates c.args.buffers.now.reach.start c.args.buffers.now c.args.step.now c.requires.step c.requires.followed p c.args.f low c.check_place-found.result (c.requires.none p low)
          (subst (λ x. IsBreachOfPlace c.args.buffers.now c.args.f (position_at candidates x) p (c.args.step.now.t + 1) c.check_place-found.result) c.from.ensures c.check_place-found.ensures)));
      unresolved = i.unresolved;
    }

whole : (c : goal.In_default) → (j : ℕ) → contains c.loop-least.rest j ≡ false
whole c j = ap (λ s. contains s j) c.in_default.ensures ∙ contains-empty nat_cmp j

pub returns-clause-found : goal.returns-clause-found
returns-clause-found c =
    let r = c.args.trace.now.recording in
    let f = c.args.f in
    let candidates = c.args.candidates.now in
    let buffers = c.args.buffers.now in
    let s = c.args.step.now in
    least_in_all r f candidates s.t c.intersection-rest.result c.loop-least.rest c.loop-least.least c.loop-least.invariant.judged (whole c) (λ j low out. elim (cases_Bool (contains c.args.unresolved.now j)) [
      | inr out ↦ none_over r f s.t candidates j low c.requires.candidates c.requires.none (omega (arith, c.requires.unresolved.over j low out))
      | inl still ↦
          up_to_next (λ u. HasOrphan r.processes f (instant r.past u) (position_at candidates j) → ⊥) s.t (c.requires.none j low) (λ has.
          false≢true (sym out ∙ c.intersection-rest.ensures j ∙ and_from (contains c.args.unresolved.now j) (contains c.suspect_places-places.result j) still (c.suspect_places-places.ensures j
          (rw (c.processes.ensures.value, c.deref-2.ensures.value, c.deref.ensures.value)
          (suspect r f candidates buffers.reach.start buffers s c.requires.step c.requires.followed j low (c.requires.none j low) has)))))
    ])
