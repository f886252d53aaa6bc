use Rattle.causal_audit.proofs.Common.{◌≡◌, ◌++◌, [], List, sym, ap, subst, ◌∙◌, append_assoc, append-nil, arith, map-append, nil_from_length, All}
use Rattle.std.specs.Slice.Iter.{chunks_rest, chunks_size}
use Rattle.causal_audit.proofs.AmongLemmas.{among_joined, among_none, horizon_within}
use Rattle.causal_audit.specs.Inside.Among.{EarliestAmongBy}
use Rattle.causal_audit.specs.BreachOrder.{earlier_breach}
use Rattle.causal_audit.specs.Inside.Group.OpenDeliveries.{IsDeliveryAt, IsOpenDelivery, positions_of}
use Rattle.causal_audit.specs.declared.group.walk_input.OpenDelivery.{OpenDelivery}
use Rattle.causal_audit.proofs.group.OpenPositions.{all_left, all_right, position}
use Rattle.causal_audit.proofs.group.walk_input.WalkInput.earliest_over_groups.Goals as goal

pub loop-group-init : goal.loop-group-init
loop-group-init c =
    let r = c.args.self.now.run in
    let same = c.into_iter-group-iterator.ensures.into_iter_gives in
    let size : chunks_size c.into_iter-group-iterator.result ≡ 256 = ap chunks_size same ∙ c.chunks-group-items.ensures.size in
    let rest : chunks_rest c.into_iter-group-iterator.result ≡ c.args.candidates.now = ap chunks_rest same ∙ c.chunks-group-items.ensures.rest in
    record {
      next = omega (arith, size);
      finite = tt;
      size = size;
      deliveries = subst (All (λ (delivery : OpenDelivery). IsDeliveryAt r.past delivery.position)) (sym rest) c.requires.deliveries;
      none_later = subst (All (IsOpenDelivery r c.args.f c.args.end)) (sym rest) c.requires.candidates;
      buffers = c.requires.buffers;
      least = ([], rest, among_none r c.args.f c.args.end);
    }

pub earliest_in_group-requires-clause-candidates : goal.earliest_in_group-requires-clause-candidates
earliest_in_group-requires-clause-candidates c k delivery below u from before =
    let bound = horizon_within c.args.self.now.run c.args.f c.args.end (positions_of c.loop-group.invariant.least.0) c.loop-group.least c.loop-group.invariant.least.2 in
    all_left (IsOpenDelivery c.args.self.now.run c.args.f c.args.end) c.in-Some.group.now (chunks_rest c.next.new.self) (rw c.in-Some.ensures.steps.1.0 at c.loop-group.invariant.none_later) k delivery below u from (omega (arith, before, c.last_relevant_instant.ensures, bound))

pub earliest_in_group-requires-clause-deliveries : goal.earliest_in_group-requires-clause-deliveries
earliest_in_group-requires-clause-deliveries c =
    all_left (λ (x : OpenDelivery). IsDeliveryAt c.args.self.now.run.past x.position) c.in-Some.group.now (chunks_rest c.next.new.self) (rw c.in-Some.ensures.steps.1.0 at c.loop-group.invariant.deliveries)

pub loop-group-preserved : goal.loop-group-preserved
loop-group-preserved c =
    let r = c.args.self.now.run in
    let f = c.args.f in
    let end = c.args.end in
    let invariant = c.loop-group.invariant in
    let group = c.in-Some.group.now in
    let later = chunks_rest c.next.new.self in
    let parts : chunks_rest c.loop-group.group-iterator ≡ group ++ later = c.in-Some.ensures.steps.1.0 in
    let size : chunks_size c.next.new.self ≡ 256 = c.in-Some.ensures.steps.0 ∙ invariant.size in
    let done = invariant.least.0 in
    record {
      next = omega (arith, size);
      finite = tt;
      size = size;
      deliveries = all_right (λ (delivery : OpenDelivery). IsDeliveryAt r.past delivery.position) group later (subst (All (λ (delivery : OpenDelivery). IsDeliveryAt r.past delivery.position)) parts invariant.deliveries);
      none_later = all_right (IsOpenDelivery r f end) group later (subst (All (IsOpenDelivery r f end)) parts invariant.none_later);
      buffers = c.in_ok-found.ensures.buffers;
      least = (
        done ++ group,
        append_assoc done group later ∙ ap (λ (list : List OpenDelivery). done ++ list) (sym parts) ∙ invariant.least.1,
        subst (EarliestAmongBy r f end (positions_of (done ++ group))) (sym c.earlier_breach-least.ensures)
            (subst (λ list. EarliestAmongBy r f end list (earlier_breach c.loop-group.least c.in_ok-found.found)) (sym (map-append position done group))
            (among_joined r f end c.last_relevant_instant.result (positions_of done) (positions_of group) c.loop-group.least c.in_ok-found.found c.last_relevant_instant.ensures invariant.least.2 c.in_ok-found.ensures.found)),
      );
    }

pub returns : goal.returns
returns c =
    let r = c.args.self.now.run in
    let invariant = c.loop-group.invariant in
    let done = invariant.least.0 in
    let none : chunks_rest c.loop-group.group-iterator ≡ [] = nil_from_length _ c.in-None.ensures.steps.1.0 in
    let whole : done ≡ c.args.candidates.now = sym (append-nil done) ∙ ap (λ (list : List OpenDelivery). done ++ list) (sym none) ∙ invariant.least.1 in
    subst (λ (list : List OpenDelivery). EarliestAmongBy r c.args.f c.args.end (positions_of list) c.loop-group.least) whole invariant.least.2
