use Rattle.causal_audit.proofs.Common.{◌≤◌, inl, length, sym, subst, arith, All, All-permutation, Contains-permutation, IsPermutation-map, IsPermutation-sym, instant, HasOrphan, instant_length}
use Rattle.std.specs.Prelude.{IsPermutation}
use Rattle.causal_audit.proofs.group.OpenPositions.{position, zero}
use Rattle.causal_audit.specs.Inside.Among.{EarliestAmongBy}
use Rattle.causal_audit.specs.Inside.Group.Walk.{HaveNoOrphans, position_at}
use Rattle.causal_audit.specs.Inside.Group.OpenDeliveries.{IsDeliveryAt, IsOpenDelivery, RunUpTo, positions_of}
use Rattle.causal_audit.specs.declared.group.walk_input.OpenDelivery.{OpenDelivery}
use Rattle.causal_audit.proofs.AmongLemmas.{among_later, among_wider}
use Rattle.causal_audit.proofs.group.GroupWalk.{place_of}
use Rattle.causal_audit.proofs.NoOrphanSoFar.{not_yet}
use Rattle.causal_audit.proofs.group.walk_input.WalkInput.earliest_in_group.Goals as goal

pub walk_group-requires-clause-none : goal.walk_group-requires-clause-none
walk_group-requires-clause-none c =
    let r = c.args.self.now.run in
    let candidates = c.sort_by_position-group.result.now in
    let start = c.start_of-start.result in
    subst (λ (s : RunUpTo). HaveNoOrphans s.run c.args.f candidates start) (sym c.self.view_is) (λ j low u below has.
    let whole : c.args.self.now.end ≤ length r.past = subst (λ (s : RunUpTo). s.end ≤ length s.run.past) c.self.view_is c.self.invariant.within in
    let inside : u ≤ length r.past = omega (arith, below, c.start_of-start.ensures.bound, c.last_of-last.ensures.bound, c.requires.within, whole) in
    not_yet r.processes c.args.f (instant r.past u) (position_at candidates j) (omega (arith, below, (c.start_of-start.ensures.first j zero low).made, instant_length r.past u inside)) has)

pub walk_group-requires-clause-deliveries : goal.walk_group-requires-clause-deliveries
walk_group-requires-clause-deliveries c =
    let group = c.sort_by_position-group.result.now in
    subst (λ (s : RunUpTo). All (λ delivery. IsDeliveryAt s.run.past delivery.position) group) (sym c.self.view_is)
    (All-permutation (λ (delivery : OpenDelivery). IsDeliveryAt c.args.self.now.run.past delivery.position) c.args.candidates.now group c.sort_by_position-group.ensures.same c.requires.deliveries)

pub walk_group-requires-clause-candidates : goal.walk_group-requires-clause-candidates
walk_group-requires-clause-candidates c =
    let r = c.args.self.now.run in
    let group = c.sort_by_position-group.result.now in
    subst (λ (s : RunUpTo). All (IsOpenDelivery s.run c.args.f c.last_of-last.result) group) (sym c.self.view_is)
    (λ k delivery below u from before. All-permutation (IsOpenDelivery r c.args.f c.args.end) c.args.candidates.now group c.sort_by_position-group.ensures.same c.requires.candidates k delivery below u from (omega (arith, before, c.last_of-last.ensures.bound)))

pub returns-clause-found : goal.returns-clause-found
returns-clause-found c =
    let r = c.args.self.now.run in
    let candidates = c.args.candidates.now in
    let group = c.sort_by_position-group.result.now in
    let last = c.last_of-last.result in
    let moved : IsPermutation (positions_of candidates) (positions_of group) = IsPermutation-map position candidates group c.sort_by_position-group.ensures.same in
    among_wider r c.args.f c.args.end (positions_of group) (positions_of candidates) c.in_ok-found.found (λ k. Contains-permutation (positions_of group) (positions_of candidates) k (IsPermutation-sym (positions_of candidates) (positions_of group) moved))
    (λ k listed. inl (Contains-permutation (positions_of candidates) (positions_of group) k moved listed))
    (among_later r c.args.f last c.args.end (positions_of group) c.in_ok-found.found c.last_of-last.ensures.bound
    (λ k u listed late low has.
    let at = place_of group k listed in
    let bound = c.last_of-last.ensures.last at.0 zero at.1 in
    All-permutation (IsOpenDelivery r c.args.f c.args.end) candidates group c.sort_by_position-group.ensures.same c.requires.candidates at.0 zero at.1 u (omega (arith, bound, late, low)) low (subst (HasOrphan r.processes c.args.f (instant r.past u)) (sym at.2) has))
    (subst (λ (s : RunUpTo). EarliestAmongBy s.run c.args.f last (positions_of group) c.in_ok-found.found) c.self.view_is c.in_ok-found.ensures.found))
