use Rattle.causal_audit.proofs.Common.{◌≡◌, ◌++◌, sym, ap, subst, ◌∙◌, arith, map-append}
use Rattle.causal_audit.specs.Parts.{FollowedDeliveries}
use Rattle.causal_audit.specs.Searches.{SearchScope, scope_of, search_scope}
use Rattle.causal_audit.specs.Inside.Group.OpenDeliveries.{AreFollowed, positions_of}
use Rattle.causal_audit.proofs.group.OpenPositions.{position}
use Rattle.causal_audit.proofs.safety_scan.SurveyAsks.{both_followed, parts_joined}
use Rattle.causal_audit.proofs.indexed_run.OpenDeliveries.append.Goals as goal

pub invariant_of-result : goal.invariant_of-result
invariant_of-result c =
    let a = c.self.inside in
    let b = c.earlier.inside in
    let scope = search_scope a.run.value.recording a.f a.end in
    let same : search_scope b.run.value.recording b.f b.end ≡ scope = ap scope_of c.earlier.view_is ∙ sym c.requires ∙ sym (ap scope_of c.self.view_is) in
    let items : c.extend_from_slice.new.self.items ≡ a.candidates.items ++ b.candidates.items = grind arith in
    let moved : AreFollowed scope b.candidates.items = subst (λ (s : SearchScope). AreFollowed s b.candidates.items) same c.earlier.invariant in
    subst (AreFollowed scope) (sym items) (both_followed scope a.candidates.items b.candidates.items c.self.invariant moved)

pub returns : goal.returns
returns c scope from mid to second first =
    let a = c.self.inside in
    let b = c.earlier.inside in
    let items : c.extend_from_slice.new.self.items ≡ a.candidates.items ++ b.candidates.items = grind arith in
    let positions : positions_of c.extend_from_slice.new.self.items ≡ c.args.self.positions ++ c.args.earlier.positions =
    grind (arith, map-append position a.candidates.items b.candidates.items, ap (λ (x : FollowedDeliveries). x.positions) c.self.view_is, ap (λ (x : FollowedDeliveries). x.positions) c.earlier.view_is) in
    record {
      of = ap scope_of c.self.view_is ∙ second.of;
      all = rw positions (parts_joined scope from mid to c.args.self.positions c.args.earlier.positions second.all first.all);
    }
