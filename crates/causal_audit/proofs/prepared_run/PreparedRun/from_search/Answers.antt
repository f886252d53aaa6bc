use Rattle.causal_audit.proofs.Common.{sym, subst, IsWellFormed}
use Rattle.causal_audit.specs.Parts.{AreSufficient}
use Rattle.causal_audit.specs.Searches.{SearchScope}
use Rattle.causal_audit.specs.Inside.Group.OpenDeliveries.{AreFollowed}
use Rattle.causal_audit.proofs.safety_scan.SurveyAsks.{in_any_order}
use Rattle.causal_audit.proofs.prepared_run.WholeSearch.{all_found, followed_in, sufficient}
use Rattle.causal_audit.proofs.prepared_run.PreparedRun.from_search.Goals as goal

pub invariant_of-result : goal.invariant_of-result
invariant_of-result c =
    let sorted = c.sort_for_groups.new.candidates.items in
    let formed = subst (λ (a : SearchScope). IsWellFormed a.run) c.indexed.view_is c.indexed.invariant.searched.formed in
    let all = in_any_order c.args.indexed _ sorted c.sort_for_groups.ensures (all_found c.args.indexed _ _ c.args.found c.found.view_is c.requires c.found.invariant formed) in
    record { indexed = c.indexed.invariant.indexed; followed = subst (λ a. AreFollowed a sorted) (sym c.indexed.view_is) all.followed }

pub returns-clause-sufficient : goal.returns-clause-sufficient
returns-clause-sufficient c =
    let sorted = c.sort_for_groups.new.candidates.items in
    let formed = subst (λ (a : SearchScope). IsWellFormed a.run) c.indexed.view_is c.indexed.invariant.searched.formed in
    let all = in_any_order c.args.indexed _ sorted c.sort_for_groups.ensures (all_found c.args.indexed _ _ c.args.found c.found.view_is c.requires c.found.invariant formed) in
    subst (λ a. AreSufficient c.args.indexed.run c.args.indexed.f c.args.indexed.end (followed_in a sorted)) (sym c.indexed.view_is) (sufficient c.args.indexed sorted formed all)
