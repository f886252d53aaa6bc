use Rattle.causal_audit.proofs.Common.{◌≡◌, ◌+◌, sym, ap, subst, arith, IsNonDecreasing, instant}
use Rattle.causal_trace.specs.Numbers.{delivered_dets}
use Rattle.causal_audit.specs.Inside.Index.Lists.{mentions_of}
use Rattle.causal_audit.specs.Inside.Index.Reachability.{HasReached}
use Rattle.causal_audit.specs.Inside.PositionLists.{AreMentionsOf, HasMentions}
use Rattle.causal_audit.proofs.index.Filings.{mentions_ascend}
use Rattle.causal_audit.proofs.safety_scan.open_delivery_search.OpenDeliverySearch.scan_determinant.Goals as goal

pub list_by-mentions-requires : goal.list_by-mentions-requires
list_by-mentions-requires c = rw (← c.self.view_is) at c.requires

pub returns-then-is_empty : goal.returns-then-is_empty
returns-then-is_empty c =
    let r = c.args.self.now.run in
    c.safe_from.ensures.at_risk r.processes c.args.self.now.f r.past c.args.det (c.args.self.now.end + 1) (omega (arith, c.safe_from.ensures.from, ap (λ a. a.end) c.self.view_is))

pub invariant_of-look : goal.invariant_of-look
invariant_of-look c =
    let s = c.self.inside in
    let whole = s.indexed_trace.trace.now.recording.past in
    let past = instant whole s.end in
    let lists = s.mentions.now.lists in
    let det = c.args.det in
    let kept = c.self.invariant in
    let listed : mentions_of (delivered_dets whole) lists det ≡ c.list_by-mentions.result.now = sym (c.list_by-mentions.ensures past kept.mentioned) in
    record {
      within = kept.within;
      reaching = subst (HasReached whole det.dest.0) (sym c.reachable_from.ensures) (kept.reaching.each det.dest.0);
      ascending = subst IsNonDecreasing listed (mentions_ascend past (delivered_dets whole) lists kept.mentioned det);
      mentioned = subst (HasMentions past det) listed (kept.mentioned.mentioned det);
      only = subst (AreMentionsOf past det) listed (kept.mentioned.only det);
    }

pub returns : goal.returns
returns c = rw (← c.self.view_is) c.of.ensures
