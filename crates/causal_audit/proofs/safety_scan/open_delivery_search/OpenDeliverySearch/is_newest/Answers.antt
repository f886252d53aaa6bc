use Rattle.std.proofs.lemmas.Grind.{common_steps}
use Rattle.causal_audit.proofs.Common.{◌<◌, ◌≤◌, get_or, length, ap, subst, arith, refl, Contains, Contains-get_or}
use Rattle.causal_trace.specs.Numbers.{delivered_dets}
use Rattle.causal_audit.specs.Searches.{SearchScope, delivery_count}
use Rattle.causal_audit.specs.Inside.Index.Lists.{AreOwned, list_at}
use Rattle.causal_audit.proofs.safety_scan.SurveyAsks.{newest_among_fewer}
use Rattle.causal_audit.proofs.safety_scan.open_delivery_search.OpenDeliverySearch.is_newest.Goals as goal

pub returns-then-before_end-len : goal.returns-then-before_end-len
returns-then-before_end-len c =
    let s = c.self.inside in
    let scope = c.args.self.now in
    let own = c.get-own.result.now in
    let lists = s.mentions.now.lists in
    let some : 0 < length own = grind (arith, common_steps, c.if-not-is_empty.true, c.is_empty.ensures) in
    let listed : Contains (list_at lists c.args.number) (get_or own 0 0) = subst (λ list. Contains list (get_or own 0 0)) c.get-own.ensures (Contains-get_or own 0 0 some) in
    let wide : delivery_count scope ≤ length lists = omega (arith, c.if-before_end-len.true, c.len.ensures, ap delivery_count c.self.view_is, c.self.invariant.numbered.count) in
    let owned : AreOwned (delivered_dets scope.run.past) lists = subst (λ (a : SearchScope). AreOwned (delivered_dets a.run.past) lists) c.self.view_is c.self.invariant.mentioned.owned in
    (λ yes. newest_among_fewer (delivery_count scope) (length lists) (delivered_dets scope.run.past) c.args.det c.args.number c.requires.few wide (owned c.args.number (get_or own 0 0) c.args.det listed c.requires.own), λ newest. refl)
