use Rattle.causal_audit.proofs.Common.{◌+◌, ◌<◌, length, Contains, Some, None, refl, sym, subst, arith, instant, is_down, det_within, HasOrphan, instant_length}
use Rattle.causal_audit.specs.Inside.DeliveryStates.{HasExactly, IsDeliveryState}
use Rattle.causal_audit.proofs.Between.{none_agrees, state_agrees}
use Rattle.causal_audit.proofs.by_clock.Begun.{unheard_before}
use Rattle.causal_audit.proofs.by_clock.ReachedEntries.{breach_after, seen_after, unchanged}
use Rattle.causal_audit.proofs.index.Cursors.{cursor_later}
use Rattle.causal_audit.proofs.NoOrphanSoFar.{not_yet, first_breach_is}
use Rattle.causal_audit.proofs.Steps.{nobody_down}
use Rattle.causal_trace.proofs.Lemmas.AtInstants.{up_to_next}
use Rattle.causal_audit.proofs.by_clock.orphans.first_orphan.Goals as goal
use Rattle.causal_audit.proofs.by_clock.orphans.first_orphan.Goals.{After-apply_entry}

pub precedes-reached-requires-clause-earlier : goal.precedes-reached-requires-clause-earlier
precedes-reached-requires-clause-earlier c = omega (arith, det_within c.args.trace.now.recording.past c.args.k c.args.det c.requires.delivery, c.requires.stands.count)

pub loop-t-init : goal.loop-t-init
loop-t-init c =
    let past = c.args.trace.now.recording.past in
    record {
      ahead = c.new-ahead.ensures;
      state = c.begin-state.ensures (instant past 0) c.args.k c.args.det (subst (λ s. HasExactly s (λ p. is_down (instant past 0) p)) (sym c.none.ensures) (nobody_down past))
          (unheard_before past c.args.k c.args.det 0 (λ v e above below there. absurd (omega (arith, below))) (omega arith) (omega arith));
      before = λ u h. not_yet c.args.trace.now.recording.processes c.args.f (instant past u) c.args.k (omega (arith, h, instant_length past u (omega (arith, h))));
    }

pub loop-t-preserved-then-not-is_change : goal.loop-t-preserved-then-not-is_change
loop-t-preserved-then-not-is_change c = let r = c.args.trace.now.recording in
    let t = c.loop-t.t in
    let i = c.loop-t.invariant in
    let formed = c.entries-entries.ensures.formed in
    let below : t < length r.past = omega (arith, c.loop-t-test.true, c.requires.within) in
    let agree =
    unchanged r formed c.entries-entries.result.now c.entries-entries.ensures.value c.args.clocks.now.events c.requires.stands c.args.k c.args.det c.requires.delivery c.args.mentions.now c.requires.mentioned c.requires.only t c.index-entries-t.result c.index-entries-t.is below c.next.result c.next.ensures.bounds.0 (c.next.ensures.none c.args.mentions.now i.ahead) (λ here. subst (Contains c.args.mentions.now) here (c.next.ensures.found c.args.mentions.now i.ahead (omega (arith, here, c.loop-t-test.true)))) c.precedes-reached.result (c.precedes-reached.ensures.0, c.precedes-reached.ensures.1)
    c.loop-t.state i.state (c.if-not-is_change.ensures refl) in
    record {
      ahead = cursor_later c.args.mentions.now t (t + 1) c.next.new.self (omega arith) (c.next.ensures.cursor c.args.mentions.now i.ahead);
      state = state_agrees (instant r.past t) (instant r.past (t + 1)) c.args.k c.args.det c.loop-t.state agree i.state;
      before = grind (arith, up_to_next, none_agrees);
    }

-- the state after an entry that may change it
seen : (c : After-apply_entry) → IsDeliveryState (instant c.args.trace.now.recording.past (c.loop-t.t + 1)) c.args.k c.args.det c.apply_entry.new.self
seen c = let t = c.loop-t.t in
    let i = c.loop-t.invariant in
    seen_after c.args.trace.now.recording c.entries-entries.ensures.formed c.entries-entries.result.now c.entries-entries.ensures.value c.args.clocks.now.events c.requires.stands c.args.k c.args.det c.requires.delivery c.args.mentions.now c.requires.mentioned c.requires.only t c.index-entries-t.result c.index-entries-t.is (omega (arith, c.loop-t-test.true, c.requires.within)) c.next.result c.next.ensures.bounds.0 (c.next.ensures.none c.args.mentions.now i.ahead) (λ here. subst (Contains c.args.mentions.now) here (c.next.ensures.found c.args.mentions.now i.ahead (omega (arith, here, c.loop-t-test.true)))) c.precedes-reached.result (c.precedes-reached.ensures.0, c.precedes-reached.ensures.1)
    c.loop-t.state c.apply_entry.new.self i.state c.apply_entry.ensures

pub returns-in-Some : goal.returns-in-Some
returns-in-Some c =
    let r = c.args.trace.now.recording in
    let t = c.loop-t.t in
    let below : t < length r.past = omega (arith, c.loop-t-test.true, c.requires.within) in
    let it = breach_after r c.entries-entries.ensures.formed c.args.f c.args.k c.args.det c.requires.delivery (t + 1) (omega (arith, below)) c.apply_entry.new.self (Some c.in-Some.found) (seen (goal.at.returns-in-Some c).After-apply_entry) c.in-Some.ensures in
    (omega (arith, it.0, c.loop-t-test.true), first_breach_is r c.args.f c.args.k t c.in-Some.found below c.loop-t.invariant.before it.0 it.1 it.2)

pub loop-t-preserved : goal.loop-t-preserved
loop-t-preserved c =
    let r = c.args.trace.now.recording in
    let t = c.loop-t.t in
    let now = seen (goal.at.loop-t-preserved c).After-apply_entry in
    record {
      ahead = cursor_later c.args.mentions.now t (t + 1) c.next.new.self (omega arith) (c.next.ensures.cursor c.args.mentions.now c.loop-t.invariant.ahead);
      state = now;
      before = up_to_next (λ u. HasOrphan r.processes c.args.f (instant r.past u) c.args.k → ⊥) t c.loop-t.invariant.before
          (breach_after r c.entries-entries.ensures.formed c.args.f c.args.k c.args.det c.requires.delivery (t + 1) (omega (arith, c.loop-t-test.true, c.requires.within)) c.apply_entry.new.self None now c.in_default.ensures);
    }

pub returns : goal.returns
returns c t within has = c.loop-t.invariant.before t (omega (arith, within, c.loop-t-test.false)) has

pub next-requires : goal.next-requires
next-requires c = omega (arith, c.loop-t-test.true)
