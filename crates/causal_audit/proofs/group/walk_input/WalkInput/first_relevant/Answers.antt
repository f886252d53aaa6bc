use Rattle.causal_audit.proofs.Common.{◌≡◌, ◌≤◌, ◌∙◌, Some, subst, sym, arith, Contains, false, list_has, instant}
use Rattle.causal_trace.specs.Numbers.{delivered_dets}
use Rattle.causal_trace.specs.Past.{mentioned_dets}
use Rattle.causal_audit.specs.Inside.Group.Walk.{IsUntouchedBefore}
use Rattle.causal_audit.specs.Inside.Group.OpenDeliveries.{RunUpTo}
use Rattle.causal_audit.proofs.index.Filings.{mentions_ascend}
use Rattle.causal_audit.proofs.Steps.{entry_then}
use Rattle.causal_audit.proofs.group.walk_input.WalkInput.first_relevant.Goals as goal

pub first_in-requires : goal.first_in-requires
first_in-requires c =
    grind (
      arith,
      mentions_ascend (instant c.self.inside.indexed_trace.trace.now.recording.past c.self.inside.end) (delivered_dets c.self.inside.indexed_trace.trace.now.recording.past) c.self.inside.mentions.now.lists c.self.invariant.mentioned c.in-Some.det,
    )

pub returns-clause-first : goal.returns-clause-first
returns-clause-first c =
    let walk_input = c.self.inside in
    let past = walk_input.indexed_trace.trace.now.recording.past in
    let inside : c.first_in.result ≤ walk_input.end = subst (λ (s : RunUpTo). c.first_in.result ≤ s.end) (sym c.self.view_is) (omega (arith, c.first_in.ensures.bound, c.min-first.ensures, c.requires)) in
    subst (λ (s : RunUpTo). IsUntouchedBefore s.run.past c.first_in.result c.args.delivery) c.self.view_is (record {
      made = omega (arith, c.first_in.ensures.bound, c.min-first.ensures);
      unmentioned = λ d at v e from below there.
          let one : Some c.in-Some.det ≡ Some d = c.in-Some.ensures ∙ at in
          let same : c.in-Some.det ≡ d = cc one in
          subst (λ x. list_has (mentioned_dets e) x ≡ false) same
          (c.self.invariant.mentioned.mentioned c.in-Some.det v e (entry_then past walk_input.end v (omega (arith, below, inside)) c.self.invariant.within ∙ there) (λ listed. c.first_in.ensures.none v (omega arith) below (subst (λ list. Contains list v) (sym c.list.ensures) listed)));
    })
