use Rattle.causal_audit.proofs.Common.{◌≡◌, ◌∙◌, ◌+◌, ◌<◌, inl, inr, length, Some, refl, subst, sym, arith, Contains, contains, list_has, instant}
use Rattle.causal_trace.specs.Numbers.{delivered_dets}
use Rattle.causal_trace.specs.Past.{mentioned_dets}
use Rattle.causal_audit.specs.Inside.Group.Walk.{IsMarked, row}
use Rattle.causal_audit.specs.Inside.Index.Lists.{mentions_of}
use Rattle.causal_audit.specs.Inside.Group.OpenDeliveries.{RunUpTo}
use Rattle.causal_audit.proofs.safety_scan.CoverStays.{mentioned_listed}
use Rattle.causal_audit.proofs.Steps.{entry_then}
use Rattle.causal_audit.proofs.group.walk_input.WalkInput.mark_delivery.Goals as goal

pub returns-clause-marked : goal.returns-clause-marked
returns-clause-marked c =
    let walk_input = c.self.inside in
    let past = walk_input.indexed_trace.trace.now.recording.past in
    let rows = c.mark_rows.new.rows in
    let det = c.in-Some.det in
    let list = mentions_of (delivered_dets past) walk_input.mentions.now.lists det in
    subst (λ (s : RunUpTo). IsMarked s.run.past c.args.start c.args.start c.args.place c.args.delivery rows) c.self.view_is (λ i d e late inside at there none.
    let one : Some det ≡ Some d = c.in-Some.ensures ∙ at in
    let same : det ≡ d = cc one in
    let start = c.args.start in
    let low : i < length c.args.rows.now = omega (arith, inside, c.in_ok-mark_rows.ensures.count) in
    let marked = c.in_ok-mark_rows.ensures.marked i c.args.place low in
    let early : start + i < walk_input.end = subst (λ (s : RunUpTo). start + i < s.end) (sym c.self.view_is) (omega (arith, low, c.requires.within)) in
    subst (λ x. contains (row rows i) c.args.place ≡ list_has (mentioned_dets e) x) same
    (mentioned_listed (instant past walk_input.end) det list (c.self.invariant.mentioned.mentioned det) (c.self.invariant.mentioned.only det) (start + i) e (entry_then past walk_input.end (start + i) early c.self.invariant.within ∙ there) (contains (row rows i) c.args.place) (
      λ h. elim (marked.0 h) [
        | inl old ↦ absurd (let list_has = c.requires.fresh i c.args.place low old in omega (arith, list_has))
        | inr new ↦ subst (λ l. Contains l (start + i)) c.list-positions.ensures new.1
      ],
      λ listed. marked.1 (inr (refl, subst (λ l. Contains l (start + i)) (sym c.list-positions.ensures) listed)),
    )))
