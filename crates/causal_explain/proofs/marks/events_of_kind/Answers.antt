use Rattle.std.proofs.Common.{◌≡◌, ◌∙◌, ◌∷◌, [], List, length, refl, ap, subst, sym, arith}
use Rattle.causal_trace.specs.declared.entry.Entry.{Entry}
use Rattle.causal_trace.specs.Past.{logs}
use Rattle.causal_trace.specs.State.{past_at}
use Rattle.causal_trace.proofs.Lemmas.Instants.{past_more, past_length, past_whole}
use Rattle.causal_explain.specs.Inside.Marks.{AreMarks}
use Rattle.causal_explain.proofs.MarkLemmas.{marks_more, marks_none}
use Rattle.causal_explain.proofs.StandingLemmas.{stand_none}
use Rattle.causal_explain.proofs.marks.events_of_kind.Goals as goal

pub loop-i-init : goal.loop-i-init
loop-i-init c = record {
  count = refl;
  stand = stand_none (λ p (past : List Entry). logs past p c.args.det) 256 (λ p. refl);
  marked = subst (AreMarks c.args.kind [] c.args.det) (sym c.in_ok-marks.ensures.items) (marks_none c.args.kind c.args.det);
  len = c.in_ok-marks.ensures.len;
  room = c.in_ok-marks.ensures.capacity;
}

pub loop-i-preserved : goal.loop-i-preserved
loop-i-preserved c =
    let e = c.index-entries-i.result in
    let next = past_more c.args.entries.now c.loop-i.i e c.loop-i-test.true c.index-entries-i.is in
    let long = past_length c.args.entries.now c.loop-i.i (omega (arith, c.loop-i-test.true)) in
    let before = past_at c.args.entries.now c.loop-i.i in
    let stand = c.apply_change.ensures (λ p state. logs state p c.args.det) e before long c.holder_change.ensures c.loop-i.invariant.stand in
    record {
      count = omega (arith, c.loop-i.invariant.count, c.apply_change.auto.standings);
      stand = rw next stand;
      marked = rw (next, c.push_reserved.ensures.items) (marks_more e before c.args.det c.args.kind _ c.is_of_kind.result c.loop-i.invariant.marked (c.is_of_kind.ensures (e ∷ before) c.args.det stand));
      len = omega (arith, c.push_reserved.ensures.len, c.loop-i.invariant.len);
      room = omega (arith, c.push_reserved.ensures.capacity, c.loop-i.invariant.room);
    }

pub returns : goal.returns
returns c =
    let entries = c.args.entries.now in
    let ended : c.loop-i.i ≡ length entries = omega (arith, c.loop-i-test.false, c.loop-i.auto.i-end) in
    subst (λ past. AreMarks c.args.kind past c.args.det c.loop-i.marks.items) (ap (past_at entries) ended ∙ past_whole entries) c.loop-i.invariant.marked
