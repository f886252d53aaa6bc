use Rattle.std.proofs.Common.{◌≡◌, ◌+◌, ◌≤◌, ◌∷◌, ◌∙◌, [], length, reverse, refl, ap, subst, sym, arith}
use Rattle.causal_trace.specs.State.{past_at}
use Rattle.causal_trace.proofs.Lemmas.Instants.{past_more, past_length, past_whole}
use Rattle.causal_explain.specs.Inside.ShortestPaths.{AreNearest, ArePathSteps, Nearest, PrecedesNext}
use Rattle.causal_explain.proofs.WayLemmas.{forward_at, lanes_none, nearest_below, ways_more, ways_none}
use Rattle.causal_explain.proofs.paths.shortest_paths.Goals as goal

pub loop-i-init : goal.loop-i-init
loop-i-init c = record {
  count = refl;
  ways = subst (ArePathSteps [] c.args.from) (sym c.in_ok-ways.ensures.items) (ways_none c.args.from);
  lanes = lanes_none c.args.from 256;
  len = c.in_ok-ways.ensures.len;
  room = c.in_ok-ways.ensures.capacity;
}

pub path_step_to-way-requires : goal.path_step_to-way-requires
path_step_to-way-requires c =
    let entries = c.args.entries.now in
    let low : c.loop-i.i ≤ length entries = omega (arith, c.loop-i-test.true) in
    let past = past_at entries c.loop-i.i in
    nearest_below past c.args.from (PrecedesNext c.index-entries-i.result past) c.loop-i.i c.nearest_before-before.result (forward_at entries c.loop-i.i low c.requires.forward) (past_length entries c.loop-i.i low)
    (c.nearest_before-before.ensures past c.args.from (rw c.as_slice.ensures.value c.loop-i.invariant.ways) c.loop-i.invariant.lanes)

pub loop-i-preserved : goal.loop-i-preserved
loop-i-preserved c =
    let entries = c.args.entries.now in
    let e = c.index-entries-i.result in
    let past = past_at entries c.loop-i.i in
    let low : c.loop-i.i + 1 ≤ length entries = omega (arith, c.loop-i-test.true) in
    let long = past_length entries c.loop-i.i (omega (arith, low)) in
    let next = past_more entries c.loop-i.i e c.loop-i-test.true c.index-entries-i.is in
    let forward = rw next at (forward_at entries (c.loop-i.i + 1) low c.requires.forward) in
    let nearest = c.nearest_before-before.ensures past c.args.from (rw c.as_slice.ensures.value c.loop-i.invariant.ways) c.loop-i.invariant.lanes in
    let way = c.path_step_to-way.ensures past long forward nearest in
    let reached : Nearest (e ∷ past) c.args.from (λ k. k ≡ length past) c.reached_by.result =
    subst (λ n. Nearest (e ∷ past) c.args.from (λ k. k ≡ n) c.reached_by.result) (sym long) (c.reached_by.ensures (e ∷ past) c.args.from way) in
    record {
      count = omega (arith, c.loop-i.invariant.count, c.note_reached.auto.lanes);
      ways = rw (next, c.push_reserved.ensures.items) (ways_more e past c.args.from _ _ forward (rw long way) c.loop-i.invariant.ways);
      lanes = rw next (c.note_reached.ensures past c.args.from forward reached c.loop-i.invariant.lanes);
      len = omega (arith, c.push_reserved.ensures.len, c.loop-i.invariant.len);
      room = omega (arith, c.push_reserved.ensures.capacity, c.loop-i.invariant.room);
    }

pub returns-clause-nearest : goal.returns-clause-nearest
returns-clause-nearest c =
    let entries = c.args.entries.now in
    let ended : c.loop-i.i ≡ length entries = omega (arith, c.loop-i-test.false, c.loop-i.auto.i-end) in
    let lanes : AreNearest (reverse entries) c.args.from c.loop-i.lanes = subst (λ p. AreNearest p c.args.from c.loop-i.lanes) (ap (past_at entries) ended ∙ past_whole entries) c.loop-i.invariant.lanes in
    lanes c.args.process (omega arith)

pub returns-clause-each : goal.returns-clause-each
returns-clause-each c =
    let entries = c.args.entries.now in
    let ended : c.loop-i.i ≡ length entries = omega (arith, c.loop-i-test.false, c.loop-i.auto.i-end) in
    subst (λ p. ArePathSteps p c.args.from c.loop-i.ways.items) (ap (past_at entries) ended ∙ past_whole entries) c.loop-i.invariant.ways
