use Rattle.causal_audit.proofs.Common.{◌≡◌, ◌≤◌, true, length, sym, subst, arith, contains, instant, logs, instant_length}
use Rattle.causal_audit.proofs.group.OpenPositions.{zero}
use Rattle.causal_audit.specs.Inside.Group.Walk.{AreDetCopies, RowsShowReach, position_at}
use Rattle.causal_audit.specs.Inside.Group.OpenDeliveries.{RunUpTo}
use Rattle.causal_audit.proofs.Shown.{shows_none}
use Rattle.causal_audit.proofs.group.GroupReach.{begun, none_in}
use Rattle.causal_audit.proofs.by_clock.Begun.{unheard_before}
use Rattle.causal_audit.proofs.index.DownAfterTurns.{passed_down}
use Rattle.causal_audit.proofs.group.walk_input.WalkInput.prepare_walk.Goals as goal

pub returns-clause-begun : goal.returns-clause-begun
returns-clause-begun c = let r = c.args.self.now.run in
    let candidates = c.args.candidates.now in
    let start = c.args.start in
    let run = c.self.inside.indexed_trace.trace.now.recording in
    let transitions = c.self.inside.indexed_trace.transitions.now in
    let walk = passed_down run.past transitions start c.cursor_at.result c.self.inside.indexed_trace.turned c.cursor_at.ensures in
    let inside : c.args.end ≤ c.self.inside.end = subst (λ (s : RunUpTo). c.args.end ≤ s.end) (sym c.self.view_is) c.requires.within in
    let within : start ≤ length run.past = omega (arith, c.requires.ordered, inside, c.self.invariant.within) in
    let rows = c.mark_mentions.new.rows in
    let early : start ≤ length r.past = subst (λ (s : RunUpTo). start ≤ length s.run.past) c.self.view_is within in
    record {
      start_is = c.in_ok-begin.ensures.rows.start;
      told = λ j d low at.
          subst (λ s. RowsShowReach (instant r.past start) s (position_at candidates j) j rows c.begin.new.self.present.items) (sym c.in_ok-begin.ensures.rows.start)
          (begun (instant r.past start) start (position_at candidates j) j rows c.begin.new.self.present.items (instant_length r.past start early) (c.requires.from j zero low).made c.in_ok-begin.ensures.none);
      marked = c.in_ok-mark_mentions.ensures.marked;
      copied = λ j d low at.
          let untouched = c.requires.from j zero low in
          let none = unheard_before r.past (position_at candidates j) d start (untouched.unmentioned d at) untouched.made early in
          subst (AreDetCopies (instant r.past start) d) (sym (c.clear_copies.ensures.none j (omega (arith, low, c.requires.few, c.requires.buffers.copies))))
          (record { holders = shows_none (λ p. logs (instant r.past start) p d) none.unlogged; stable = sym none.unstable });
      held = λ j d low at p h. absurd (none_in j (subst (λ s. contains s j ≡ true) (c.clear.ensures.none p) h));
      down = grind arith;
    }
