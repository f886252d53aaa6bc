use Rattle.std.proofs.Common.{◌≡◌, length, refl, subst, arith}
use Rattle.causal_trace.specs.Past.{is_down}
use Rattle.causal_explain.specs.ProcessFacts.{AreDown}
use Rattle.causal_explain.proofs.StandingLemmas.{tells_one, tells_skipped, holds_now}
use Rattle.causal_explain.proofs.down_processes.down_in.Goals.{in-Some, in_default}
use Rattle.causal_explain.proofs.down_processes.down_in.Goals as goal

pub loop-p-preserved : goal.loop-p-preserved
loop-p-preserved c =
    let was = c.loop-p.invariant in
    elim c.match-holds_since.branch [
      | in-Some w ↦ rw w.down-is (record {
        told = λ past stand.
            let right = w.in-Some.ensures past (λ state. is_down state c.loop-p.p) (stand c.loop-p.p c.loop-p-test.true) in
            rw w.push_reserved.ensures.items (tells_one _ _ _ _ _ _ (was.told past stand) refl (holds_now past (λ state. is_down state c.loop-p.p) w.in-Some.since right) right);
        len = omega (arith, w.push_reserved.ensures.len, was.len);
        room = omega (arith, w.push_reserved.ensures.capacity, was.room);
      })
      | in_default w ↦ rw w.down-is (record {
        told = λ past stand. tells_skipped _ _ _ _ _ (was.told past stand) (w.in_default.ensures past (λ state. is_down state c.loop-p.p) (stand c.loop-p.p c.loop-p-test.true));
        len = omega (arith, was.len);
        room = was.room;
      })
    ]

pub returns : goal.returns
returns c past stand =
    let ended : c.loop-p.p ≡ length c.args.standings.now = omega (arith, c.loop-p-test.false, c.loop-p.auto.p-end) in
    subst (λ n. AreDown n past c.loop-p.down.items) ended (c.loop-p.invariant.told past stand)
