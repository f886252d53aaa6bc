use Rattle.std.proofs.Common.{◌≡◌, length, refl, subst, arith}
use Rattle.causal_trace.specs.Past.{logs}
use Rattle.causal_explain.specs.ProcessFacts.{AreHoldings}
use Rattle.causal_explain.proofs.StandingLemmas.{tells_one, tells_skipped, holds_now}
use Rattle.causal_explain.proofs.holdings.holdings_in.Goals.{in-Some, in_default}
use Rattle.causal_explain.proofs.holdings.holdings_in.Goals as goal

pub loop-p-preserved : goal.loop-p-preserved
loop-p-preserved c =
    let was = c.loop-p.invariant in
    elim c.match-holds_since.branch [
      | in-Some w ↦ rw w.holdings-is (record {
        told = λ past d stand.
            let right = w.in-Some.ensures past (λ state. logs state c.loop-p.p d) (stand c.loop-p.p c.loop-p-test.true) in
            rw w.push_reserved.ensures.items (tells_one _ _ _ _ _ _ (was.told past d stand) refl (holds_now past (λ state. logs state c.loop-p.p d) w.in-Some.since right) right);
        len = omega (arith, w.push_reserved.ensures.len, was.len);
        room = omega (arith, w.push_reserved.ensures.capacity, was.room);
      })
      | in_default w ↦ rw w.holdings-is (record {
        told = λ past d stand. tells_skipped _ _ _ _ _ (was.told past d stand) (w.in_default.ensures past (λ state. logs state c.loop-p.p d) (stand c.loop-p.p c.loop-p-test.true));
        len = omega (arith, was.len);
        room = was.room;
      })
    ]

pub returns : goal.returns
returns c past d stand =
    let ended : c.loop-p.p ≡ length c.args.standings.now = omega (arith, c.loop-p-test.false, c.loop-p.auto.p-end) in
    subst (λ n. AreHoldings n past d c.loop-p.holdings.items) ended (c.loop-p.invariant.told past d stand)
