use Rattle.std.proofs.Common.{◌≡◌, ◌∙◌, length, refl, reverse, sym, ap, subst, arith}
use Rattle.causal_trace.specs.Past.{logs}
use Rattle.causal_trace.proofs.Lemmas.Instants.{entry_of}
use Rattle.causal_explain.specs.Inside.Losing.{lost_by}
use Rattle.causal_explain.specs.ProcessFacts.{AreLosses}
use Rattle.causal_explain.proofs.StandingLemmas.{tells_one, tells_skipped, is_loss, lost_now}
use Rattle.causal_explain.proofs.holdings.losses_in.Goals.{in-Some, in_default}
use Rattle.causal_explain.proofs.holdings.losses_in.Goals as goal

pub loop-p-preserved : goal.loop-p-preserved
loop-p-preserved c =
    let past = reverse c.args.entries.now in
    let was = c.loop-p.invariant in
    elim c.match-last_span.branch [
      | in-Some w ↦ rw w.losses-is (record {
        told = λ d stand.
            let right = w.in-Some.ensures past (λ state. logs state c.loop-p.p d) (stand c.loop-p.p c.loop-p-test.true) in
            let by = w.lost_by.ensures ∙ ap lost_by (sym (entry_of c.args.entries.now w.in-Some.span.to)) in
            rw w.push_reserved.ensures.items
            (tells_one _ _ _ _ _ _ (was.told d stand) refl (lost_now past (λ state. logs state c.loop-p.p d) w.in-Some.span.to right.0) (is_loss past d _ right.1 right.0.0 by));
        len = omega (arith, w.push_reserved.ensures.len, was.len);
        room = omega (arith, w.push_reserved.ensures.capacity, was.room);
      })
      | in_default w ↦ rw w.losses-is (record {
        told = λ d stand. tells_skipped _ _ _ _ _ (was.told d stand) (w.in_default.ensures past (λ state. logs state c.loop-p.p d) (stand c.loop-p.p c.loop-p-test.true));
        len = omega (arith, was.len);
        room = was.room;
      })
    ]

pub returns : goal.returns
returns c d stand =
    let ended : c.loop-p.p ≡ length c.args.standings.now = omega (arith, c.loop-p-test.false, c.loop-p.auto.p-end) in
    subst (λ n. AreLosses n (reverse c.args.entries.now) d c.loop-p.losses.items) ended (c.loop-p.invariant.told d stand)
