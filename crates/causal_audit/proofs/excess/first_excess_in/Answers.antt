use Rattle.causal_audit.proofs.Common.{ℕ, List, length, ◌≡◌, ◌+◌, ◌<◌, ◌∷◌, arith, sym, subst, instant, is_down, Entry, Recording, entries_of, accepted_then}
use Rattle.causal_audit.specs.Inside.DeliveryStates.{HasExactly}
use Rattle.causal_audit.proofs.Shown.{down_members}
use Rattle.causal_audit.proofs.Steps.{nobody_down, down_count, few_at_first}
use Rattle.causal_trace.proofs.Lemmas.AtInstants.{how_many, next_state, up_to_next}
use Rattle.causal_audit.proofs.excess.first_excess_in.Goals as goal

below : (r : Recording) (es : List Entry) (t : ℕ) → es ≡ entries_of r → t < length es → t < length r.past
below r es t read there = omega (arith, there, how_many r es read)

pub loop-t-init : goal.loop-t-init
loop-t-init c = grind (arith, nobody_down, few_at_first)

pub returns-then-len-from : goal.returns-then-len-from
returns-then-len-from c =
    let r = c.args.trace.now.recording in
    let t = c.loop-t.t in
    let next : instant r.past (t + 1) ≡ c.index-recorded-t.result ∷ instant r.past t = next_state r c.entries-recorded.result.now c.entries-recorded.ensures.value t c.index-recorded-t.result (below r c.entries-recorded.result.now t c.entries-recorded.ensures.value c.loop-t-test.true) c.index-recorded-t.is in
    let shown : HasExactly c.down_after-down.result (λ p. is_down (instant r.past (t + 1)) p) = subst (λ q. HasExactly c.down_after-down.result (λ p. is_down q p)) (sym next) (c.down_after-down.ensures (instant r.past t) c.loop-t.invariant.down) in
    record {
      within = omega (arith, below r c.entries-recorded.result.now t c.entries-recorded.ensures.value c.loop-t-test.true);
      before = λ u h. c.loop-t.invariant.before u (omega (arith, h));
      excess = record {
        many = omega (arith, c.if-len-from.true, c.len.ensures.counted, c.from.ensures, down_count r c.entries-recorded.ensures.formed (t + 1) c.down_after-down.result shown);
        members = down_members r.processes (instant r.past (t + 1)) c.down_after-down.result (accepted_then r.processes r.past (t + 1) c.entries-recorded.ensures.formed.accepted) shown;
      };
    }

pub loop-t-preserved : goal.loop-t-preserved
loop-t-preserved c =
    grind (
      arith,
      up_to_next,
      next_state c.args.trace.now.recording c.entries-recorded.result.now c.entries-recorded.ensures.value c.loop-t.t c.index-recorded-t.result (below c.args.trace.now.recording c.entries-recorded.result.now c.loop-t.t c.entries-recorded.ensures.value c.loop-t-test.true) c.index-recorded-t.is,
      below c.args.trace.now.recording c.entries-recorded.result.now c.loop-t.t c.entries-recorded.ensures.value c.loop-t-test.true,
      down_count,
    )

pub returns : goal.returns
returns c = grind (arith, how_many)
