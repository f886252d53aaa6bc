use Rattle.std.proofs.Common.{◌≡◌, ◌+◌, ◌∷◌, ◌∙◌, length, refl, sym, ap, subst, arith}
use Rattle.std.specs.Option.{option_map_or}
use Rattle.causal_trace.specs.Numbers.{delivered_dets}
use Rattle.causal_trace.specs.State.{past_at}
use Rattle.causal_trace.specs.Inside.SortedDeliveries.{AreDeliveries}
use Rattle.causal_trace.proofs.Lemmas.Instants.{past_length, past_more}
use Rattle.causal_trace.proofs.SortedLemmas.{dets_few}
use Rattle.causal_trace.proofs.sorted_deliveries.SortedDeliveries.fill.Goals as goal

pub loop-t-init : goal.loop-t-init
loop-t-init c = record { deliveries = λ whole d i. rw c.clear.ensures.empty refl; number = refl }

pub overflow_add-number : goal.overflow_add-number
overflow_add-number c =
    let es = c.args.entries.now in
    let below = c.loop-t-test.true in
    omega (arith, c.loop-t.invariant.number, dets_few (past_at es c.loop-t.t), past_length es c.loop-t.t (omega (arith, below)), below, c.requires, c.delivery_in-number.ensures.few)

pub loop-t-preserved : goal.loop-t-preserved
loop-t-preserved c =
    let es = c.args.entries.now in
    let t = c.loop-t.t in
    let dets = delivered_dets (past_at es t) in
    let step : delivered_dets (past_at es (t + 1)) ≡ option_map_or (λ d. d ∷ dets) c.det_of-own.result dets =
    ap delivered_dets (past_more es t c.index-entries-t.result c.loop-t-test.true c.index-entries-t.is) ∙ ap (λ o. option_map_or (λ d. d ∷ dets) o dets) (sym c.det_of-own.ensures) in
    record {
      deliveries = subst (AreDeliveries c.add_own.new.self) (sym step) (c.add_own.ensures dets (sym c.loop-t.invariant.number) c.loop-t.invariant.deliveries);
      number = sym (ap length step ∙ c.delivery_in-number.ensures.count dets ∙ ap (λ n. n + c.delivery_in-number.result) (sym c.loop-t.invariant.number));
    }

pub returns : goal.returns
returns c =
    let all : c.loop-t.t ≡ length c.args.entries.now = omega (arith, c.loop-t-test.false, c.loop-t.auto.t-end) in
    subst (λ past. AreDeliveries c.loop-t.self (delivered_dets past)) (ap (past_at c.args.entries.now) all) c.loop-t.invariant.deliveries
