use Rattle.std.proofs.Common.{◌≡◌, ◌≢◌, ℕ, [], ◌∷◌, length, get_or, length-append, refl, sym, subst, arith}
use Rattle.causal_clock.specs.Inside.Columns.{SameOrNoNews}
use Rattle.causal_clock.specs.Inside.Fields.{count_at_event}
use Rattle.causal_clock.specs.Inside.Lanes.{rises_in}
use Rattle.causal_clock.proofs.Lanes.{zero_pushed, each_pushed}
use Rattle.causal_clock.proofs.counts_for.Goals as goal
use Rattle.causal_clock.proofs.counts_for.Goals.{then-source-own, else-source-own}

pub loop-source-init : goal.loop-source-init
loop-source-init c = rw c.in_ok-counts.ensures.items (record { count = refl; own = refl; each = λ k lt other. absurd (omega (arith, lt)) })

pub loop-source-preserved : goal.loop-source-preserved
loop-source-preserved c =
    let so_far = c.loop-source.invariant in
    let xs = c.loop-source.counts.items in
    let x = c.if-source-own.push in
    let known = c.args.to.now.row.items in
    let count_is = λ (k v : ℕ). k ≢ c.args.own → SameOrNoNews (get_or known k 0) v (count_at_event (rises_in c.args.from.now) c.args.sent k) in
    let none : c.args.own ≡ length xs → x ≡ 0 = elim c.if-source-own.branch [
      | then-source-own w ↦ λ same. w.push-is
      | else-source-own w ↦ λ same. grind (arith, so_far.count)
    ] in
    let new : count_is c.loop-source.source x = elim c.if-source-own.branch [
      | then-source-own w ↦ λ other. grind arith
      | else-source-own w ↦ λ other. grind (arith, w.push-is, w.last_count.ensures, w.count_for.ensures)
    ] in
    rw c.in_ok-push.ensures.items (record {
      count = omega (arith, so_far.count, length-append xs (x ∷ []));
      own = zero_pushed xs x c.args.own none so_far.own;
      each = λ k lt. each_pushed xs x count_is (λ j low. so_far.each j (omega (arith, low, so_far.count))) (subst (λ n. count_is n x) (sym so_far.count) new) k (omega (arith, lt, so_far.count));
    })

pub returns-clause-count : goal.returns-clause-count
returns-clause-count c = omega (arith, c.loop-source.invariant.count, c.loop-source-test.false, c.loop-source.auto.source-end)

pub returns-clause-own : goal.returns-clause-own
returns-clause-own c = c.loop-source.invariant.own

pub returns-clause-each : goal.returns-clause-each
returns-clause-each c source lt = c.loop-source.invariant.each source (omega (arith, lt, c.loop-source-test.false))
