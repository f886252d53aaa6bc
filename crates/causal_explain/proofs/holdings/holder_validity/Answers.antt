use Rattle.std.proofs.Common.{◌≡◌, List, length, refl, arith}
use Rattle.causal_trace.specs.declared.entry.Entry.{Entry}
use Rattle.causal_trace.specs.Past.{logs}
use Rattle.causal_trace.proofs.Lemmas.Instants.{past_whole}
use Rattle.causal_explain.proofs.StandingLemmas.{stand_next, stand_none}
use Rattle.causal_explain.proofs.holdings.holder_validity.Goals as goal

pub loop-i-init : goal.loop-i-init
loop-i-init c = record { count = refl; stand = stand_none (λ p (past : List Entry). logs past p c.args.det) 256 (λ p. refl) }

pub loop-i-preserved : goal.loop-i-preserved
loop-i-preserved c = record {
  count = omega (arith, c.loop-i.invariant.count, c.apply_change.auto.standings);
  stand = stand_next c.args.entries.now c.loop-i.i _ c.holder_change.result (λ p state. logs state p c.args.det) c.loop-i.standings c.apply_change.new.standings c.loop-i-test.true c.index-entries-i.is c.apply_change.ensures c.holder_change.ensures c.loop-i.invariant.stand;
}

pub returns : goal.returns
returns c =
    let ended : c.loop-i.i ≡ length c.args.entries.now = omega (arith, c.loop-i-test.false, c.loop-i.auto) in
    rw (ended, past_whole c.args.entries.now) at c.loop-i.invariant.stand
