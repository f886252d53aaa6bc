use Rattle.std.proofs.Common.{List, refl, arith}
use Rattle.causal_trace.specs.declared.entry.Entry.{Entry}
use Rattle.causal_trace.specs.Past.{is_down}
use Rattle.causal_explain.proofs.StandingLemmas.{stand_next, stand_none}
use Rattle.causal_explain.proofs.down_processes.down_validity.Goals as goal

pub loop-i-init : goal.loop-i-init
loop-i-init c = record { count = refl; stand = stand_none (λ p (past : List Entry). is_down past p) 256 (λ p. refl) }

pub loop-i-preserved : goal.loop-i-preserved
loop-i-preserved c = record {
  count = omega (arith, c.loop-i.invariant.count, c.apply_change.auto.standings);
  stand = stand_next c.args.entries.now c.loop-i.i _ c.down_change.result (λ p state. is_down state p) c.loop-i.standings c.apply_change.new.standings c.loop-i-test.true c.index-entries-i.is c.apply_change.ensures c.down_change.ensures c.loop-i.invariant.stand;
}
