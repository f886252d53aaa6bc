use Rattle.causal_core.specs.CoreView.{core_state}
use Rattle.causal_core.proofs.ReplayDeliveries.{replayed_more, replayed_on, replayed_unnamed}
use Rattle.causal_core.proofs.replay.Core+S.run_replay.Goals as goal

pub loop-count-preserved : goal.loop-count-preserved
loop-count-preserved g c =
    replayed_more _ c.args.p c.loop-count.count _ c.in-Ok-Some.field-0-0 (core_state c.args.self.now) (core_state c.loop-count.self) (core_state c.deliver_named.new.self) c.loop-count.invariant c.in-Ok-Some.field-0-is c.in-Ok-Some.ensures.ok

pub returns-in-Ok-None-clause-made : goal.returns-in-Ok-None-clause-made
returns-in-Ok-None-clause-made g c =
    replayed_unnamed _ c.args.p c.loop-count.count _ (core_state c.args.self.now) (core_state c.loop-count.self) (core_state c.deliver_named.new.self) c.loop-count.invariant c.in-Ok-None.field-0-is c.in-Ok-None.ensures.ok

pub returns-in-Err-clause-made : goal.returns-in-Err-clause-made
returns-in-Err-clause-made g c =
    replayed_on _ c.args.p c.loop-count.count (core_state c.args.self.now) (core_state c.loop-count.self) (core_state c.deliver_named.new.self) c.loop-count.invariant c.in-Err.ensures.refused
