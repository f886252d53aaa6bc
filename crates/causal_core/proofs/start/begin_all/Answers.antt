use Rattle.std.proofs.Common.{arith, length}
use Rattle.std.proofs.lemmas.Grind.{common_steps}
use Rattle.std.proofs.lemmas.Iterator.Adapters.{YieldsList-from_vec}
use Rattle.std.proofs.lemmas.Iterator.Consumers.{YieldsList-turn}
use Rattle.causal_core.proofs.ProcessBegins.{none_begun, more_begun, may_begin}
use Rattle.causal_core.proofs.start.begin_all.Goals as goal

pub loop-process-init : goal.loop-process-init
loop-process-init g c = grind (arith, none_begun)

pub begin-requires : goal.begin-requires
begin-requires g c =
    may_begin _ (length c.args.boxes.items) c.args.run_data.now.run.faults c.loop-process.yielded c.loop-process.slots.items c.loop-process.run_data c.loop-process.invariant
    (YieldsList-turn (YieldsList-from_vec c.args.boxes.items (cc) (grind (arith, common_steps))) c.loop-process.yielded c.loop-process.process-iterator c.loop-process.yielded_by c.next.result c.next.new.self c.in-Some.process c.in-Some.is c.next.ensures.steps).0 c.requires.few

pub loop-process-preserved : goal.loop-process-preserved
loop-process-preserved g c =
    more_begun _ (length c.args.boxes.items) c.args.run_data.now.run.faults c.loop-process.yielded c.loop-process.slots.items _ c.loop-process.run_data _ _ c.loop-process.invariant c.in_default.ensures
    (YieldsList-turn (YieldsList-from_vec c.args.boxes.items (cc) (grind (arith, common_steps))) c.loop-process.yielded c.loop-process.process-iterator c.loop-process.yielded_by c.next.result c.next.new.self c.in-Some.process c.in-Some.is c.next.ensures.steps).0
