use Rattle.causal_core.proofs.RunAfterStep.{stable_filled, stable_stored}
use Rattle.causal_core.proofs.flush.flush_one.Goals as goal

pub returns-in-Ok-clause-stored : goal.returns-in-Ok-clause-stored
returns-in-Ok-clause-stored g c = stable_stored c.args.run_data.now.run c.record_stable.new.self.run c.args.p c.args.det _ _ c.record_stable.ensures.run c.in-Ok.ensures.ok c.requires.stored

pub returns-in-Ok-clause-filled : goal.returns-in-Ok-clause-filled
returns-in-Ok-clause-filled g c = stable_filled c.args.run_data.now.run c.record_stable.new.self.run c.args.p c.args.det c.record_stable.ensures.run
