use Rattle.std.proofs.Common.{arith}
use Rattle.causal_trace.proofs.Lemmas.WellFormed.{formed_short}
use Rattle.causal_core.proofs.RunAfterStep.{store_is}
use Rattle.causal_core.proofs.RuntimeRestart.{few_stable, restart_lists}
use Rattle.causal_core.proofs.run_data.RunData.restart_fault.Goals as goal

pub count_gathered-requires-clause-few : goal.count_gathered-requires-clause-few
count_gathered-requires-clause-few g c =
    grind (
      arith,
      formed_short,
      store_is (g.S.Stable.contents c.args.store.now) c.args.self.now.run.recording.past c.requires,
      few_stable c.args.self.now.run.recording.past,
    )

pub returns : goal.returns
returns g c = grind (arith, store_is (g.S.Stable.contents c.args.store.now) c.args.self.now.run.recording.past c.requires, restart_lists)
