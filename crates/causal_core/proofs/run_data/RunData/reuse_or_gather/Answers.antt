use Rattle.std.proofs.Common.{arith, ◌∙◌, sym, subst}
use Rattle.causal_core.specs.Inside.GatherCaches.{IsGatherCache}
use Rattle.causal_core.proofs.RunAfterStep.{gathered_down, remembered_anew}
use Rattle.causal_core.proofs.run_data.RunData.reuse_or_gather.Goals as goal

pub returns-in-Some-clause-log : goal.returns-in-Some-clause-log
returns-in-Some-clause-log g c = grind (arith, gathered_down)

pub returns-clause-cache_is_right : goal.returns-clause-cache_is_right
returns-clause-cache_is_right g c =
    subst (IsGatherCache c.args.self.now.run) (sym c.replace.ensures.after)
    (remembered_anew c.args.self.now.run c.args.p _ c.cache_gathered.result c.requires.down (c.sort.ensures.map ∙ c.in_ok-log.ensures) c.cache_gathered.ensures)
