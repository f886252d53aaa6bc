use Rattle.std.proofs.Common.{◌∙◌, subst}
use Rattle.std.proofs.lemmas.Result.{err_from_is_err_and}
use Rattle.causal_trace.specs.Judgement.{IsSafeTrace}
use Rattle.causal_core.specs.CoreView.{core_run}
use Rattle.causal_run.proofs.script_run.perform_and_explore.Goals as goal

pub returns-in_err-core-clause-refused : goal.returns-in_err-core-clause-refused
returns-in_err-core-clause-refused g c =
    let p = err_from_is_err_and c.from_residual-in_err-core.result c.from_residual-in_err-core.ensures.1 in
    rw (p.1, p.2) (rw c.as_slice-commands.ensures at c.in_err-core.ensures.refused)

pub returns-in-Ok-clause-run : goal.returns-in-Ok-clause-run
returns-in-Ok-clause-run g c = record {
  mid = core_run c.in_ok-core.core;
  end = core_run c.explore_as.new.core;
  run = rw c.as_slice-commands.ensures at c.in_ok-core.ensures.run;
  explored = c.in-Ok.ensures.run;
  recorded = c.into_trace.ensures.recording;
}

pub returns-in-Ok-clause-safe : goal.returns-in-Ok-clause-safe
returns-in-Ok-clause-safe g c =
    subst (IsSafeTrace c.into_trace.result.recording) (c.explore_as.ensures.faults ∙ c.in_ok-core.ensures.faults) c.into_trace.ensures.safe
