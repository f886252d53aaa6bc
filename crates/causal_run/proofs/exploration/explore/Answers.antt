use Rattle.std.proofs.Common.{◌≡◌, ◌∙◌, ap, ℕ, List, [], ◌∷◌}
use Rattle.causal_protocol.specs.Run.{Run}
use Rattle.causal_driver.specs.declared.schedule.Schedule.{Schedule}
use Rattle.causal_driver.specs.declared.schedule.Call.{Call}
use Rattle.causal_driver.specs.Schedules.{next_word, AreCalls}
use Rattle.causal_core.specs.CoreView.{core_run}
use Rattle.causal_run.proofs.exploration.explore.Goals as goal

-- calls do not change the bound on processes that are down
calls_keep_faults : (s : Schedule) (calls : List Call) (word : ℕ) (old new : Run) → AreCalls s word calls old new → new.faults ≡ old.faults
unfolding AreCalls
calls_keep_faults s [] word old new same = ap (λ (r : Run). r.faults) same
calls_keep_faults s (call ∷ calls) word old new made =
    calls_keep_faults s calls (next_word word) made.1.0 new made.1.1.1 ∙ ap (λ (r : Run). r.faults) made.1.1.0.grown

pub returns-in-NoMemory-clause-faults : goal.returns-in-NoMemory-clause-faults
returns-in-NoMemory-clause-faults g c = calls_keep_faults _ c.drive-driven.result.calls.items _ (core_run c.args.core.now) (core_run c.drive-driven.new.core) c.drive-driven.ensures.calls

pub returns-clause-run : goal.returns-clause-run
returns-clause-run g c = record {
  calls = c.drive-driven.result.calls.items;
  made = c.drive-driven.ensures.calls;
  few = c.drive-driven.ensures.few;
  end = c.drive-driven.result.end;
  known = c.in_default.not-NoMemory;
  ended = c.drive-driven.ensures.end;
}

pub returns-clause-faults : goal.returns-clause-faults
returns-clause-faults g c = calls_keep_faults _ c.drive-driven.result.calls.items _ (core_run c.args.core.now) (core_run c.drive-driven.new.core) c.drive-driven.ensures.calls
