-- How a run goes on after the commands of a script: by the calls that a seed chooses.
use Rattle.std.specs.Prelude.{◌≡◌, ◌≢◌, ◌≤◌, List, length, Option, Some, None}
use Rattle.causal_protocol.specs.Run.{Run}
use Rattle.causal_driver.specs.declared.schedule.Schedule.{Schedule}
use Rattle.causal_driver.specs.declared.schedule.Call.{Call}
use Rattle.causal_driver.specs.declared.schedule.End.{End}
use Rattle.causal_driver.specs.declared.schedule.End.TheVariants as Ends
use Rattle.causal_driver.specs.Schedules.{first_word, AreCalls, HasScheduleEnded}
use Rattle.causal_script.specs.declared.script.Exploration.{Exploration}

-- the schedule of an exploration; once 64 restarts have been made, no process crashes
abbrev pub schedule_of : Exploration → Schedule
schedule_of e = record { seed = e.seed; steps = e.steps; restarts = 64 }

-- the calls that a schedule chooses lead from one run to the other, each by a legal step; they are as many as it allows,
-- or nothing leads on, or the next one is a restart for which no spare is left
pub record IsDriven (s : Schedule) (old new : Run) : Type 0 where
  pub calls : List Call
  pub made : AreCalls s (first_word s) calls old new
  pub few : length calls ≤ s.steps
  pub end : End
  pub known : end ≢ Ends.NoMemory
  pub ended : HasScheduleEnded s end (length calls) new

-- the run is driven by the schedule of the exploration, or stays as it is
abbrev pub IsExplored : Option Exploration → Run → Run → Type 0
IsExplored None old new = new ≡ old
IsExplored (Some e) old new = IsDriven (schedule_of e) old new
