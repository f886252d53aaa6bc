-- One turn of a driver: the call that a word chooses, or none.
use Rattle.std.specs.Prelude.{◌≡◌, ℕ, List, [], ◌∷◌, ◌++◌, length, Some}
use Rattle.causal_name.specs.declared.Pid.{Pid}
use Rattle.causal_protocol.specs.declared.request.Request.TheVariants as Requests
use Rattle.causal_protocol.specs.Run.{Run}
use Rattle.causal_protocol.specs.Steps.{Steps}
use Rattle.causal_driver.specs.declared.schedule.Schedule.{Schedule}
use Rattle.causal_driver.specs.declared.schedule.Call.{Call}
use Rattle.causal_driver.specs.declared.driver.TurnOutcome.{TurnOutcome}
use Rattle.causal_driver.specs.declared.driver.TurnOutcome.TheVariants as Outcomes
use Rattle.causal_driver.specs.Options.{moves}
use Rattle.causal_driver.specs.Schedules.{word_after, first_word, chosen, AreCalls}

-- the chosen request was made, and its call appended
pub record IsMade (s : Schedule) (word : ℕ) (before after : List Call) (old new : Run) : Type 0 where
  pub call : Call
  pub appended : after ≡ before ++ call ∷ []
  pub request : chosen s word old ≡ Some call.request
  pub step : Steps old call.request call.reply new

-- nothing leads on, and no call was made
pub record IsIdle (before after : List Call) (old new : Run) : Type 0 where
  pub none : moves old ≡ []
  pub calls : after ≡ before
  pub run : new ≡ old

-- the chosen request is a restart for which no spare is left, and no call was made
pub record LacksSpare (s : Schedule) (word : ℕ) (before after : List Call) (old new : Run) : Type 0 where
  pub p : Pid
  pub request : chosen s word old ≡ Some (Requests.Restart p)
  pub calls : after ≡ before
  pub run : new ≡ old

-- what a turn does
abbrev pub IsTurn : Schedule → ℕ → TurnOutcome → List Call → List Call → Run → Run → Type 0
IsTurn s word Outcomes.Made before after old new = IsMade s word before after old new
IsTurn s word Outcomes.Quiet before after old new = IsIdle before after old new
IsTurn s word Outcomes.NoSpare before after old new = LacksSpare s word before after old new

-- this many calls were made so far, which lead from one run to the other, and this word chooses next
pub record HaveMade (s : Schedule) (word made : ℕ) (calls : List Call) (old new : Run) : Type 0 where
  pub lead : AreCalls s (first_word s) calls old new
  pub next : word ≡ word_after (first_word s) (length calls)
  pub number : length calls ≡ made
