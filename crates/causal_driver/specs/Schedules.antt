-- The calls that a schedule makes of a run, and why they end.
use Rattle.std.specs.Prelude.{◌≡◌, ℕ, zero, suc, ◌+◌, ◌*◌, ◌/◌, ◌%◌, ◌^◌, ◌==◌, List, [], ◌∷◌, length, Option, Some, None, slice_get, if◌then◌else◌}
use Rattle.causal_name.specs.declared.Pid.{Pid}
use Rattle.causal_protocol.specs.declared.request.Request.{Request}
use Rattle.causal_protocol.specs.declared.request.Request.TheVariants as Requests
use Rattle.causal_protocol.specs.Run.{Run}
use Rattle.causal_protocol.specs.Steps.{Steps}
use Rattle.causal_driver.specs.declared.schedule.Schedule.{Schedule}
use Rattle.causal_driver.specs.declared.schedule.Call.{Call}
use Rattle.causal_driver.specs.declared.schedule.End.{End}
use Rattle.causal_driver.specs.declared.schedule.End.TheVariants as Ends
use Rattle.causal_driver.specs.Options.{moves, disturbance}

-- the word after another: a linear congruential sequence modulo 2^64, with the constants of Knuth's MMIX
abbrev pub next_word : ℕ → ℕ
next_word word = ((word * 6364136223846793005) % 2 ^ 64 + 1442695040888963407) % 2 ^ 64

-- the word after this many others
unfoldable pub word_after : ℕ → ℕ → ℕ
word_after word zero = word
word_after word (suc count) = next_word (word_after word count)

-- the word that chooses the first request: not the seed itself, since the high bits of small seeds are alike
abbrev pub first_word : Schedule → ℕ
first_word s = next_word s.seed

-- the number that a word chooses by: its high bits, since the low ones have short periods
abbrev pub choice_of : ℕ → ℕ
choice_of word = word / 2 ^ 32

-- one of these moves; in one of eight cases, if there is a move, what disturbs the run
abbrev pub chosen_among : Run → ℕ → ℕ → List Request → Option Request
chosen_among r few choice found =
    if length found == 0 then None
    else (if choice % 8 == 0 then Some (disturbance r few (choice / 8)) else slice_get found ((choice / 8) % length found))

-- the request that a word chooses
abbrev pub chosen : Schedule → ℕ → Run → Option Request
chosen s word r = chosen_among r s.restarts (choice_of word) (moves r)

-- these calls, from this word on, lead from one run to the other: each request is the chosen one, each reply a legal step
unfoldable pub AreCalls : Schedule → ℕ → List Call → Run → Run → Type 0
AreCalls s word [] old new = new ≡ old
AreCalls s word (call ∷ calls) old new =
    (chosen s word old ≡ Some call.request) × ((mid : Run) × (Steps old call.request call.reply mid × AreCalls s (next_word word) calls mid new))

-- why the calls ended, after this many, at this run
abbrev pub HasScheduleEnded : Schedule → End → ℕ → Run → Type 0
HasScheduleEnded s Ends.Quiet count r = moves r ≡ []
HasScheduleEnded s Ends.Steps count r = count ≡ s.steps
HasScheduleEnded s Ends.NoSpare count r = (p : Pid) × (chosen s (word_after (first_word s) count) r ≡ Some (Requests.Restart p))
HasScheduleEnded s Ends.NoMemory count r = Unit {0}
