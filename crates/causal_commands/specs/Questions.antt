-- Questions on a trace.
-- `most` is the maximum number of entries of a trace.
use Rattle.std.specs.Prelude.{ℕ, ◌≤◌, List, Option}
use Rattle.causal_text.specs.Streams.{StopsWithin}
use Rattle.causal_reading.specs.Reads.{max_read}
use Rattle.causal_workers.specs.Streaming.{StopsOnceJudged}
use Rattle.causal_commands.specs.declared.question.Question.{Question}
use Rattle.causal_commands.specs.declared.question.Question.TheVariants.{Verdict, Breach, Reason, Range, Replays}

-- the bound f of the question; `Range` and `Replays` have none, and the entries before an error are audited for 0
abbrev pub faults_of : Question → ℕ
faults_of (Verdict faults workers) = faults
faults_of (Breach faults workers looks) = faults
faults_of (Reason faults workers) = faults
faults_of (Range workers) = 0
faults_of (Replays workers detail) = 0

-- the number of workers that read and audit
abbrev pub workers_of : Question → ℕ
workers_of (Verdict faults workers) = workers
workers_of (Breach faults workers looks) = workers
workers_of (Reason faults workers) = workers
workers_of (Range workers) = workers
workers_of (Replays workers detail) = workers

-- there are 1 to 64 workers
abbrev pub HasFewWorkers : Question → Type 0
HasFewWorkers question = (1 ≤ workers_of question) × (workers_of question ≤ 64)

-- the bytes consumed of a source decide nothing of the question on its text, except one last piece at most
abbrev pub StopsFor : ℕ → Question → Option (List ℕ) → Option (List ℕ) → Type 0
StopsFor most (Breach faults workers looks) old new = StopsOnceJudged most faults old new
StopsFor most question old new = StopsWithin most (max_read (workers_of question)) old new
