-- What each command writes and returns.
use Rattle.std.specs.Prelude.{◌≡◌, ℕ, List, Option}
use Rattle.causal_outcomes.specs.declared.ended.Ended.{Ended}
use Rattle.causal_commands.specs.declared.question.Question.TheVariants.{Reason}
use Rattle.causal_commands.specs.PrintedAnswers.{WritesFor}
use Rattle.causal_commands.specs.Drawings.{WritesDrawingFor}
use Rattle.causal_commands.specs.Questions.{StopsFor, faults_of}
use Rattle.causal_outcomes.specs.Diagnostics.{IsDiagnosisFor}
use Rattle.causal_commands.specs.MappedReasons.{WritesMappedFor}
use Rattle.causal_outcomes.specs.Merges.{WritesMergeFor, ReadsAtMostRecordings}
use Rattle.causal_runtime_commands.specs.Reasons.{ArePendingFor, IsReasonFor}
use Rattle.causal_runtime_commands.specs.Runs.{WritesScriptFor, ReadsAtMostScript}
use Rattle.causal_tool.specs.declared.invocation.Invocation.{Invocation}
use Rattle.causal_tool.specs.declared.invocation.Invocation.TheVariants.{Trace, Draw, MappedReason, Merge, Run}
use Rattle.causal_tool.specs.declared.run.CommandOutcome.{CommandOutcome}
use Rattle.causal_tool.specs.declared.run.CommandOutcome.TheVariants as outcome_of

-- What a command writes for the bytes of a reader, and of a map, and that the error that it returns is true: each command
-- of the command line is answered by its own call.
abbrev pub Answers : Invocation → CommandOutcome → Option (List ℕ) → Option (List ℕ) → Option (List ℕ) → Option (List ℕ) → Type 0
Answers (Trace question form limits) (outcome_of.Trace f outcome) given map old new =
    WritesFor limits.entries form question given outcome.ended old new × IsDiagnosisFor limits.entries given f outcome.fault × (f ≡ faults_of question)
Answers (Draw faults workers limits selection) (outcome_of.Trace f outcome) given map old new =
    WritesDrawingFor limits.entries selection given faults outcome.ended old new × IsDiagnosisFor limits.entries given f outcome.fault × (f ≡ faults)
Answers (MappedReason faults workers limits) (outcome_of.MappedReason f outcome) given map old new =
    WritesMappedFor limits.entries given map faults outcome old new × IsDiagnosisFor limits.entries given f outcome.outcome.fault × (f ≡ faults)
Answers (Merge workers limits mapping) (outcome_of.Merge outcome) given map old new = WritesMergeFor limits.entries mapping given outcome old new
Answers Run (outcome_of.Script outcome) given map old new = WritesScriptFor given outcome.ended old new × IsReasonFor given outcome.fault × ArePendingFor given outcome
Answers _ _ given map old new = ⊥

-- what a command consumes of its input: at most one piece after bytes that decide nothing, or at most one byte more than
-- recordings or a script may have
abbrev pub ReadsFor : Invocation → Option (List ℕ) → Option (List ℕ) → Type 0
ReadsFor (Trace question form limits) old new = StopsFor limits.entries question old new
ReadsFor (Draw faults workers limits selection) old new = StopsFor limits.entries (Reason faults workers) old new
ReadsFor (MappedReason faults workers limits) old new = StopsFor limits.entries (Reason faults workers) old new
ReadsFor (Merge workers limits mapping) old new = ReadsAtMostRecordings limits.entries old new
ReadsFor Run old new = ReadsAtMostScript old new

-- what a command consumes of a map: at most one byte more than a map may have; but for `explain`, nothing
abbrev pub ReadsMapFor : Invocation → Option (List ℕ) → Option (List ℕ) → Type 0
ReadsMapFor (MappedReason faults workers limits) old new = ReadsAtMostRecordings limits.entries old new
ReadsMapFor _ old new = new ≡ old

-- how a command ended
abbrev pub ended_of : CommandOutcome → Ended
ended_of (outcome_of.Trace f outcome) = outcome.ended
ended_of (outcome_of.MappedReason f outcome) = outcome.outcome.ended
ended_of (outcome_of.Merge outcome) = outcome.ended
ended_of (outcome_of.Script outcome) = outcome.ended
