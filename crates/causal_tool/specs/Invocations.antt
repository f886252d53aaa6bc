-- Which call answers a command of the command line.
use Rattle.std.specs.Prelude.{⊤, ◌≤◌, true, false, Some, None}
use Rattle.causal_arguments.specs.declared.subcommand.Subcommand.{Subcommand}
use Rattle.causal_arguments.specs.declared.subcommand.Subcommand.TheVariants.{Audit, Explain, ExplainByMap, Replays}
use Rattle.causal_arguments.specs.declared.subcommand.Subcommand.TheVariants as command
use Rattle.causal_arguments.specs.declared.subcommand.Until.TheVariants as until
use Rattle.causal_workers.specs.declared.looks.Looks.TheVariants.{Checkpoints, Live}
use Rattle.causal_facts.specs.declared.form.Form.{Form}
use Rattle.causal_facts.specs.declared.form.Form.TheVariants.{Lines, Json}
use Rattle.causal_commands.specs.Questions.{HasFewWorkers}
use Rattle.causal_commands.specs.declared.question.Question.TheVariants.{Verdict, Breach, Reason, Range}
use Rattle.causal_commands.specs.declared.question.Question.TheVariants as question_on
use Rattle.causal_commands.specs.declared.question.StrayDetail.{StrayDetail}
use Rattle.causal_commands.specs.declared.question.StrayDetail.TheVariants.{Line, WithSurvivors}
use Rattle.causal_outcomes.specs.declared.merge_command.Mapping.TheVariants.{Mapped, Unmapped}
use Rattle.causal_tool.specs.declared.invocation.Invocation.{Invocation}
use Rattle.causal_tool.specs.declared.invocation.Invocation.TheVariants.{Trace, Draw, MappedReason, Merge, Run}

-- what `replays` reports besides a stray: JSON has the survivors too
abbrev pub stray_detail_of : Form → StrayDetail
stray_detail_of Lines = Line
stray_detail_of Json = WithSurvivors

-- what a command requests: `explain` without a bound f requests all bounds
abbrev pub invocation_of : Subcommand → Invocation
invocation_of (Audit faults until.End form workers limits) = Trace (Verdict faults workers) form limits
invocation_of (Audit faults until.Breach form workers limits) = Trace (Breach faults workers Checkpoints) form limits
invocation_of (Audit faults until.LiveBreach form workers limits) = Trace (Breach faults workers Live) form limits
invocation_of (Explain (Some faults) form workers limits) = Trace (Reason faults workers) form limits
invocation_of (Explain None form workers limits) = Trace (Range workers) form limits
invocation_of (ExplainByMap faults workers limits) = MappedReason faults workers limits
invocation_of (Replays form workers limits) = Trace (question_on.Replays workers (stray_detail_of form)) form limits
invocation_of (command.Draw faults around only_breach workers limits) = Draw faults workers limits (record { around = around; only_focus = only_breach })
invocation_of (command.Merge workers limits true) = Merge workers limits Mapped
invocation_of (command.Merge workers limits false) = Merge workers limits Unmapped
invocation_of command.Run = Run

-- a question on a trace, a picture of it, or a merge is requested with 1 to 64 workers
abbrev pub HasWorkerCountInRange : Invocation → Type 0
HasWorkerCountInRange (Trace question form limits) = HasFewWorkers question
HasWorkerCountInRange (Draw faults workers limits selection) = (1 ≤ workers) × (workers ≤ 64)
HasWorkerCountInRange (MappedReason faults workers limits) = (1 ≤ workers) × (workers ≤ 64)
HasWorkerCountInRange (Merge workers limits mapping) = (1 ≤ workers) × (workers ≤ 64)
HasWorkerCountInRange _ = ⊤
