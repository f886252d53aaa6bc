-- The answers to questions on the text of a trace.
-- `most` is the maximum number of entries of a trace.
use Rattle.std.specs.Prelude.{◌≡◌, ◌≢◌, ◌⊎◌, ℕ, List, [], length}
use Rattle.causal_trace.specs.Past.{deliveries_in}
use Rattle.causal_trace.specs.Rows.{Recording}
use Rattle.causal_trace.specs.Survivors.{IsFollowed}
use Rattle.causal_line.specs.declared.kind.TextFault.{TextFault}
use Rattle.causal_text.specs.Spelling.{IsFirstFaultWithin, SpellsWithin}
use Rattle.causal_audit.specs.declared.judged.Judged.{Judged}
use Rattle.causal_audit.specs.declared.verdict.Verdict.TheVariants.{Accept}
use Rattle.causal_explain.specs.declared.range.SafeRange.{SafeRange}
use Rattle.causal_explain.specs.Ranges.{IsSafeRange}
use Rattle.causal_facts.specs.declared.stray.Stray.{Stray}
use Rattle.causal_replays.specs.Strays.{IsFirstStray}
use Rattle.causal_workers.specs.declared.looks.Looks.{Looks}
use Rattle.causal_workers.specs.Judgements.{IsJudgementWithin}
use Rattle.causal_workers.specs.Streaming.{HasNoEarlyBreach, IsEarlyBreach}
use Rattle.causal_answers.specs.declared.bounds.Bounds.{Bounds}
use Rattle.causal_facts.specs.declared.fact.Fact.{Fact}
use Rattle.causal_answers.specs.declared.finding.Finding.{Finding}
use Rattle.causal_answers.specs.declared.finding.Finding.TheVariants as finding
use Rattle.causal_answers.specs.declared.answer.Answer.{Answer}
use Rattle.causal_answers.specs.declared.answer.Answer.TheVariants.{Found, Ranges}
use Rattle.causal_report.specs.Facts.{AreFacts, AreSurvivorFacts}
use Rattle.causal_outcomes.specs.declared.ended.Ended.{Ended}
use Rattle.causal_outcomes.specs.declared.ended.Ended.TheVariants.{Accepted, Breached, Ranged, Followed, Strayed, Faulted}
use Rattle.causal_commands.specs.declared.question.Question.{Question}
use Rattle.causal_commands.specs.declared.question.Question.TheVariants.{Verdict, Breach, Reason, Range, Replays}
use Rattle.causal_commands.specs.declared.question.StrayDetail.{StrayDetail}
use Rattle.causal_commands.specs.declared.question.StrayDetail.TheVariants.{Line, WithSurvivors}
use Rattle.causal_commands.specs.Ranges.{ranges_of}

-- ---- what an answer contains

-- this finding and the facts that explain it
abbrev pub IsFound : Finding → List Fact → Answer → Type 0
IsFound x xs (Found finding facts) = (finding ≡ x) × (facts.items ≡ xs)
IsFound x xs (Ranges ranges) = ⊥

-- these ranges of f
abbrev pub AreRanges : List Bounds → Answer → Type 0
AreRanges xs (Found finding facts) = ⊥
AreRanges xs (Ranges ranges) = ranges.items ≡ xs

-- ---- answers to each question, by the ending

-- the text's first error
abbrev pub IsFaultAnswer : ℕ → List ℕ → Answer → Type 0
IsFaultAnswer most text answer = (fault : TextFault) × IsFirstFaultWithin most text fault × IsFound (finding.Fault fault) [] answer

-- the verdict for f on the trace, or the first error
abbrev pub IsVerdictAnswer : ℕ → List ℕ → ℕ → Ended → Answer → Type 0
IsVerdictAnswer most text f Accepted answer = (judged : Judged) × IsJudgementWithin most text f judged × (judged.verdict ≡ Accept) × IsFound (finding.Verdict f judged) [] answer
IsVerdictAnswer most text f Breached answer = (judged : Judged) × IsJudgementWithin most text f judged × (judged.verdict ≢ Accept) × IsFound (finding.Verdict f judged) [] answer
IsVerdictAnswer most text f Faulted answer = IsFaultAnswer most text answer
IsVerdictAnswer most text f _ answer = ⊥

-- the breach that the first early audit finds
abbrev pub IsEarlyBreachAnswer : Looks → ℕ → List ℕ → ℕ → Answer → Type 0
IsEarlyBreachAnswer looks most text f answer = (judged : Judged) × IsEarlyBreach looks most text f judged × IsFound (finding.EarlyBreach f judged) [] answer

-- the breach that the first early audit finds; if none does, the verdict on the whole text, or its first error
abbrev pub IsEarlyAnswer : Looks → ℕ → List ℕ → ℕ → Ended → Answer → Type 0
IsEarlyAnswer looks most text f Breached answer = IsEarlyBreachAnswer looks most text f answer ⊎ (HasNoEarlyBreach most text f × IsVerdictAnswer most text f Breached answer)
IsEarlyAnswer looks most text f ended answer = HasNoEarlyBreach most text f × IsVerdictAnswer most text f ended answer

-- the text spells a trace with this verdict for f, which these facts explain
pub record IsExplained (most : ℕ) (text : List ℕ) (f : ℕ) (judged : Judged) (facts : List Fact) : Type 0 where
  pub judgement : IsJudgementWithin most text f judged
  pub explains : AreFacts judgement.recording f judged.verdict facts

-- the verdict for f on the trace and the facts that explain it
abbrev pub IsExplainedAnswer : ℕ → List ℕ → ℕ → Judged → Answer → Type 0
IsExplainedAnswer most text f judged answer = (facts : List Fact) × IsExplained most text f judged facts × IsFound (finding.Verdict f judged) facts answer

-- the verdict for f on the trace and the facts that explain it, or the first error
abbrev pub IsReasonAnswer : ℕ → List ℕ → ℕ → Ended → Answer → Type 0
IsReasonAnswer most text f Accepted answer = (judged : Judged) × IsExplainedAnswer most text f judged answer × (judged.verdict ≡ Accept)
IsReasonAnswer most text f Breached answer = (judged : Judged) × IsExplainedAnswer most text f judged answer × (judged.verdict ≢ Accept)
IsReasonAnswer most text f Faulted answer = IsFaultAnswer most text answer
IsReasonAnswer most text f _ answer = ⊥

-- the bounds f for which the trace is safe, or the first error
abbrev pub IsRangeAnswer : ℕ → List ℕ → Ended → Answer → Type 0
IsRangeAnswer most text Ranged answer =
    (recording : Recording) × (range : SafeRange) × SpellsWithin most text recording × IsSafeRange recording range × AreRanges (ranges_of range) answer
IsRangeAnswer most text Faulted answer = IsFaultAnswer most text answer
IsRangeAnswer most text _ answer = ⊥

-- what is reported besides a stray: nothing, or who has which of the two determinants
abbrev pub AreDetails : StrayDetail → Recording → Stray → List Fact → Type 0
AreDetails Line r stray facts = facts ≡ []
AreDetails WithSurvivors r stray facts = AreSurvivorFacts r stray facts

-- a stray with these details
abbrev pub IsStrayAnswer : StrayDetail → Recording → Stray → Answer → Type 0
IsStrayAnswer detail r stray answer = (facts : List Fact) × AreDetails detail r stray facts × IsFound (finding.Strayed stray) facts answer

-- the recoveries of a recording follow what survives, or its first stray
abbrev pub IsReplaysOf : StrayDetail → Recording → Ended → Answer → Type 0
IsReplaysOf detail r Followed answer = IsFollowed r × IsFound (finding.Followed (length r.past) (deliveries_in r.past)) [] answer
IsReplaysOf detail r Strayed answer = (stray : Stray) × IsFirstStray r stray × IsStrayAnswer detail r stray answer
IsReplaysOf detail r _ answer = ⊥

-- whether the recoveries of the trace follow what survives, or the first error
abbrev pub IsReplaysAnswer : ℕ → StrayDetail → List ℕ → Ended → Answer → Type 0
IsReplaysAnswer most detail text Faulted answer = IsFaultAnswer most text answer
IsReplaysAnswer most detail text ended answer = (recording : Recording) × SpellsWithin most text recording × IsReplaysOf detail recording ended answer

-- ---- the answer to a question

-- the answer to a question on a text, for this ending
abbrev pub IsAnswer : ℕ → Question → List ℕ → Ended → Answer → Type 0
IsAnswer most (Verdict faults workers) text ended answer = IsVerdictAnswer most text faults ended answer
IsAnswer most (Breach faults workers looks) text ended answer = IsEarlyAnswer looks most text faults ended answer
IsAnswer most (Reason faults workers) text ended answer = IsReasonAnswer most text faults ended answer
IsAnswer most (Range workers) text ended answer = IsRangeAnswer most text ended answer
IsAnswer most (Replays workers detail) text ended answer = IsReplaysAnswer most detail text ended answer
