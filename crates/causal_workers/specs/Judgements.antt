-- The judgement of a text: the verdict on the trace that it spells, with the trace's counts.
use Rattle.std.specs.Prelude.{◌≡◌, ◌≢◌, ℕ, List, length}
use Rattle.causal_trace.specs.Limits.{default_entries}
use Rattle.causal_trace.specs.Past.{deliveries_in}
use Rattle.causal_trace.specs.Rows.{Recording}
use Rattle.causal_text.specs.Spelling.{Spells, SpellsWithin, IsFirstFault}
use Rattle.causal_line.specs.declared.kind.TextKind.TheVariants as kind
use Rattle.causal_audit.specs.declared.verdict.Verdict.{Verdict}
use Rattle.causal_audit.specs.Verdicts.{IsVerdict}
use Rattle.causal_audit.specs.declared.judged.Judged.{Judged}
use Rattle.causal_workers.specs.declared.judgement.AuditTextFault.{AuditTextFault}
use Rattle.causal_workers.specs.declared.judgement.AuditTextFault.TheVariants.{Text, Audit}

-- the text spells a trace of at most `most` entries, with this verdict for f and these numbers of entries and
-- deliveries
pub record IsJudgementWithin (most : ℕ) (text : List ℕ) (f : ℕ) (judged : Judged) : Type 0 where
  pub recording : Recording
  pub spells : SpellsWithin most text recording
  pub verdict : IsVerdict recording f judged.verdict
  pub entries : judged.entries ≡ length recording.past
  pub deliveries : judged.deliveries ≡ deliveries_in recording.past

-- the judgement of a text under the default limits
abbrev pub IsJudgement : List ℕ → ℕ → Judged → Type 0
IsJudgement text f judged = IsJudgementWithin default_entries text f judged

-- no other verdict on the recording for f is correct
abbrev pub IsOnlyVerdict : Recording → ℕ → Verdict → Type 0
IsOnlyVerdict recording f verdict = (other : Verdict) → IsVerdict recording f other → other ≡ verdict

-- an error of the text other than `NoMemory` is its first error, and only a text that spells a trace is audited
abbrev pub IsFaultOf : List ℕ → AuditTextFault → Type 0
IsFaultOf text (Text fault) = fault.kind ≢ kind.NoMemory → IsFirstFault text fault
IsFaultOf text (Audit fault) = (recording : Recording) × Spells text recording
