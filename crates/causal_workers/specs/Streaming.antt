-- A verdict on a prefix of a text. `most` is the maximum number of entries of a trace.
use Rattle.std.specs.Prelude.{◌≡◌, ◌≢◌, ℕ, Bool, true, List, ◌++◌, length, Option}
use Rattle.std.specs.Int.{is_power_of_two}
use Rattle.causal_trace.specs.Past.{deliveries_in}
use Rattle.causal_trace.specs.Rows.{Recording}
use Rattle.causal_trace.specs.Judgement.{IsSafeTrace}
use Rattle.causal_text.specs.FaultContexts.{ExplainsReadErrorWithin}
use Rattle.causal_text.specs.Prefixes.{HasPrefixSpelling, SpellsSoFar}
use Rattle.causal_line.specs.Lines.{IsComplete}
use Rattle.causal_text.specs.Spelling.{SpellsWithin}
use Rattle.causal_text.specs.Streams.{StopsOnceDecided}
use Rattle.causal_text.specs.declared.context_reading.ReadError.TheVariants as read_error
use Rattle.causal_line.specs.declared.kind.TextKind.TheVariants as kind
use Rattle.causal_audit.specs.declared.verdict.Verdict.TheVariants.{Accept}
use Rattle.causal_audit.specs.Verdicts.{IsVerdict}
use Rattle.causal_workers.specs.Judgements.{IsJudgementWithin}
use Rattle.causal_workers.specs.declared.looks.Looks.{Looks}
use Rattle.causal_workers.specs.declared.looks.Looks.TheVariants.{Checkpoints, Live}
use Rattle.causal_workers.specs.declared.streaming.StreamVerdict.{StreamVerdict}
use Rattle.causal_workers.specs.declared.streaming.StreamVerdict.TheVariants.{Early, Whole}
use Rattle.causal_workers.specs.declared.streaming.VerdictError.{VerdictError}
use Rattle.causal_workers.specs.declared.streaming.VerdictError.TheVariants.{Input, Audit}
use Rattle.causal_audit.specs.declared.judged.Judged.{Judged}

-- whether a trace of this many entries is audited: 1, 2, 4, 8 and so on
abbrev pub is_checkpoint_length : ℕ → Bool
is_checkpoint_length entries = is_power_of_two entries

-- a trace of this many entries may be audited while it is read: only at a checkpoint; in a live run, at any time
abbrev pub IsLook : Looks → ℕ → Type 0
IsLook Checkpoints entries = is_checkpoint_length entries ≡ true
IsLook Live entries = Unit {0}

-- each audit at a checkpoint of this text accepts
abbrev pub HasNoEarlyBreach : ℕ → List ℕ → ℕ → Type 0
HasNoEarlyBreach most text f = (r : Recording) → HasPrefixSpelling most text r → is_checkpoint_length (length r.past) ≡ true → IsSafeTrace r f

-- the complete lines of these bytes contain a recording that is audited, whose verdict does not accept
pub record IsBreachSoFar (looks : Looks) (most : ℕ) (bytes : List ℕ) (f : ℕ) (judged : Judged) : Type 0 where
  pub recording : Recording
  pub says : SpellsSoFar most bytes recording
  pub looked : IsLook looks (length recording.past)
  pub verdict : IsVerdict recording f judged.verdict
  pub breach : judged.verdict ≢ Accept
  pub entries : judged.entries ≡ length recording.past
  pub deliveries : judged.deliveries ≡ deliveries_in recording.past

-- this is the judgement of an audit that does not accept, as soon as `line` is read; each at a checkpoint before accepts
pub record IsEarlyBreach (looks : Looks) (most : ℕ) (text : List ℕ) (f : ℕ) (judged : Judged) : Type 0 where
  pub before : List ℕ
  pub line : List ℕ
  pub more : List ℕ
  pub split : text ≡ (before ++ line) ++ more
  pub complete : IsComplete line
  pub none : HasNoEarlyBreach most before f
  pub breach : IsBreachSoFar looks most (before ++ line) f judged

-- the verdict on a text: the judgement of an audit that does not accept, after checkpoints that do; or that of the whole
-- text, each of whose checkpoints accepts
abbrev pub IsStreamVerdict : Looks → ℕ → List ℕ → ℕ → StreamVerdict → Type 0
IsStreamVerdict looks most text f (Early judged) = IsEarlyBreach looks most text f judged
IsStreamVerdict looks most text f (Whole judged) = HasNoEarlyBreach most text f × IsJudgementWithin most text f judged

-- why a text got no verdict; an error of the text other than `NoMemory` is reported only if all checkpoints accept
abbrev pub ExplainsVerdictError : ℕ → List ℕ → ℕ → VerdictError → Type 0
ExplainsVerdictError most text f (Input read_error.Source) = Unit {0}
ExplainsVerdictError most text f (Input (read_error.Text rejected)) =
    ExplainsReadErrorWithin most text (read_error.Text rejected) × (rejected.fault.kind ≢ kind.NoMemory → HasNoEarlyBreach most text f)
ExplainsVerdictError most text f (Audit fault) = Unit {0}

-- the bytes consumed of a source decide nothing of its text, nor does an audit at a checkpoint in them, but for one last
-- piece at most
pub record StopsOnceJudged (most f : ℕ) (old new : Option (List ℕ)) : Type 0 where
  pub reading : StopsOnceDecided most old new
  pub none : HasNoEarlyBreach most reading.before f

-- the law: a verdict of an audit that does not accept is the verdict on the run that the whole text spells, if any
abbrev pub EarlyBreachIsFinal : Type 0
EarlyBreachIsFinal =
    (looks : Looks) (most : ℕ) (text : List ℕ) (f : ℕ) (judged : Judged) (whole : Recording) → IsEarlyBreach looks most text f judged → SpellsWithin most text whole
    → IsVerdict whole f judged.verdict
