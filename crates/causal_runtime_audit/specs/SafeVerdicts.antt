-- The verdict on a safe recording, which is `Accept`.
use Rattle.std.specs.Prelude.{◌≡◌, ℕ}
use Rattle.causal_trace.specs.Rows.{Recording}
use Rattle.causal_trace.specs.Judgement.{IsSafeTrace}
use Rattle.causal_audit.specs.declared.verdict.Verdict.{Verdict}
use Rattle.causal_audit.specs.declared.verdict.Verdict.TheVariants.{Accept}
use Rattle.causal_audit.specs.Verdicts.{IsVerdict}

-- each verdict for f on a recording that is safe for f is `Accept`
abbrev pub SafeTracesAreAccepted : Type 0
SafeTracesAreAccepted = (r : Recording) (f : ℕ) (verdict : Verdict) → IsSafeTrace r f → IsVerdict r f verdict → verdict ≡ Accept

-- this is a verdict on the recording for f, and the only one
abbrev pub IsUniqueVerdict : Recording → ℕ → Verdict → Type 0
IsUniqueVerdict r f verdict = IsVerdict r f verdict × ((other : Verdict) → IsVerdict r f other → other ≡ verdict)
