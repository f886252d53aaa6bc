-- The verdict and counts of a recording.
use Rattle.std.specs.Prelude.{◌≡◌, ℕ, length}
use Rattle.causal_trace.specs.Past.{deliveries_in}
use Rattle.causal_trace.specs.Rows.{Recording}
use Rattle.causal_audit.specs.Verdicts.{IsVerdict}
use Rattle.causal_audit.specs.declared.judged.Judged.{Judged}

-- the verdict on the recording for f, with its numbers of entries and deliveries
pub record IsJudgedOf (r : Recording) (f : ℕ) (judged : Judged) : Type 0 where
  pub verdict : IsVerdict r f judged.verdict
  pub entries : judged.entries ≡ length r.past
  pub deliveries : judged.deliveries ≡ deliveries_in r.past
