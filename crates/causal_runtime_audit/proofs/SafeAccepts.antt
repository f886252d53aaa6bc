-- A safe recording has no first instant that fails.
use Rattle.std.proofs.Common.{refl}
use Rattle.causal_audit.specs.declared.verdict.Verdict.TheVariants.{Accept, Exceeded, Orphan}
use Rattle.causal_runtime_audit.specs.SafeVerdicts.{SafeTracesAreAccepted}

-- a verdict on a safe recording is `Accept`
pub safe_accepted : SafeTracesAreAccepted
safe_accepted r f Accept safe is = refl
safe_accepted r f (Exceeded t down) safe is = absurd (is.0.unsafe (safe t is.0.within))
safe_accepted r f (Orphan t k crash orphan) safe is = absurd (is.0.unsafe (safe t is.0.within))
