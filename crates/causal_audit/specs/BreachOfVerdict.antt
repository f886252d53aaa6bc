-- The breach that a verdict describes.
use Rattle.std.specs.Prelude.{Option, Some, None}
use Rattle.causal_audit.specs.declared.breach.Breach.{Breach}
use Rattle.causal_audit.specs.declared.verdict.Verdict.{Verdict}
use Rattle.causal_audit.specs.declared.verdict.Verdict.TheVariants.{Accept, Exceeded, Orphan}

-- the breach of an `Orphan` verdict; None for another verdict
abbrev pub breach_of : Verdict → Option Breach
breach_of Accept = None
breach_of (Exceeded t down) = None
breach_of (Orphan t k crash orphan) = Some (record { instant = t; delivery = k; crash = crash; orphan = orphan })
