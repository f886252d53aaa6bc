-- The entry that writes a determinant to stable storage.
use Rattle.std.specs.Prelude.{Bool, false}
use Rattle.causal_name.specs.declared.Det.{Det}
use Rattle.causal_name.specs.Names.{same_det}
use Rattle.causal_trace.specs.declared.entry.Entry.{Entry}
use Rattle.causal_trace.specs.declared.entry.Entry.TheVariants.{Stable}

-- whether an entry writes d to stable storage
abbrev pub stores : Det → Entry → Bool
stores d (Stable det) = same_det d det
stores d _ = false
