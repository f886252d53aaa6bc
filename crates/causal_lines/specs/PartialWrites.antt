-- A write that stopped before all bytes were written.
use Rattle.std.specs.Prelude.{ℕ, ◌<◌, List, length, take, Option}
use Rattle.std.specs.Io.KnownBytes.{Appends}
use Rattle.causal_trace.specs.Rows.{Recording}
use Rattle.causal_lines.specs.Canonical.{canonical_text}
use Rattle.causal_lines.specs.declared.writing.WriteFault.{WriteFault}

-- exactly the first bytes were written, the number that the error contains, but not all
abbrev pub IsPartialWrite : List ℕ → Option (List ℕ) → Option (List ℕ) → WriteFault → Type 0
IsPartialWrite bytes old new fault = (fault.written < length bytes) × Appends old new (take fault.written bytes)

-- exactly the first bytes of the canonical text were written, the number that the error contains, but not all
abbrev pub IsPartialTraceWrite : Recording → Option (List ℕ) → Option (List ℕ) → WriteFault → Type 0
IsPartialTraceWrite r old new fault = IsPartialWrite (canonical_text r) old new fault
