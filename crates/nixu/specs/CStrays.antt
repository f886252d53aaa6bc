-- The C struct of a run's first stray, or of the first error of a text.
use Rattle.std.specs.Prelude.{◌≡◌, ℕ, List, Option, Some, None, MatchOption}
use Rattle.causal_line.specs.declared.kind.TextFault.{TextFault}
use Rattle.causal_facts.specs.declared.stray.Stray.{Stray}
use Rattle.causal_replays.specs.Strays.{IsFirstStray}
use Rattle.causal_text.specs.Spelling.{Spells, IsFirstFault}
use Rattle.causal_trace.specs.Rows.{Recording}
use Rattle.causal_trace.specs.Survivors.{IsFollowed}
use Rattle.nixu.specs.declared.c_stray.CStray.{CStray}
use Rattle.nixu.specs.Numbers.{kind_number}

-- the struct of a run's first stray, or of none
abbrev pub c_stray_of : Option Stray → CStray
c_stray_of None = record {
  kind = 0;
  instant = 0;
  rsn = 0;
  first = 0;
  second = 0;
  line = 0;
  fault = 0;
  process = 0;
}
c_stray_of (Some stray) = record {
  kind = 1;
  instant = stray.instant;
  rsn = stray.slot.rsn;
  first = stray.first;
  second = stray.second;
  line = 0;
  fault = 0;
  process = stray.slot.dest.0;
}

-- the struct of an error of a text
abbrev pub c_fault_stray : TextFault → CStray
c_fault_stray fault = record {
  kind = 3;
  instant = 0;
  rsn = 0;
  first = 0;
  second = 0;
  line = fault.line;
  fault = kind_number fault.kind;
  process = 0;
}

-- the struct is the first stray of the recording, or of none if its recoveries follow what survives
abbrev pub IsStrayStruct : Recording → CStray → Type 0
IsStrayStruct r c = (found : Option Stray) × MatchOption found (IsFollowed r) (IsFirstStray r) × (c ≡ c_stray_of found)

-- the text spells a trace, and the struct is its first stray, or of none
abbrev pub IsStrayOfText : List ℕ → CStray → Type 0
IsStrayOfText text c = (r : Recording) × Spells text r × IsStrayStruct r c

-- the text does not spell a trace, and the struct contains its first error
abbrev pub IsStrayFaultOfText : List ℕ → CStray → Type 0
IsStrayFaultOfText text c = (fault : TextFault) × IsFirstFault text fault × (c ≡ c_fault_stray fault)
