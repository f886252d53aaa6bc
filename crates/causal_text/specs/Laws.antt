-- Laws of all texts and recordings: reading is unique, the canonical text is read back.
use Rattle.std.specs.Prelude.{◌≡◌, ◌⊎◌, ◌≤◌, ◌++◌, ℕ, List, length}
use Rattle.causal_trace.specs.declared.entry.Entry.{Entry}
use Rattle.causal_trace.specs.Rows.{Recording, IsWellFormed, FitsLimits}
use Rattle.causal_text.specs.Prefixes.{HasPrefixSpelling}
use Rattle.causal_lines.specs.Canonical.{canonical_text}
use Rattle.causal_line.specs.Stages.{max_text_len}
use Rattle.causal_text.specs.Spelling.{SpellsWithin, IsFirstFaultWithin}
use Rattle.causal_line.specs.declared.kind.TextFault.{TextFault}

-- under any limits, a text spells one recording or has one first error, and never both
pub record ReadingIsUnique (most : ℕ) : Type 0 where
  pub one_recording : (text : List ℕ) (r s : Recording) → SpellsWithin most text r → SpellsWithin most text s → r ≡ s
  pub one_fault : (text : List ℕ) (f g : TextFault) → IsFirstFaultWithin most text f → IsFirstFaultWithin most text g → f ≡ g
  pub not_both : (text : List ℕ) (r : Recording) (f : TextFault) → SpellsWithin most text r → IsFirstFaultWithin most text f → ⊥
  pub one_of_them : (text : List ℕ) → ((r : Recording) × SpellsWithin most text r) ⊎ ((f : TextFault) × IsFirstFaultWithin most text f)

-- the canonical text of a well-formed recording within limits spells it
abbrev pub CanonicalTextReadsBack : Type 0
CanonicalTextReadsBack = (most : ℕ) (r : Recording) → 1 ≤ most → IsWellFormed r → FitsLimits most r → SpellsWithin most (canonical_text r) r

-- the canonical text of a well-formed recording within limits is within their limit of a text
abbrev pub CanonicalIsWithinLimit : Type 0
CanonicalIsWithinLimit = (most : ℕ) (r : Recording) → 1 ≤ most → IsWellFormed r → FitsLimits most r → length (canonical_text r) ≤ max_text_len most

-- if a prefix of a text spells r so far, then r is a prefix of the recording that the text spells
abbrev pub PrefixTextPrefixTrace : Type 0
PrefixTextPrefixTrace =
    (most : ℕ) (text : List ℕ) (whole r : Recording) → SpellsWithin most text whole → HasPrefixSpelling most text r
    → (later : List Entry) × (whole.processes ≡ r.processes) × (whole.past ≡ later ++ r.past)
