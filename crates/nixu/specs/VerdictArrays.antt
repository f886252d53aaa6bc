-- Arrays of C verdicts on one trace, one verdict for each value of f.
use Rattle.std.specs.Prelude.{◌≡◌, ℕ, List, [], ◌∷◌, ◌++◌, length, drop, replicate}
use Rattle.causal_trace.specs.Limits.{default_entries}
use Rattle.causal_trace.specs.Rows.{Recording}
use Rattle.causal_text.specs.Spelling.{SpellsWithin}
use Rattle.causal_audit.specs.Judgements.{IsJudgedOf}
use Rattle.causal_audit.specs.declared.judged.Judged.{Judged}
use Rattle.nixu.specs.declared.c_verdict.CVerdict.{CVerdict}
use Rattle.nixu.specs.CVerdicts.{c_verdict_of, IsFaultOfTextWithin}

-- the struct is the verdict on the recording for f
abbrev pub IsVerdictStruct : Recording → ℕ → CVerdict → Type 0
IsVerdictStruct r f verdict = (judged : Judged) × IsJudgedOf r f judged × (verdict ≡ c_verdict_of judged)

-- each struct is the verdict for the value of f at its index
abbrev pub AreVerdictStructs : Recording → List ℕ → List CVerdict → Type 0
AreVerdictStructs r [] [] = Unit {0}
AreVerdictStructs r (f ∷ fs) (verdict ∷ more) = IsVerdictStruct r f verdict × AreVerdictStructs r fs more
AreVerdictStructs r fs verdict = ⊥

-- the first structs are the verdicts on the recording; the others are unchanged
abbrev pub FirstAreVerdicts : Recording → List ℕ → List CVerdict → List CVerdict → Type 0
FirstAreVerdicts r faults old new = (verdict : List CVerdict) × AreVerdictStructs r faults verdict × (new ≡ verdict ++ drop (length faults) old)

-- the text spells a trace of at most `most` entries, and the first structs are the verdicts on it
abbrev pub AreVerdictsOfTextWithin : ℕ → List ℕ → List ℕ → List CVerdict → List CVerdict → Type 0
AreVerdictsOfTextWithin most text faults old new = (r : Recording) × SpellsWithin most text r × FirstAreVerdicts r faults old new

-- the first n structs contain the first error of the text; the others are unchanged
abbrev pub AreFaultsOfTextWithin : ℕ → List ℕ → ℕ → List CVerdict → List CVerdict → Type 0
AreFaultsOfTextWithin most text n old new = (verdict : CVerdict) × IsFaultOfTextWithin most text verdict × (new ≡ replicate n verdict ++ drop n old)

-- the first structs are the verdicts on the text's trace, under the default limits
abbrev pub AreVerdictsOfText : List ℕ → List ℕ → List CVerdict → List CVerdict → Type 0
AreVerdictsOfText text faults old new = AreVerdictsOfTextWithin default_entries text faults old new

-- the first n structs contain the first error of the text, under the default limits
abbrev pub AreFaultsOfText : List ℕ → ℕ → List CVerdict → List CVerdict → Type 0
AreFaultsOfText text n old new = AreFaultsOfTextWithin default_entries text n old new
