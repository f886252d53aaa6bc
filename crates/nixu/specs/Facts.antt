-- The structs of the facts that explain the verdict on a recording, and what is written of them.
use Rattle.std.specs.Prelude.{◌≡◌, ◌++◌, ℕ, List, length, take, drop, min, map}
use Rattle.causal_trace.specs.Rows.{Recording}
use Rattle.causal_audit.specs.declared.judged.Judged.{Judged}
use Rattle.causal_audit.specs.declared.verdict.Verdict.{Verdict}
use Rattle.causal_audit.specs.Judgements.{IsJudgedOf}
use Rattle.causal_facts.specs.declared.fact.Fact.{Fact}
use Rattle.causal_report.specs.Facts.{AreFacts}
use Rattle.causal_text.specs.Prefixes.{SpellsLines}
use Rattle.causal_text.specs.Spelling.{Spells}
use Rattle.nixu.specs.declared.c_fact.CFact.{CFact}
use Rattle.nixu.specs.declared.c_verdict.CVerdict.{CVerdict}
use Rattle.nixu.specs.CFacts.{c_fact_of}
use Rattle.nixu.specs.CVerdicts.{c_verdict_of}

-- the structs of the facts that explain the verdict, and then of the first stray, if there is one
abbrev pub AreStructs : Recording → ℕ → Verdict → List CFact → Type 0
AreStructs r f verdict structs = (facts : List Fact) × AreFacts r f verdict facts × (structs ≡ map c_fact_of facts)

-- the array starts with as many of the facts as fit, its rest is unchanged, and their number is returned
pub record AreFactsCopied (facts old new : List CFact) (needed : ℕ) : Type 0 where
  pub front : new ≡ take (min (length old) (length facts)) facts ++ drop (min (length old) (length facts)) old
  pub number : needed ≡ length facts

-- the struct is the verdict on the recording for f, and the facts that explain it are copied out
pub record CopiesOutExplanation (r : Recording) (f : ℕ) (verdict : CVerdict) (old new : List CFact) (needed : ℕ) : Type 0 where
  pub judged : Judged
  pub judges : IsJudgedOf r f judged
  pub struct : verdict ≡ c_verdict_of judged
  pub facts : List CFact
  pub explain : AreStructs r f judged.verdict facts
  pub copied : AreFactsCopied facts old new needed

-- the text spells a trace, whose verdict for f is explained
abbrev pub IsExplainedText : List ℕ → ℕ → CVerdict → List CFact → List CFact → ℕ → Type 0
IsExplainedText text f verdict old new needed = (r : Recording) × Spells text r × CopiesOutExplanation r f verdict old new needed

-- the complete lines of the bytes spell entries, whose verdict for f is explained
abbrev pub IsExplainedSoFar : ℕ → List ℕ → ℕ → CVerdict → List CFact → List CFact → ℕ → Type 0
IsExplainedSoFar most bytes f verdict old new needed = (r : Recording) × SpellsLines most bytes r × CopiesOutExplanation r f verdict old new needed

-- the header is not among the complete lines of the bytes
pub record HasNoHeader (most : ℕ) (bytes : List ℕ) : Type 0 where
  pub none : (r : Recording) → SpellsLines most bytes r → ⊥

-- neither the array nor the number is written
abbrev pub AreFactsUntouched : List CFact → List CFact → ℕ → ℕ → Type 0
AreFactsUntouched old new number now = (new ≡ old) × (now ≡ number)
