-- The lines of facts.
use Rattle.std.specs.Prelude.{◌≡◌, ℕ, List, [], ◌∷◌, ◌++◌}
use Rattle.causal_facts.specs.declared.fact.Fact.{Fact}
use Rattle.causal_facts.specs.Words.{word_of}
use Rattle.causal_facts.specs.declared.form.Form.TheVariants.{Lines}
use Rattle.causal_answers.specs.Fields.{fields_of}
use Rattle.causal_answers.specs.Sentences.{IsSentence}

-- a line for each item, in order
abbrev pub AreLines : {X : Type 0} → (X → List ℕ → Type 0) → List X → List ℕ → Type 0
AreLines IsLine [] text = text ≡ []
AreLines IsLine (x ∷ xs) text = (line : List ℕ) × (rest : List ℕ) × IsLine x line × AreLines IsLine xs rest × (text ≡ line ++ rest)

-- the word and the fields of a fact: `down process=1 line=8`
abbrev pub fact_head : Fact → List ℕ
fact_head fact = word_of fact ++ fields_of Lines fact

-- the line of a fact, its word and fields and then a sentence: `down process=1 line=8: process 1 is down since its crash`
abbrev pub IsFactLine : Fact → List ℕ → Type 0
IsFactLine fact text = (sentence : List ℕ) × IsSentence sentence × (text ≡ fact_head fact ++ sentence)

-- a line for each fact
abbrev pub AreFactLines : List Fact → List ℕ → Type 0
AreFactLines facts text = AreLines IsFactLine facts text
