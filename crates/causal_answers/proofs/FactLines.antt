-- The line of a fact, from its parts.
use Rattle.std.proofs.Common.{◌≡◌, ◌++◌, List, ℕ, refl, append_assoc}
use Rattle.std.specs.Prelude.{codes}
use Rattle.causal_facts.specs.declared.fact.Fact.{Fact}
use Rattle.causal_answers.specs.Lines.{IsFactLine, fact_head}
use Rattle.causal_answers.specs.Sentences.{IsPrintable, IsSentence}

-- words between a colon and a line feed
pub sentence_written : (x y z w : List ℕ) → y ≡ x ++ codes ": " → ((words : List ℕ) × IsPrintable words × (z ≡ y ++ words)) → w ≡ z ++ codes "\n"
    → (text : List ℕ) × IsSentence text × (w ≡ x ++ text)
sentence_written x y z w first (words, printable, second) last =
    (codes ": " ++ (words ++ codes "\n"), (words, printable, refl), rw (last, second, first) (simp append_assoc))

-- a sentence after the word and the fields
pub line_written : (x y z : List ℕ) (fact : Fact) → y ≡ x ++ fact_head fact → ((sentence : List ℕ) × IsSentence sentence × (z ≡ y ++ sentence))
    → (text : List ℕ) × IsFactLine fact text × (z ≡ x ++ text)
line_written x y z fact first (sentence, is, last) =
    (fact_head fact ++ sentence, (sentence, is, refl), rw (last, first) (append_assoc x (fact_head fact) sentence))
