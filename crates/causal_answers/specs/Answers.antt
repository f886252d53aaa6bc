-- Answers to questions on a trace, as lines and as JSON.
use Rattle.std.specs.Prelude.{◌≡◌, ℕ, ◌==◌, if◌then◌else◌, List, [], ◌∷◌, ◌++◌, length, codes, flat_map}
use Rattle.causal_answers.specs.declared.bounds.Bounds.{Bounds}
use Rattle.causal_facts.specs.declared.fact.Fact.{Fact}
use Rattle.causal_answers.specs.declared.finding.Finding.{Finding}
use Rattle.causal_facts.specs.declared.form.Form.{Form}
use Rattle.causal_facts.specs.declared.form.Form.TheVariants.{Lines, Json}
use Rattle.causal_answers.specs.declared.answer.Answer.{Answer}
use Rattle.causal_answers.specs.declared.answer.Answer.TheVariants.{Found, Ranges}
use Rattle.causal_answers.specs.Bounds.{bounds_line, bounds_objects}
use Rattle.causal_answers.specs.Fields.{object_start, fields_of}
use Rattle.causal_answers.specs.Findings.{finding_line, finding_members, finding_word}
use Rattle.causal_answers.specs.Lines.{AreFactLines}
use Rattle.causal_facts.specs.Words.{word_of}

-- ---- JSON

-- the object of a fact: `{"fact":"down","process":1,"line":8}`
abbrev pub fact_object : Fact → List ℕ
fact_object fact = object_start (codes "fact") (word_of fact) ++ (fields_of Json fact ++ codes "}")

-- a comma, and the object of a fact
abbrev pub next_fact : Fact → List ℕ
next_fact fact = codes "," ++ fact_object fact

-- an object for each fact, with commas between them
abbrev pub fact_objects : List Fact → List ℕ
fact_objects [] = []
fact_objects (fact ∷ more) = fact_object fact ++ flat_map next_fact more

-- the member `reason`: an array of facts
abbrev pub reason_array : List Fact → List ℕ
reason_array facts = codes ",\"reason\":[" ++ (fact_objects facts ++ codes "]")

-- that member, if there are facts
abbrev pub reason_member : List Fact → List ℕ
reason_member facts = if length facts == 0 then [] else reason_array facts

-- the object of a finding and the facts that explain it:
-- `{"verdict":"orphan","f":1,"instant":4,..,"reason":[{"fact":"delivery","line":3,..},..]}`
abbrev pub finding_object : Finding → List Fact → List ℕ
finding_object finding facts = object_start (codes "verdict") (finding_word finding) ++ (finding_members finding ++ (reason_member facts ++ codes "}\n"))

-- the object of ranges of f: `{"ranges":[{"verdict":"exceeded","to":0},{"verdict":"accept","from":1}]}`
abbrev pub ranges_object : List Bounds → List ℕ
ranges_object ranges = codes "{\"ranges\":[" ++ (bounds_objects ranges ++ codes "]}\n")

-- ---- answers

-- an answer: a line for the finding and each fact, or for each range of bounds; or one JSON object
abbrev pub IsAnswerText : Form → Answer → List ℕ → Type 0
IsAnswerText Lines (Found finding facts) text = (reason : List ℕ) × AreFactLines facts.items reason × (text ≡ finding_line finding ++ reason)
IsAnswerText Lines (Ranges ranges) text = text ≡ flat_map bounds_line ranges.items
IsAnswerText Json (Found finding facts) text = text ≡ finding_object finding facts.items
IsAnswerText Json (Ranges ranges) text = text ≡ ranges_object ranges.items
