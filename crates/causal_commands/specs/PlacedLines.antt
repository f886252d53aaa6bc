-- The lines of facts, with the places of their entries in recordings.
use Rattle.std.specs.Prelude.{◌≡◌, ℕ, ◌-◌, ◌==◌, nat_lt, if◌then◌else◌, List, [], ◌∷◌, ◌++◌, length, take, Option, Some, None, Result, Ok, Err, slice_get}
use Rattle.std.specs.List.{slice_split}
use Rattle.causal_line.specs.declared.kind.TextKind.{TextKind}
use Rattle.causal_merge.specs.Maps.{read_place}
use Rattle.causal_merge.specs.Reading.{max_input_len}
use Rattle.causal_facts.specs.declared.fact.Fact.{Fact}
use Rattle.causal_facts.specs.Entries.{entry_of}
use Rattle.causal_answers.specs.Lines.{AreLines, fact_head}
use Rattle.causal_answers.specs.Sentences.{IsSentence}
use Rattle.causal_outcomes.specs.declared.map_fault.MapFault.{MapFault}
use Rattle.causal_outcomes.specs.declared.map_fault.MapFault.TheVariants.{Big, Length, Entry}

-- ---- the lines of a map

-- the parts before, between and after the line feeds
abbrev pub split_at_line_feeds : List ℕ → List (List ℕ)
split_at_line_feeds text = slice_split (λ byte. byte == 10) text

-- the lines of a text, each ended by a line feed; bytes after the last line feed are ignored
abbrev pub whole_lines : List ℕ → List (List ℕ)
whole_lines text = take (length (split_at_line_feeds text) - 1) (split_at_line_feeds text)

-- ---- the place of an entry

-- the fields of the place of the entry at a position, by its line of a map; else the error of that line
abbrev pub place_or_fault : ℕ → Result (List ℕ) TextKind → Result (List ℕ) MapFault
place_or_fault position (Ok place) = Ok place
place_or_fault position (Err kind) = Err (Entry position kind)

abbrev pub place_at : ℕ → List ℕ → Result (List ℕ) MapFault
place_at position line = place_or_fault position (read_place position line)

-- the fields of the place of an entry, by the lines of a map; none if the map has no line for it
abbrev pub place_by : ℕ → Option (List ℕ) → Result (List ℕ) MapFault
place_by position (Some line) = place_at position line
place_by position None = Ok []

-- the fields of the place of an entry, if there is one
abbrev pub named_place : List (List ℕ) → Option ℕ → Result (List ℕ) MapFault
named_place map (Some position) = place_by position (slice_get map position)
named_place map None = Ok []

-- ---- the error of a map

-- the error of a place, if it is one, or else a later error
abbrev pub fault_or : Result (List ℕ) MapFault → Option MapFault → Option MapFault
fault_or (Ok place) later = later
fault_or (Err fault) later = Some fault

-- the first error of the places of the entries of facts, if there is one, by the lines of a map
abbrev pub first_place_fault : List (List ℕ) → List Fact → Option MapFault
first_place_fault map [] = None
first_place_fault map (fact ∷ later) = fault_or (named_place map (entry_of fact)) (first_place_fault map later)

-- the error of the lines of a map for facts on a trace with this many entries: their number, or the first error of a place
abbrev pub fault_of_lines : List (List ℕ) → ℕ → List Fact → Option MapFault
fault_of_lines map entries facts = if length map == entries then first_place_fault map facts else Some (Length (length map) entries)

-- the same by the text of a map, which may be too long. `most` is the maximum number of entries, which determines the maximum size of a map.
abbrev pub map_fault : ℕ → List ℕ → ℕ → List Fact → Option MapFault
map_fault most map entries facts = if nat_lt (max_input_len most) (length map) then Some Big else fault_of_lines (whole_lines map) entries facts

-- ---- lines

-- the line of a fact with the fields of the place of its entry before its sentence
abbrev pub IsPlacedLine : List (List ℕ) → Fact → List ℕ → Type 0
IsPlacedLine map fact text =
    (place : List ℕ) × (sentence : List ℕ) × (named_place map (entry_of fact) ≡ Ok place) × IsSentence sentence × (text ≡ fact_head fact ++ (place ++ sentence))

-- the lines of facts with the places of their entries
abbrev pub ArePlacedLines : List (List ℕ) → List Fact → List ℕ → Type 0
ArePlacedLines map facts text = AreLines (IsPlacedLine map) facts text

-- these bytes, and then those lines
abbrev pub IsPlacedText : List (List ℕ) → List Fact → List ℕ → List ℕ → Type 0
IsPlacedText map facts front text = (reason : List ℕ) × ArePlacedLines map facts reason × (text ≡ front ++ reason)
