-- The lines of facts with places, or the first error of a place.
use Rattle.std.proofs.Common.{◌≡◌, ◌+◌, ◌<◌, ◌++◌, ◌∙◌, ℕ, List, [], ◌∷◌, Option, None, Some, Result, Ok, Err, length, drop, get_or, refl, ap, append_assoc}
use Rattle.std.proofs.lemmas.List.{drop_more}
use Rattle.causal_facts.specs.declared.fact.Fact.{Fact}
use Rattle.causal_facts.specs.Entries.{entry_of}
use Rattle.causal_answers.specs.Lines.{fact_head}
use Rattle.causal_answers.specs.Sentences.{IsSentence}
use Rattle.causal_outcomes.specs.declared.map_fault.MapFault.{MapFault}
use Rattle.causal_commands.specs.declared.placed_lines.PlaceError.{PlaceError}
use Rattle.causal_commands.specs.declared.placed_lines.PlaceError.TheVariants.{Map, NoMemory}
use Rattle.causal_commands.specs.Inside.Placing.{GivesError}
use Rattle.causal_commands.specs.PlacedLines.{fault_or, first_place_fault, named_place}

no_fault : (r : Result (List ℕ) MapFault) (later : Option MapFault) → fault_or r None ≡ None → fault_or r later ≡ later
no_fault (Ok place) later none = refl
no_fault (Err fault) later none = cc

own_fault : (r : Result (List ℕ) MapFault) (later : Option MapFault) (fault : MapFault) → fault_or r None ≡ Some fault → fault_or r later ≡ Some fault
own_fault (Ok place) later fault own = cc
own_fault (Err first) later fault own = own

module _ (map : List (List ℕ)) (xs : List Fact) (i : ℕ) (d : Fact) (within : i < length xs) (so_far : first_place_fault map xs ≡ first_place_fault map (drop i xs)) where
  -- if the next place has no error, the first error is among the later ones
  pub later_fault : first_place_fault map (get_or xs i d ∷ []) ≡ None → first_place_fault map xs ≡ first_place_fault map (drop (i + 1) xs)
  later_fault none = so_far ∙ ap (first_place_fault map) (drop_more xs i d within) ∙ no_fault (named_place map (entry_of (get_or xs i d))) (first_place_fault map (drop (i + 1) xs)) none

  -- the error of the next place is the first
  pub next_fault : (error : PlaceError) → GivesError error (first_place_fault map (get_or xs i d ∷ [])) → GivesError error (first_place_fault map xs)
  next_fault (Map fault) own =
      so_far ∙ ap (first_place_fault map) (drop_more xs i d within) ∙ own_fault (named_place map (entry_of (get_or xs i d))) (first_place_fault map (drop (i + 1) xs)) fault own
  next_fault NoMemory own = tt

-- the parts of a line, one after another
pub parts_written : (x y z w place sentence : List ℕ) (fact : Fact) → IsSentence sentence → y ≡ x ++ fact_head fact → z ≡ y ++ place → w ≡ z ++ sentence
    → (end : List ℕ) × IsSentence end × (w ≡ x ++ (fact_head fact ++ (place ++ end)))
parts_written x y z w place sentence fact is first second last = (sentence, is, rw (last, second, first) (simp append_assoc))
