-- Lemmas: answers that are defined by reactions satisfy the two laws of a process.
use Rattle.std.specs.Prelude.{◌≡◌, List, [], ◌∷◌, ◌++◌, length, take, map, refl}
use Rattle.std.proofs.Common.{ap, suc}
use Rattle.causal_process.specs.declared.message.Input.{Input}
use Rattle.causal_process.specs.declared.message.Outgoing.{Outgoing}
use Rattle.causal_process.specs.Reactions.{answers_from}

-- for a process without state, whose answers are `map reaction`
module _ (reaction : Input → List Outgoing) where
  pub map_each : (inputs : List Input) → length (map reaction inputs) ≡ length inputs
  map_each [] = refl
  map_each (input ∷ inputs) = ap suc (map_each inputs)

  pub map_in_order : (inputs later : List Input) →
      take (length inputs) (map reaction (inputs ++ later)) ≡ map reaction inputs
  map_in_order [] later = refl
  map_in_order (input ∷ inputs) later = ap (λ rest. reaction input ∷ rest) (map_in_order inputs later)

-- for a process with state, whose answers are `answers_from reaction next`
module _ {S : Type 0} (reaction : S → Input → List Outgoing) (next : S → Input → S) where
  pub from_each : (state : S) (inputs : List Input) → length (answers_from reaction next state inputs) ≡ length inputs
  from_each state [] = refl
  from_each state (input ∷ inputs) = ap suc (from_each (next state input) inputs)

  pub from_in_order : (state : S) (inputs later : List Input) →
      take (length inputs) (answers_from reaction next state (inputs ++ later)) ≡ answers_from reaction next state inputs
  from_in_order state [] later = refl
  from_in_order state (input ∷ inputs) later =
      ap (λ rest. reaction state input ∷ rest) (from_in_order (next state input) inputs later)
