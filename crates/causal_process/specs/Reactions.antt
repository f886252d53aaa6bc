-- The answers of a process that is defined by its reaction to one input.
-- A process without state answers `map reaction`.
use Rattle.std.specs.Prelude.{List, [], ◌∷◌}
use Rattle.causal_process.specs.declared.message.Input.{Input}
use Rattle.causal_process.specs.declared.message.Outgoing.{Outgoing}

-- the answers from this state on: `reaction` is what a state sends to an input, and `next` is the state after it
abbrev pub answers_from : {S : Type 0} →
    (S → Input → List Outgoing) → (S → Input → S) → S → List Input → List (List Outgoing)
answers_from reaction next state [] = []
answers_from reaction next state (input ∷ inputs) =
    reaction state input ∷ answers_from reaction next (next state input) inputs
