-- The two laws of a process, stated over its answers alone.
-- `answers p inputs` contains, for each of these inputs, the list of what p sends to it if p is given them next.
use Rattle.std.specs.Prelude.{◌≡◌, List, ◌++◌, length, take}
use Rattle.causal_process.specs.declared.message.Input.{Input}
use Rattle.causal_process.specs.declared.message.Outgoing.{Outgoing}

-- there is one list of sends for each input
abbrev pub AnswersEach : {P : Type 0} → (P → List Input → List (List Outgoing)) → Type 0
AnswersEach {P} answers = (p : P) (inputs : List Input) → length (answers p inputs) ≡ length inputs

-- the answers to a prefix of a list are a prefix of the answers to the list: no process knows later inputs
abbrev pub AnswersInOrder : {P : Type 0} → (P → List Input → List (List Outgoing)) → Type 0
AnswersInOrder {P} answers =
    (p : P) (inputs later : List Input) → take (length inputs) (answers p (inputs ++ later)) ≡ answers p inputs
