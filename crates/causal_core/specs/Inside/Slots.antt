-- Slots that contain a box, and the step of the box of a slot.
use Rattle.std.specs.Prelude.{◌≡◌, ◌≤◌, ℕ, List, ◌∷◌, Option, Some, None, Result, IfOk, OnErr, is_some, length, map, slice_get}
use Rattle.std.specs.Global.{Vec}
use Rattle.causal_name.specs.declared.NoMemory.{NoMemory}
use Rattle.causal_process.specs.declared.message.Input.{Input}
use Rattle.causal_process.specs.declared.message.Outgoing.{Outgoing}
use Rattle.causal_core.specs.Boxes.{prepend_answer, box_answers, SameAnswers, SameElsewhere, StepsAt}

module _ {B : Type 0} (answers : B → List Input → List (List Outgoing)) where
  -- these sends are the box's first answer, and its later answers are those that would have followed the input
  abbrev pub BoxSteps : Input → List Outgoing → B → B → Type 0
  BoxSteps input sends old new = (inputs : List Input) → answers old (input ∷ inputs) ≡ sends ∷ answers new inputs

  -- the box of a slot steps with this input and these sends
  abbrev pub SlotSteps : Input → List Outgoing → Option B → Option B → Type 0
  SlotSteps input sends old new = (inputs : List Input) → box_answers answers old (input ∷ inputs) ≡ prepend_answer sends (box_answers answers new inputs)

-- the slot exists and contains a box
abbrev pub IsBox : {B : Type 0} → Option (Option B) → Type 0
IsBox (Some (Some b)) = Unit {0}
IsBox (Some None) = ⊥
IsBox None = ⊥

-- slot q contains a box
abbrev pub HasBox : {B : Type 0} → List (Option B) → ℕ → Type 0
HasBox slots q = IsBox (slice_get slots q)

-- the box of slot q was given the input and returned at most eight sends, or every box answers as before
pub record IsStepResult {B : Type 0} (answers : B → List Input → List (List Outgoing)) (q : ℕ) (input : Input) (result : Result (Vec Outgoing) NoMemory) (old new : List (Option B)) : Type 0 where
  pub ok : IfOk result (λ sends. StepsAt answers q input sends.items old new)
  pub few : IfOk result (λ sends. length sends.items ≤ 8)
  pub others : SameElsewhere answers q old new
  pub err : OnErr result (SameAnswers answers old new)
  pub filled : map is_some new ≡ map is_some old
