-- The example process of the crate's documentation, which numbers the messages that it receives.
use Rattle.std.specs.Prelude.{ℕ, ◌+◌, ◌%◌, ◌^◌, List, [], ◌∷◌}
use Rattle.causal_process.specs.declared.message.Input.{Input}
use Rattle.causal_process.specs.declared.message.Input.TheVariants.{Begin, Message}
use Rattle.causal_process.specs.declared.message.Outgoing.{Outgoing}

-- the number of messages received, after an input; 255 is followed by 0
abbrev pub count_after : ℕ → Input → ℕ
count_after count Begin = count
count_after count (Message from body) = (count + 1) % 2 ^ 8

-- the sender of a message gets its number back, as one byte
abbrev pub numbering_reaction : ℕ → Input → List Outgoing
numbering_reaction count Begin = []
numbering_reaction count (Message from body) =
    record { to = from; body = count_after count (Message from body) ∷ [] } ∷ []
