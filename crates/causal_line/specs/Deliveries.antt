-- Deliveries by message, and the determinants that an entry mentions.
use Rattle.std.specs.Prelude.{ℕ, ◌==◌, ◌&&◌, if◌then◌else◌, List, [], ◌∷◌, length, Option, Some, None}
use Rattle.causal_name.specs.declared.MsgName.{MsgName}
use Rattle.causal_trace.specs.declared.entry.Entry.{Entry}
use Rattle.causal_trace.specs.declared.entry.Entry.TheVariants.{Deliver, Restart}
use Rattle.causal_trace.specs.Past.{message_at, is_message}

-- the position of the delivery of a message by p's present lane (incarnation); None if the lane has not delivered it
abbrev pub delivery_position : List Entry → ℕ → MsgName → Option ℕ
delivery_position [] p m = None
delivery_position (Deliver to send rsn listed ∷ past) p m =
    if to.0 == p && is_message (message_at past send) m then Some (length past) else delivery_position past p m
delivery_position (Restart who listed ∷ past) p m = if who.0 == p then None else delivery_position past p m
delivery_position (_ ∷ past) p m = delivery_position past p m
