-- Comparison of a determinant's message.
use Rattle.std.specs.Prelude.{Bool, false, Option}
use Rattle.std.specs.Option.{option_map_or}
use Rattle.causal_name.specs.Names.{message_of, same_message}
use Rattle.causal_name.specs.declared.Det.{Det}
use Rattle.causal_name.specs.declared.MsgName.{MsgName}

-- whether an optional determinant is that of a delivery of the message
abbrev pub is_of : Option Det → MsgName → Bool
is_of own m = option_map_or (λ d. same_message (message_of d) m) own false
