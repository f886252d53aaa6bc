-- The limits on what a process sends in one step.
use Rattle.std.specs.Prelude.{◌≤◌, List, length, All}
use Rattle.causal_process.specs.declared.message.Outgoing.{Outgoing}

-- the message's body has at most 1,024 bytes
abbrev pub IsShort : Outgoing → Type 0
IsShort message = length message.body ≤ 1024

-- the sends of one step: at most eight, each with a short body
pub record IsWithinLimits (sends : List Outgoing) : Type 0 where
  pub few : length sends ≤ 8
  pub short : All IsShort sends
