-- What processes and stable storage send to each other.
use Rattle.std.specs.Prelude.{◌≡◌, ℕ, Bool, false, ◌==◌, ◌&&◌, List, [], ◌∷◌, Option, None, Some, ◌⊎◌}
use Rattle.causal_name.specs.declared.MsgName.{MsgName}
use Rattle.causal_name.specs.declared.Det.{Det}
use Rattle.causal_world.specs.World.{Packet}

-- A packet that brings determinants to a log has a `Packet`: its sender, lane and receiver, and what it carries.
-- A reply bears the name of the round of the question that it replies to.
pub data Sent : Type 0 where
  -- a message, under its name; its `Packet` has the position of its send entry
  message_packet : MsgName → Packet → Sent
  acknowledgement_packet : Packet → Sent
  -- a write to stable storage
  write_packet : Packet → Sent
  -- what stable storage has stored, after a write
  written_packet : (dets : Det → Bool) → Sent
  -- a question of this process's round, to all others
  question_packet : (from name : ℕ) (view : ℕ → ℕ) → Sent
  -- a reply of a process that is up: its log
  answer_packet : (name : ℕ) → Packet → Sent
  -- a reply of a process that is down
  not_up_packet : (from to name : ℕ) → Sent
  -- the question to stable storage, and its reply
  read_packet : (from name : ℕ) (view : ℕ → ℕ) → Sent
  stored_packet : (to name : ℕ) (dets : Det → Bool) → Sent
  -- the number of a process
  number_packet : (from number : ℕ) → Sent

-- it is one of the packets
abbrev pub WasSent : List Sent → Sent → Type 0
WasSent [] k = ⊥
WasSent (new ∷ old) k = (new ≡ k) ⊎ WasSent old k

-- what a step takes, if anything, is one of the packets
abbrev pub WasTaken : List Sent → Option Sent → Type 0
WasTaken sent None = Unit {0}
WasTaken sent (Some k) = WasSent sent k

-- whether a packet is of the round of s with this name: a question, or a reply to one
abbrev pub is_of_round : Sent → ℕ → ℕ → Bool
is_of_round (question_packet from round view) s name = from == s && round == name
is_of_round (answer_packet round p) s name = p.to == s && round == name
is_of_round (not_up_packet from to round) s name = to == s && round == name
is_of_round (read_packet from round view) s name = from == s && round == name
is_of_round (stored_packet to round dets) s name = to == s && round == name
is_of_round _ s name = false
