-- The reaction of each kind of process, `Ring`, `Echo` and `Tally`, to one input.
use Rattle.std.specs.Prelude.{◌==◌, nat_lt, min, ℕ, ◌+◌, ◌-◌, ◌%◌, ◌^◌, List, [], ◌∷◌, if◌then◌else◌}
use Rattle.std.specs.Int.{to_be_bytes, w64}
use Rattle.causal_name.specs.declared.Pid.{Pid}
use Rattle.causal_process.specs.declared.message.Input.{Input}
use Rattle.causal_process.specs.declared.message.Input.TheVariants.{Begin, Message}
use Rattle.causal_process.specs.declared.message.Outgoing.{Outgoing}
use Rattle.causal_process.specs.Bodies.{first_byte}

-- a ring or echo process: the number n of processes, its own number, and its initial count
pub record Member : Type 0 where
  pub n : ℕ
  pub me : ℕ
  pub start : ℕ

-- a tally process: its number, and its total so far
pub record Adder : Type 0 where
  pub me : ℕ
  pub total : ℕ

-- the process with this number
abbrev pub process : ℕ → Pid
process p = record { 0 = p }

-- a list of one message
abbrev pub one_message : Pid → List ℕ → List Outgoing
one_message to body = record { to = to; body = body } ∷ []

-- one message with the count less 1, as one byte; none if the count is 0
abbrev pub count_less_one : Pid → ℕ → List Outgoing
count_less_one to count = if nat_lt 0 count then one_message to ((count - 1) ∷ []) else []

-- the next process of a ring of n; a ring of more than 256 closes at 256, since a process number is a byte
abbrev pub next_in_ring : Member → Pid
next_in_ring p = process ((p.me + 1) % min p.n (2 ^ 8))

-- process 0 begins by sending its count to the next process; a process that receives a count sends it on, less 1
abbrev pub ring_reaction : Member → Input → List Outgoing
ring_reaction p Begin = if p.me == 0 then one_message (next_in_ring p) (p.start ∷ []) else []
ring_reaction p (Message from body) = count_less_one (next_in_ring p) (first_byte body)

-- the partner of an even number is the next number; of an odd number, the previous one
abbrev pub partner_of : ℕ → ℕ
partner_of me = if me % 2 == 0 then me + 1 else me - 1

-- each process begins by sending its count to its partner, if that is below n; a received count goes back, less 1
abbrev pub echo_reaction : Member → Input → List Outgoing
echo_reaction p Begin =
    if nat_lt (partner_of p.me) p.n then one_message (process (partner_of p.me)) (p.start ∷ []) else []
echo_reaction p (Message from body) = count_less_one from (first_byte body)

-- process 0 adds the first byte of each message to its total, modulo 2 to the 64th
abbrev pub adder_after : Adder → Input → Adder
adder_after p Begin = p
adder_after p (Message from body) = if p.me == 0 then record p { total = (p.total + first_byte body) % 2 ^ 64 } else p

-- the others begin by sending their number to process 0, which returns its new total to each sender, high byte first
abbrev pub tally_reaction : Adder → Input → List Outgoing
tally_reaction p Begin = if p.me == 0 then [] else one_message (process 0) (p.me ∷ [])
tally_reaction p (Message from body) =
    if p.me == 0 then one_message from (to_be_bytes w64 (adder_after p (Message from body)).total) else []
