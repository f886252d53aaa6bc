-- A job queue: what its dispatcher and its workers do with an input.
use Rattle.std.specs.Prelude.{ℕ, ◌-◌, ◌*◌, ◌%◌, ◌^◌, nat_lt, List, [], ◌∷◌, if◌then◌else◌}
use Rattle.causal_process.specs.declared.message.Input.{Input}
use Rattle.causal_process.specs.declared.message.Input.TheVariants.{Begin, Message}
use Rattle.causal_process.specs.declared.message.Outgoing.{Outgoing}
use Rattle.causal_process.specs.Bodies.{first_byte}
use Rattle.causal_process.specs.Kinds.{one_message}

-- the number of jobs that the dispatcher has left after an input: whoever sends it a message gets a job
abbrev pub left_after : ℕ → Input → ℕ
left_after left Begin = left
left_after left (Message from body) = left - 1

-- the dispatcher gives each sender the next job, as one byte, the highest number first, until none is left
abbrev pub dispatcher_reaction : ℕ → Input → List Outgoing
dispatcher_reaction left Begin = []
dispatcher_reaction left (Message from body) = if nat_lt 0 left then one_message from (left ∷ []) else []

-- a worker asks process 0 for a job, and returns the double of each job modulo 256, by which it asks for the next one
abbrev pub worker_reaction : Input → List Outgoing
worker_reaction Begin = one_message (record { 0 = 0 }) []
worker_reaction (Message from body) = one_message from (((first_byte body * 2) % 2 ^ 8) ∷ [])
