-- The outbox of a process: its kept messages, their bodies and batches.
use Rattle.std.specs.Prelude.{◌≡◌, ◌-◌, ℕ, ◌<◌, ◌≤◌, nat_lt, List, [], map, length, Some, slice_get, unwrap_or, if◌then◌else◌}
use Rattle.std.specs.Coded.{Coded, code_by, coded×, coded_list, coded_ℕ}
use Rattle.std.proofs.Common.{refl}
use Rattle.causal_log.specs.declared.batch.Item.{Item}
use Rattle.causal_log.specs.Knowledge.{coded_item}
use Rattle.causal_memory.specs.declared.outbox.Message.{Message}
use Rattle.causal_memory.specs.declared.outbox.Envelope.{Envelope}
use Rattle.causal_protocol.specs.Memory.{SentMessage}

-- the kept messages, their bodies, the batch of the current step, and how many further messages of this step, and of
-- the next one, need no allocation
pub record OutboxState : Type 0 where
  pub kept : List SentMessage
  pub bodies : List (List ℕ)
  pub batch : List Item
  pub spare : ℕ
  pub next_spare : ℕ

-- the code of a kept message: two numbers and a list
abbrev pub coded_kept : Coded SentMessage
coded_kept =
    code_by (ℕ × (ℕ × List Item)) (coded× coded_ℕ (coded× coded_ℕ (coded_list coded_item)))
    (λ k. (k.to.0, (k.send, k.batch))) (λ p. record { to = record { 0 = p.0 }; send = p.1.0; batch = p.1.1 }) (λ _. refl)

-- the code of an outbox: the codes of its parts
abbrev pub coded_outbox : Coded OutboxState
coded_outbox =
    code_by (List SentMessage × (List (List ℕ) × (List Item × (ℕ × ℕ)))) (coded× (coded_list coded_kept) (coded× (coded_list (coded_list coded_ℕ)) (coded× (coded_list coded_item) (coded× coded_ℕ coded_ℕ))))
    (λ s. (s.kept, (s.bodies, (s.batch, (s.spare, s.next_spare)))))
    (λ p. record { kept = p.0; bodies = p.1.0; batch = p.1.1.0; spare = p.1.1.1.0; next_spare = p.1.1.1.1 })
    (λ _. refl)

-- the batch at this index
abbrev pub batch_at : List (List Item) → ℕ → List Item
batch_at batches step = unwrap_or (slice_get batches step) []

-- a kept message with its batch, one of this list
abbrev pub kept_among : List (List Item) → Message → SentMessage
kept_among batches m = record { to = m.to; send = m.send; batch = batch_at batches m.step }

-- a kept message, by its envelope
abbrev pub kept_message_of : Envelope → SentMessage
kept_message_of e = record { to = e.to; send = e.send; batch = e.batch.now }

-- the outbox with these messages and batches, and this spare capacity for each of them
abbrev pub outbox_from : List Message → List (List Item) → ℕ → ℕ → OutboxState
outbox_from messages batches room steps =
    record { kept = map (kept_among batches) messages; bodies = map (λ (m : Message). m.body) messages; batch = batch_at batches (length batches - 1); spare = if nat_lt 0 (length batches) then room else 0; next_spare = if nat_lt 0 steps then room else 0 }

-- each message carries one of the first `used_batches` batches, and there are that many
pub record CarryTheFirst (used_batches : ℕ) (batches : List (List Item)) (messages : List Message) : Type 0 where
  pub within : used_batches ≤ length batches
  pub each : (ssn : ℕ) (m : Message) → slice_get messages ssn ≡ Some m → m.step < used_batches
