-- The messages that a process has sent, and the batches that they carry.
use Rattle.std.proofs.Common.{◌≡◌, ◌<◌, ◌≤◌, ◌-◌, ◌++◌, ℕ, suc, zero, List, [], ◌∷◌, Some, length, map, slice_get, take, length-append, refl, arith}
use Rattle.std.specs.Prelude.{unwrap_or}
use Rattle.causal_log.specs.declared.batch.Item.{Item}
use Rattle.causal_memory.specs.declared.outbox.Message.{Message}
use Rattle.causal_memory.specs.Outboxes.{kept_among}

-- messages that carry one of the first batches are unchanged if those batches are
pub kept_same : (used_batches : ℕ) (old new : List (List Item)) (messages : List Message) → ((ssn : ℕ) (m : Message) → slice_get messages ssn ≡ Some m → m.step < used_batches) → ((step : ℕ) → step < used_batches → slice_get new step ≡ slice_get old step) → map (kept_among new) messages ≡ map (kept_among old) messages
kept_same used_batches old new [] each same = refl
kept_same used_batches old new (m ∷ ms) each same =
    let here = same m.step (each 0 m refl) in
    λ i. record { to = m.to; send = m.send; batch = unwrap_or (here i) [] } ∷ kept_same used_batches old new ms (λ ssn k is. each (suc ssn) k is) same i

-- one more batch after the first ones is the last, and the first ones are unchanged
pub first_stay : {X : Type 0} (xs : List X) (x : X) (n i : ℕ) → i < n → n ≤ length xs → slice_get (take n xs ++ x ∷ []) i ≡ slice_get xs i
first_stay [] x n i h within = absurd (omega (arith, h, within))
first_stay (y ∷ ys) x zero i h within = absurd (omega (arith, h))
first_stay (y ∷ ys) x (suc n) zero h within = refl
first_stay (y ∷ ys) x (suc n) (suc i) h within = first_stay ys x n i (omega (arith, h)) (omega (arith, within))

pub last_there : {X : Type 0} (xs : List X) (x : X) → slice_get (xs ++ x ∷ []) (length (xs ++ x ∷ []) - 1) ≡ Some x
last_there [] x = refl
last_there (y ∷ ys) x = grind (arith, last_there ys, length-append)
