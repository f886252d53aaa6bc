-- The deliveries of a run by their numbers.
use Rattle.causal_audit.proofs.Common.{ℕ, ◌≡◌, ◌<◌, ◌≤◌, inl, inr, true, List, [], ◌∷◌, length, Some, refl, arith, false≢true, eq-eqb, is_delivery_of, Delivers, Det, Entry, Deliver, instant, det_at, deliveries_in, AreLegalEntries}
use Rattle.causal_audit.specs.Numbers.{is_delivery, IsNumbered}
use Rattle.causal_audit.proofs.index.Receivers.{delivered}
use Rattle.causal_trace.proofs.Lemmas.AtInstants.{at_instant}
use Rattle.causal_audit.proofs.Lemmas.NumberLemmas.{no_fewer, one_more}

-- a run has no more deliveries than entries
pub deliveries_few : (past : List Entry) → deliveries_in past ≤ length past
deliveries_few [] = omega arith
deliveries_few (e ∷ past) = grind (arith, deliveries_few past)

-- a delivery's number is below the number of deliveries
pub numbered_below : (past : List Entry) (i k : ℕ) → IsNumbered past i k → i < deliveries_in past
numbered_below [] i k n = absurd n
numbered_below (e ∷ past) i k n = grind (arith, numbered_below past i k, no_fewer, one_more)

-- a number belongs to one delivery
pub numbered_one : (past : List Entry) (i j k : ℕ) → IsNumbered past i j → IsNumbered past i k → j ≡ k
numbered_one [] i j k a b = absurd a
numbered_one (e ∷ past) i j k a b = grind (arith, numbered_one past i j k, numbered_below past i)

-- a delivery has the same number at each later instant
pub numbered_later : (past : List Entry) (t i k : ℕ) → t ≤ length past → IsNumbered (instant past t) i k → IsNumbered past i k
numbered_later past t i k within = at_instant (λ x. IsNumbered x i k → IsNumbered past i k) (λ e x h n. h (inl n)) past t (λ n. n)

-- there are no more deliveries before an instant than in the whole run
pub instants_fewer : (past : List Entry) (t : ℕ) → deliveries_in (instant past t) ≤ deliveries_in past
instants_fewer past t = at_instant (λ x. deliveries_in x ≤ deliveries_in past) (λ e x h. omega (arith, h, no_fewer e x)) past t (omega arith)

-- a numbered delivery delivers a message
delivery_of : (e : Entry) → is_delivery e ≡ true → (s : ℕ) × (is_delivery_of s e ≡ true)
delivery_of (Deliver to send rsn listed) h = (send, eq-eqb send send refl)
delivery_of e h = absurd (false≢true h)

numbered_delivers : (past : List Entry) (i k : ℕ) → IsNumbered past i k → (s : ℕ) × Delivers past k s
numbered_delivers [] i k numbered = absurd numbered
numbered_delivers (e ∷ past) i k (inl old) = let was = numbered_delivers past i k old in (was.0, inl was.1)
numbered_delivers (e ∷ past) i k (inr new) = let sent = delivery_of e new.1 in (sent.0, inr (new.0, sent.1))

-- so it has a determinant
pub numbered_some : (n : ℕ) (past : List Entry) (i k : ℕ) → AreLegalEntries n past → IsNumbered past i k → (d : Det) × (det_at past k ≡ Some d)
numbered_some n past i k formed numbered = grind (arith, numbered_delivers, delivered)
