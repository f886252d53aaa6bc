-- Deliveries are counted, and each has a number.
use Rattle.causal_audit.proofs.Common.{ℕ, ◌≡◌, ◌+◌, ◌<◌, ◌≤◌, inl, inr, true, List, [], ◌∷◌, length, Some, None, refl, arith, eqb_tells, Det, Entry, det_at, deliveries_in}
use Rattle.causal_audit.specs.Numbers.{is_delivery, IsNumbered}
use Rattle.causal_audit.proofs.Legal.{det_delivers}

-- a delivery entry increases the count by one
pub one_more : (e : Entry) (past : List Entry) → is_delivery e ≡ true → deliveries_in (e ∷ past) ≡ deliveries_in past + 1
one_more e past h = grind arith

-- no entry decreases the count
pub no_fewer : (e : Entry) (past : List Entry) → deliveries_in past ≤ deliveries_in (e ∷ past)
no_fewer e past = grind arith

-- a delivery with a determinant has a number
pub has_number : (past : List Entry) (k : ℕ) (d : Det) → det_at past k ≡ Some d → (i : ℕ) × (i < deliveries_in past) × IsNumbered past i k
has_number [] k d at = absurd (let x : None ≡ Some d = at in cc)
has_number (e ∷ past) k d h =
    elim (eqb_tells k (length past)) [
      | inl here ↦ let is = (det_delivers past e d (rw here.0 at h)).2 in (deliveries_in past, omega (arith, one_more e past is), inr (here.1, is, refl))
      | inr there ↦ let old = has_number past k d (rw there.0 at h) in (old.0, omega (arith, old.1, no_fewer e past), inl old.2)
    ]
