-- How the absence of orphans extends from one instant to the next.
use Rattle.causal_audit.proofs.Common.{ℕ, ◌≡◌, ◌+◌, ◌<◌, ◌≤◌, List, ◌∷◌, length, Some, None, sym, subst, ◌∙◌, arith, Entry, instant, Recording, IsWellFormed, AreLegalEntries, HasOrphan, det_beyond, accepted_then}
use Rattle.causal_audit.specs.declared.breach.Breach.{Breach}
use Rattle.causal_audit.specs.Breaches.{IsFirstBreach}
use Rattle.causal_audit.specs.Verdicts.{IsLeastOrphan}

-- a delivery that is still to come has no orphan
pub not_yet : (n f : ℕ) (past : List Entry) (k : ℕ) → length past ≤ k → HasOrphan n f past k → ⊥
not_yet n f past k above has = let e : None ≡ Some has.is_orphan.det = sym (det_beyond past k above) ∙ has.is_orphan.delivered in cc

-- each next entry of a well-formed run is accepted
pub accepted_next : (r : Recording) (formed : IsWellFormed r) (t : ℕ) (x : Entry) (below : t < length r.past) (next : instant r.past (t + 1) ≡ x ∷ instant r.past t) → AreLegalEntries r.processes (x ∷ instant r.past t)
accepted_next r formed t x below next = subst (AreLegalEntries r.processes) next (accepted_then r.processes r.past (t + 1) formed.accepted)

-- if a delivery had no orphan up to an instant and has one at the next, that is its first breach
pub first_breach_is : (r : Recording) (f k t : ℕ) (b : Breach) → t < length r.past → ((u : ℕ) → u ≤ t → HasOrphan r.processes f (instant r.past u) k → ⊥) → b.instant ≡ t + 1 → b.delivery ≡ k
    → IsLeastOrphan r.processes f (instant r.past (t + 1)) k b.crash b.orphan → IsFirstBreach r f k b
first_breach_is r f k t b below before instant_is delivery least = grind arith
