-- Lists with capacities, and the numbers of the positions that are still to be added to them.
use Rattle.std.proofs.lemmas.Grind.{common_steps}
use Rattle.std.proofs.lemmas.List.Sums.{count_by-le-length, count_by_more_no, count_by_more_yes, sum_by-append, sum_by-cons}
use Rattle.std.specs.Prelude.{count_by}
use Rattle.causal_audit.proofs.Common.{ℕ, ◌≡◌, ◌+◌, ◌<◌, ◌≤◌, ◌==◌, cond, cond-true, List, [], ◌∷◌, ◌++◌, length, get_or, set, take, ap, arith, eq-eqb, eqb_tells, length-append, length-set, get_or-set_same, get_or-set_other}
use Rattle.causal_audit.specs.Inside.Index.Lists.{list_at, with_added}
use Rattle.causal_audit.specs.Inside.Index.Packed.{AreOccurrences, HasSpareCapacity, HaveCapacityFor, ListsWithCapacities}

-- how often a number occurs among some, of which one is given
counted_next : (v m : ℕ) (rest : List ℕ) → count_by (λ n. n == m) (v ∷ rest) ≡ cond (v == m) 1 0 + count_by (λ n. n == m) rest
counted_next v m rest = sum_by-cons (λ n. cond (n == m) 1 0) v rest

-- there is spare capacity for the first of the numbers
pub spare_next : (s : ListsWithCapacities) (v : ℕ) (rest : List ℕ) → HaveCapacityFor s (v ∷ rest) → v < length s.lists → HasSpareCapacity s v
spare_next s v rest fits there = grind (arith, fits v there, counted_next v v rest, cond-true, eq-eqb)

-- and for the others once its position is added
pub spare_added : (s new : ListsWithCapacities) (v x : ℕ) (rest : List ℕ) → HaveCapacityFor s (v ∷ rest) → v < length s.lists → new.lists ≡ with_added s.lists v x → new.capacities ≡ s.capacities → HaveCapacityFor new rest
spare_added s new v x rest fits there added same m low =
    grind (arith, common_steps, counted_next v m rest, fits m, length-set, length-append, get_or-set_same, get_or-set_other)

-- there is spare capacity for the first numbers
pub spare_front : (s : ListsWithCapacities) (front back : List ℕ) → HaveCapacityFor s (front ++ back) → HaveCapacityFor s front
spare_front s front back fits m low = omega (arith, fits m low, sum_by-append (λ v. cond (v == m) 1 0) front back)

-- empty lists with the capacities that numbers need
pub spare_all : (s : ListsWithCapacities) (counts numbers : List ℕ) → ((m : ℕ) → list_at s.lists m ≡ []) → s.capacities ≡ counts → length s.lists ≡ length counts → AreOccurrences counts numbers → HaveCapacityFor s numbers
spare_all s counts numbers empty same many each m low =
    omega (arith, ap length (empty m), ap (λ xs. get_or xs m 0) same, each m (omega (arith, low, many)))

module _ (counts numbers : List ℕ) (i : ℕ) (inside : i < length numbers) (each : AreOccurrences counts (take i numbers)) where
  abbrev v : ℕ
  v = get_or numbers i 0

  -- a count is at most the number of numbers so far
  pub counted_few : v < length counts → get_or counts v 0 ≤ i
  counted_few there = grind (arith, common_steps, each v there, count_by-le-length (λ n. n == v) (take i numbers))

  -- one more number
  pub one_more_counted : v < length counts → AreOccurrences (set counts v (get_or counts v 0 + 1)) (take (i + 1) numbers)
  one_more_counted there m low =
      grind (arith, eqb_tells v m, each m, length-set, get_or-set_same, get_or-set_other, count_by_more_yes (λ n. n == m) numbers i 0 inside, count_by_more_no (λ n. n == m) numbers i 0 inside)
