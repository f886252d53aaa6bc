-- Which processes a scan watches.
use Rattle.causal_audit.proofs.Common.{nat_tests, ℕ, ◌≡◌, inr, true, refl, ◌∙◌, ◌||◌, ◌&&◌, or_right, eq-eqb, nat_cmp_total, nat_cmp, FinSet, contains, insert, union, contains-union, difference, contains-difference, arith}
use Rattle.std.specs.FinSet.{is_subset, is_subset-contains, contains-is_subset}
use Rattle.causal_audit.specs.Inside.SafetyScan.Scans.{AreWatched, IsSafetyOf}
use Rattle.causal_audit.specs.declared.safety_scan.det_safety.DetSafety.{DetSafety}
use Rattle.causal_audit.specs.declared.safety_scan.det_safety.DetSafety.TheVariants.{AtRisk, Safe}
use Rattle.causal_holders.proofs.Lemmas.Sets.{inserted}

holder_gone : (down holders : FinSet nat_cmp) (p : ℕ) → contains holders p ≡ true → contains (union down holders) p ≡ true
holder_gone down holders p h = contains-union nat_cmp_total down holders p ∙ or_right (contains down p) (contains holders p) h

-- all of them
pub watched_all : (s : DetSafety) (most receiver : ℕ) (reached down holders : FinSet nat_cmp) → IsSafetyOf s most receiver reached (union down holders) → AreWatched s most receiver reached down holders (union down holders)
watched_all s most receiver reached down holders stands = record { gone = λ p h. h; holding = holder_gone down holders; stands = stands }

-- the holders alone, if they suffice
pub watched_holders : (s : DetSafety) (most receiver : ℕ) (reached down holders : FinSet nat_cmp) → IsSafetyOf s most receiver reached holders → AreWatched s most receiver reached down holders holders
watched_holders s most receiver reached down holders stands = record { gone = holder_gone down holders; holding = λ p h. h; stands = stands }

kept_is : (reached down holders : FinSet nat_cmp) (p : ℕ) → contains (union holders (difference down (difference down reached))) p ≡ (contains holders p || (contains down p && contains reached p))
kept_is reached down holders p =
    grind (
      arith,
      nat_tests,
      contains-union nat_cmp_total holders (difference down (difference down reached)) p,
      contains-difference nat_cmp_total down (difference down reached) p,
      contains-difference nat_cmp_total down reached p,
    )

-- the holders, and of the processes that its receiver reaches those that are down, if these are all that it reaches
pub watched_reached : (most receiver : ℕ) (reached down holders : FinSet nat_cmp) → is_subset reached (union down holders) ≡ true
    → AreWatched Safe most receiver reached down holders (union holders (difference down (difference down reached)))
watched_reached most receiver reached down holders all = record {
  gone = λ p h. grind (arith, h, nat_tests, kept_is reached down holders p, contains-union nat_cmp_total down holders p);
  holding = λ p h. grind (arith, h, nat_tests, kept_is reached down holders p);
  stands = inr (contains-is_subset nat_cmp_total reached (union holders (difference down (difference down reached))) (λ q h.
      grind (arith, h, nat_tests, kept_is reached down holders q, contains-union nat_cmp_total down holders q, is_subset-contains nat_cmp_total reached (union down holders) all q h)));
}

-- the holders and the receiver, where it is down or one of them
pub watched_receiver : (most receiver : ℕ) (reached down holders : FinSet nat_cmp) → contains (union down holders) receiver ≡ true → AreWatched AtRisk most receiver reached down holders (insert holders receiver)
watched_receiver most receiver reached down holders there = grind (arith, inserted, holder_gone, eq-eqb receiver receiver refl)
