-- The verdict from the first excess and the earliest breach.
use Rattle.causal_audit.proofs.Common.{ℕ, ◌+◌, ◌<◌, ◌≤◌, length, ◌≡◌, Option, None, Some, refl, subst, arith, count_below, instant, is_down, deliveries_in, Recording, HasOrphan, IsSafe}
use Rattle.causal_audit.specs.declared.breach.Breach.{Breach}
use Rattle.causal_audit.specs.declared.breach.Excess.{Excess}
use Rattle.causal_audit.specs.declared.verdict.Verdict.TheVariants.{Accept, Exceeded, Orphan}
use Rattle.causal_audit.specs.Numbers.{IsNumbered}
use Rattle.causal_audit.specs.Verdicts.{IsVerdict}
use Rattle.causal_audit.specs.Breaches.{EarliestBreach, EarliestBreachBy, IsEarliestBreach, FirstExcess, IsFirstExcess, IsHorizon, last_deciding_instant}
use Rattle.causal_audit.specs.Inside.Among.{last_relevant_instant}
use Rattle.causal_audit.proofs.Lemmas.NumberLemmas.{has_number}
use Rattle.causal_audit.proofs.DeliveryNumbers.{numbered_later, numbered_below}

module _ (r : Recording) (f : ℕ) where
  -- no delivery has an orphan before the instant t
  abbrev pub NoOrphanBefore : ℕ → Type 0
  NoOrphanBefore t = (u : ℕ) → u < t → u ≤ length r.past → (k : ℕ) → HasOrphan r.processes f (instant r.past u) k → ⊥

  -- at most f processes are down before the instant t
  abbrev pub FewBefore : ℕ → Type 0
  FewBefore t = (u : ℕ) → u < t → u ≤ length r.past → count_below r.processes (is_down (instant r.past u)) ≤ f

  number_of : (t k : ℕ) → t ≤ length r.past → HasOrphan r.processes f (instant r.past t) k → (i : ℕ) × (i < deliveries_in r.past) × IsNumbered r.past i k
  number_of t k within has = grind (arith, has_number (instant r.past t) k has.is_orphan.det has.is_orphan.delivered, numbered_later, numbered_below)

  -- if no delivery has an orphan by an instant, none has one before the next
  pub no_orphan_by : (end : ℕ) → EarliestBreachBy r f end 0 (deliveries_in r.past) None → (t : ℕ) → t ≤ end + 1 → NoOrphanBefore t
  no_orphan_by end none t low u early within k has =
      let n = number_of u k within has in
      none n.0 k u (omega arith) n.1 n.2 (omega (arith, early, low)) has

  -- nor before the instant of the earliest breach
  pub no_orphan_before : (b : Breach) → IsEarliestBreach r f 0 (deliveries_in r.past) b → (t : ℕ) → t ≤ b.instant → NoOrphanBefore t
  no_orphan_before b least t low u early within k has = grind (arith, number_of u k within has, early, low)

  -- without an excess, at most f processes are down at each instant
  pub few_ever : FirstExcess r f None → (t : ℕ) → FewBefore t
  few_ever none t u early within = none u within

  -- and before the first excess
  pub few_before : (x : Excess) → IsFirstExcess r f x → (t : ℕ) → t ≤ x.instant → FewBefore t
  few_before x first t low u early within = first.before u (omega (arith, early, low))

  safe_before : (t u : ℕ) → NoOrphanBefore t → FewBefore t → u < t → u ≤ length r.past → IsSafe r.processes f (instant r.past u)
  safe_before t u orphans few early within = record { few_down = few u early within; no_orphan = orphans u early within }

  -- the earliest breach is one of all
  pub found_breach : (x : Option Excess) (b : Option Breach) (found : Breach) → b ≡ Some found → EarliestBreachBy r f (last_deciding_instant (length r.past) x) 0 (deliveries_in r.past) b → IsEarliestBreach r f 0 (deliveries_in r.past) found
  found_breach x b found is least = (subst (λ o. EarliestBreachBy r f (last_deciding_instant (length r.past) x) 0 (deliveries_in r.past) o) is least).1

  -- no later instant than that of the earliest breach in a first part of the run can decide
  pub horizon_of : (excess : Option Excess) (first : ℕ) (early : Option Breach) → first ≤ last_deciding_instant (length r.past) excess → EarliestBreachBy r f first 0 (deliveries_in r.past) early
      → IsHorizon r f excess (last_relevant_instant (last_deciding_instant (length r.past) excess) early)
  horizon_of excess first None low least found by = by
  horizon_of excess first (Some b) low least None by =
      let here = least.1.first.least in
      absurd (by least.1.number b.delivery b.instant (omega arith) least.1.below_to least.1.numbered (omega arith) (record { crash = _; orphan = b.orphan; may_crash = here.may_crash; is_orphan = here.is_orphan }))
  horizon_of excess first (Some b) low least (Some other) by = (omega (arith, by.0, least.0, low), by.1)

  -- that instant is within the run
  pub horizon_within : (end first : ℕ) (early : Option Breach) → first ≤ end → end ≤ length r.past → EarliestBreachBy r f first 0 (deliveries_in r.past) early → last_relevant_instant end early ≤ length r.past
  horizon_within end first None low within least = within
  horizon_within end first (Some b) low within least = omega (arith, least.0, low, within)

  -- without a breach and an excess the verdict accepts
  pub accepted : EarliestBreach r f 0 (deliveries_in r.past) None → FirstExcess r f None → IsVerdict r f Accept
  accepted none few = λ t within. record { few_down = few t within; no_orphan = no_orphan_by (length r.past) none (t + 1) (omega (arith, within)) t (omega arith) within }

  -- the first excess is the verdict if no orphan comes before it
  pub exceeded : (x : Excess) → IsFirstExcess r f x → NoOrphanBefore x.instant → IsVerdict r f (Exceeded x.instant x.down)
  exceeded x first orphans = grind (arith, safe_before x.instant, few_before x first x.instant)

  -- the earliest breach is the verdict if no excess comes by its instant
  pub orphaned : (b : Breach) → IsEarliestBreach r f 0 (deliveries_in r.past) b → FewBefore (b.instant + 1) → IsVerdict r f (Orphan b.instant b.delivery b.crash b.orphan)
  orphaned b least few =
      let here = least.first.least in
      let within = least.first.within in (
        record {
          within = within;
          unsafe = λ safe. safe.no_orphan b.delivery (record { crash = _; orphan = b.orphan; may_crash = here.may_crash; is_orphan = here.is_orphan });
          before = λ u early. safe_before b.instant u (no_orphan_before b least b.instant (omega arith)) (λ v low inside. few v (omega (arith, low)) inside) early (omega (arith, early, within));
        },
        record {
          few_down = few b.instant (omega arith) within;
          first = λ j low has.
              let n = number_of b.instant j within has in
              let later = least.least n.0 j b.instant (omega arith) n.1 n.2 within has in
              omega (arith, later.1 refl, low);
          least = here;
        },
      )
