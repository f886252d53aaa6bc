-- Orphans for one bound and for another, and what a search for one finds.
use Rattle.std.proofs.Common.{ℕ, ◌≡◌, ◌<◌, ◌≤◌, inl, inr, Bool, List, length, Option, Some, None, arith}
use Rattle.std.specs.FinSet.{contains, len}
use Rattle.std.proofs.lemmas.Bool.{cases_lt}
use Rattle.causal_name.specs.Sets.{count_below}
use Rattle.causal_holders.proofs.Lemmas.MemberCounts.{count_below-le, len_counted}
use Rattle.causal_trace.specs.declared.entry.Entry.{Entry}
use Rattle.causal_trace.specs.Past.{instant, deliveries_in, is_down}
use Rattle.causal_trace.specs.Rows.{Recording}
use Rattle.causal_trace.specs.Judgement.{IsCrashSet, HasOrphan, IsSafeTrace}
use Rattle.causal_audit.specs.declared.breach.Breach.{Breach}
use Rattle.causal_audit.specs.Breaches.{IsEarliestBreach, IsFirstBreach, EarliestBreachBy, FirstExcess, EarliestBreach}
use Rattle.causal_explain.specs.declared.closest.Closest.{Closest}
use Rattle.causal_explain.specs.declared.closest.Closest.TheVariants.{Never, At}
use Rattle.causal_explain.specs.Closest.{HasNoOrphan, IsClosest, IsSafeBelowClosest}
use Rattle.causal_explain.specs.Inside.Bisection.{IsFoundBreach}
use Rattle.causal_audit.proofs.Lemmas.NumberLemmas.{has_number}
use Rattle.causal_trace.proofs.Lemmas.AtInstants.{delivered_in}
use Rattle.causal_audit.specs.declared.verdict.Verdict.{Verdict}
use Rattle.causal_audit.specs.declared.verdict.Verdict.TheVariants.{Accept}
use Rattle.causal_audit.specs.Verdicts.{IsVerdict, IsLeastOrphan}
use Rattle.causal_explain.specs.Ranges.{HasExcessInstant, HasOrphanInstant, IsSafeRange}

-- a crash set for a bound is one for a greater bound
crash_more : (n f g : ℕ) (past : List Entry) (crash : ℕ → Bool) → f ≤ g → IsCrashSet n f past crash → IsCrashSet n g past crash
crash_more n f g past crash more h = record { down = h.down; few = omega (arith, h.few, more) }

-- an orphan for a bound is one for a greater bound
pub orphan_more : (n f g : ℕ) (past : List Entry) (k : ℕ) → f ≤ g → HasOrphan n f past k → HasOrphan n g past k
orphan_more n f g past k more h = grind (arith, crash_more n f g past h.crash more h.may_crash)

-- if no delivery has an orphan for a bound, none has one for a smaller bound
pub none_fewer : (r : Recording) (f g : ℕ) → f ≤ g → HasNoOrphan r g → HasNoOrphan r f
none_fewer r f g fewer none k t within has = none k t within (orphan_more r.processes f g (instant r.past t) k fewer has)

-- if no delivery has an orphan for the number of processes, none has one for any bound
pub none_ever : (r : Recording) → HasNoOrphan r r.processes → (f : ℕ) → HasNoOrphan r f
none_ever r none f k t within has = none k t within (grind (arith, count_below-le r.processes has.crash))

-- in a safe run no delivery has an orphan
pub safe_none : (r : Recording) (f : ℕ) → IsSafeTrace r f → HasNoOrphan r f
safe_none r f safe k t within has = (safe t within).no_orphan k has

-- a safe run is safe for a greater bound for which no delivery has an orphan
safe_more : (r : Recording) (f g : ℕ) → IsSafeTrace r f → f ≤ g → HasNoOrphan r g → IsSafeTrace r g
safe_more r f g safe more none t within = record { few_down = omega (arith, (safe t within).few_down, more); no_orphan = λ k. none k t within }

-- a breach for a bound excludes that no delivery has an orphan for a greater bound
breached : (r : Recording) (faults : ℕ) (b : Breach) → IsEarliestBreach r faults 0 (deliveries_in r.past) b → (g : ℕ) → faults ≤ g → HasNoOrphan r g → ⊥
breached r faults b h g more none = grind (arith, orphan_more)

-- the bounds for which the run is safe, by the closest failure
pub leaves : (r : Recording) (f : ℕ) → IsSafeTrace r f → (c : Closest) → IsClosest r c → IsSafeBelowClosest r f c
leaves r f safe Never h = λ g more. safe_more r f g safe more (h g)
leaves r f safe (At faults breach) h =
    let never : (g : ℕ) → faults ≤ g → HasNoOrphan r g → ⊥ = breached r faults breach h.least in (
      elim (cases_lt f faults) [ inl low ↦ low | inr high ↦ absurd (never f high (safe_none r f safe)) ],
      λ g more. (
        λ safe_then. elim (cases_lt g faults) [ inl low ↦ low | inr high ↦ absurd (never g high (safe_none r g safe_then)) ],
        λ low. safe_more r f g safe more (h.fewer g low),
      ),
    )

-- an earliest breach is the earliest for the size of its crash set as the bound
by_itself : (r : Recording) (g : ℕ) (b : Breach) → IsEarliestBreach r g 0 (deliveries_in r.past) b → (len b.crash ≤ g) × IsEarliestBreach r (len b.crash) 0 (deliveries_in r.past) b
by_itself r g b h =
    let f = len b.crash in
    let at = instant r.past b.instant in
    let has = h.first.least in
    let same : len b.crash ≡ count_below r.processes (contains b.crash) = len_counted r.processes b.crash has.process in
    let few : count_below r.processes (contains b.crash) ≤ f = omega (arith, same) in
    let fewer : f ≤ g = omega (arith, same, has.may_crash.few) in
    let more = λ (t k : ℕ) (x : HasOrphan r.processes f (instant r.past t) k). orphan_more r.processes f g (instant r.past t) k fewer x in
    let least : IsLeastOrphan r.processes f at b.delivery b.crash b.orphan =
    assumption (few, λ (other : ℕ → Bool) (q : ℕ) (may : IsCrashSet r.processes f at other). has.least_set other q (crash_more r.processes f g at other fewer may)) in
    let first : IsFirstBreach r f b.delivery b =
    assumption (least, λ (t : ℕ) (early : t < b.instant) (x : HasOrphan r.processes f (instant r.past t) b.delivery). h.first.before t early (more t b.delivery x)) in
    (fewer, record { number = h.number; least_from = h.least_from; below_to = h.below_to; numbered = h.numbered; first = first; least = λ i k t low high numbered in_time x. h.least i k t low high numbered in_time (more t k x) })

-- an earliest breach by any instant is what a search finds
pub finds_breach : (r : Recording) (f end : ℕ) (b : Breach) → f < 65536 → EarliestBreachBy r f end 0 (deliveries_in r.past) (Some b) → IsFoundBreach r f (Some b)
finds_breach r f end b small told = grind (arith, by_itself r f b told.1)

-- the result of a search in the whole run is what a search finds
pub finds : (r : Recording) (f : ℕ) (told : Option Breach) → f < 65536 → EarliestBreachBy r f (length r.past) 0 (deliveries_in r.past) told → IsFoundBreach r f told
finds r f None small none = λ k t within has.
    let at = delivered_in r.past t k has.is_orphan.det within has.is_orphan.delivered in
    let n = has_number r.past k has.is_orphan.det at in
    none n.0 k t (omega arith) n.1 n.2 within has
finds r f (Some b) small told = finds_breach r f (length r.past) b small told

-- ---- the bounds f for which a run is safe

-- no instant exceeds the number of processes as the bound
pub all_at_most : (r : Recording) → FirstExcess r r.processes None
all_at_most r t within = count_below-le r.processes (is_down (instant r.past t))

-- a run with more than f processes down is not safe
unsafe_excess : (r : Recording) (f : ℕ) → HasExcessInstant r f → IsSafeTrace r f → ⊥
unsafe_excess r f x safe = absurd (omega (arith, x.2, (safe x.0 x.1).few_down))

-- an orphan for a bound is one for a greater bound
more_orphan : (r : Recording) (f g : ℕ) → f ≤ g → HasOrphanInstant r f → HasOrphanInstant r g
more_orphan r f g more x = (x.0, x.1, x.2, orphan_more r.processes f g (instant r.past x.0) x.1 more x.3)

-- the safe bounds of a run that is safe for all bounds from one on
pub range_never : (r : Recording) (from : ℕ) → ((f : ℕ) → f < from → HasExcessInstant r f) → IsSafeBelowClosest r from Never → IsSafeRange r (record { from = from; below = None })
range_never r from fewer leaves = record {
  safe = λ f. (
    λ safe. elim (cases_lt f from) [ inl low ↦ absurd (unsafe_excess r f (fewer f low) safe) | inr high ↦ (high, tt) ],
    λ within. leaves f within.0,
  );
  excess = fewer;
  orphan = λ f none. absurd none;
}

-- the safe bounds of a run in which a delivery has an orphan from a bound on
pub range_to : (r : Recording) (from end : ℕ) → ((f : ℕ) → f < from → HasExcessInstant r f) → HasOrphanInstant r end
    → ((g : ℕ) → from ≤ g → g < end → IsSafeTrace r g) → IsSafeRange r (record { from = from; below = Some end })
range_to r from end fewer orphan between = record {
  safe = λ f. (
    λ safe. elim (cases_lt f from) [
      | inl low ↦ absurd (unsafe_excess r f (fewer f low) safe)
      | inr high ↦ elim (cases_lt f end) [ inl below ↦ (high, below) | inr more ↦ let x = more_orphan r end f more orphan in absurd ((safe x.0 x.2).no_orphan x.1 x.3) ]
    ],
    λ within. between f within.0 within.1,
  );
  excess = fewer;
  orphan = λ f more. more_orphan r end f more orphan;
}

-- an earliest breach is an orphan at some instant
pub orphan_of_breach : (r : Recording) (f : ℕ) (b : Breach) → EarliestBreach r f 0 (deliveries_in r.past) (Some b) → HasOrphanInstant r f
orphan_of_breach r f b h = grind arith

-- if no instant has an excess and the verdict is not `Accept`, a delivery has an orphan at some instant
pub orphan_unless : (r : Recording) (f : ℕ) (v : Verdict) → FirstExcess r f None → IsVerdict r f v → (v ≡ Accept → ⊥) → HasOrphanInstant r f
orphan_unless r f v none is other = grind arith
