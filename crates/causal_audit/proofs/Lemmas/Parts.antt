-- Adjacent parts of the followed deliveries.
use Rattle.std.proofs.lemmas.Grind.{common_steps}
use Rattle.causal_audit.proofs.Common.{ℕ, ◌≡◌, ◌+◌, ◌-◌, ◌≤◌, ◌++◌, Option, drop, length, take, ap, subst, ◌∙◌, arith, take-add, drop-drop}
use Rattle.causal_audit.specs.declared.breach.Breach.{Breach}
use Rattle.causal_audit.specs.BreachOrder.{earlier_breach}
use Rattle.causal_audit.specs.Parts.{FollowedDeliveries, EarliestAmongBy, EarliestOf, part_of}
use Rattle.causal_audit.proofs.AmongLemmas.{among_both}

-- all followed deliveries are a part
pub whole : (followed : FollowedDeliveries) → length followed.open_lengths ≡ length followed.positions → part_of followed 0 (length followed.positions) ≡ followed
whole followed same = grind (arith, common_steps, ap (λ n. take n followed.open_lengths) same)

-- the earliest breach of two adjacent parts is the earlier of their earliest breaches
pub least_of_both : (followed : FollowedDeliveries) (from mid to : ℕ) (one other : Option Breach) → from ≤ mid → mid ≤ to
    → EarliestOf (part_of followed from mid) one → EarliestOf (part_of followed mid to) other → EarliestOf (part_of followed from to) (earlier_breach one other)
least_of_both followed from mid to one other low high first second = let xs = followed.positions in
    let count : (mid - from) + (to - mid) ≡ to - from = omega (arith, low, high) in
    let place : from + (mid - from) ≡ mid = omega (arith, low) in
    let rest : take (to - mid) (drop (mid - from) (drop from xs)) ≡ take (to - mid) (drop mid xs) = ap (take (to - mid)) (drop-drop (mid - from) from xs ∙ ap (λ i. drop i xs) place) in
    let both : take (mid - from) (drop from xs) ++ take (to - mid) (drop mid xs) ≡ take (to - from) (drop from xs) = grind (arith, take-add) in
    subst (λ list. EarliestAmongBy followed.run followed.f followed.end list (earlier_breach one other)) both
    (among_both followed.run followed.f followed.end (take (mid - from) (drop from xs)) (take (to - mid) (drop mid xs)) one other first second)
