-- In the states that legal steps reach, no instant has a slot with two survivors.
use Rattle.std.proofs.Common.{ℕ, ◌≡◌, ◌+◌, inl, inr, true, List, [], ◌∷◌, length, sym, ap, subst, ◌∙◌, arith}
use Rattle.std.proofs.lemmas.Bool.{or_cases, cases_lt}
use Rattle.causal_name.specs.declared.Det.{Det}
use Rattle.causal_name.specs.Sets.{any_below}
use Rattle.causal_holders.proofs.Lemmas.MemberCounts.{any_below-found}
use Rattle.causal_trace.specs.declared.entry.Entry.{Entry}
use Rattle.causal_trace.specs.Past.{logs, is_stable, instant}
use Rattle.causal_trace.specs.Survivors.{survives, SlotsAreSingle, IsFollowed}
use Rattle.causal_trace.proofs.Lemmas.AtInstants.{instants_stay, one_more_instant}
use Rattle.causal_steps.specs.Transit.{VolatileState, Survives}
use Rattle.causal_steps.specs.Steps.{IsStep, silent}
use Rattle.causal_steps.specs.Reachable.{IsReachableState, initial, next_state}
use Rattle.causal_steps.proofs.Lemmas.Reachable.{reachable_safe}

-- what is stable or logged survives
survivor : (n : ℕ) (past : List Entry) (v : VolatileState) (d : Det) → survives n past d ≡ true → Survives n past v d
survivor n past v d h = elim (or_cases (is_stable past d) (any_below n (λ p. logs past p d)) h) [
  | inl stable ↦ inl stable
  | inr logged ↦ inr (inl (any_below-found n (λ p. logs past p d) logged))
]

-- nothing survives before the first entry
none_survive : (n : ℕ) (d : Det) → survives n [] d ≡ true → ⊥
none_survive n d h = grind (arith, any_below-found n (λ p. logs [] p d))

initial_followed : (n : ℕ) → IsFollowed (record { processes = n; past = [] })
initial_followed n t within = rw (let none : t ≡ 0 = omega (arith, within) in none) (λ a b ha hb dest rsn. absurd (none_survive n a ha))

next_followed : (n f : ℕ) (e : Entry) (past : List Entry) (v w : VolatileState) → IsStep n f past v (e ∷ past) w → IsFollowed (record { processes = n; past = past }) → SlotsAreSingle n (e ∷ past) → IsFollowed (record { processes = n; past = e ∷ past })
next_followed n f e past v w move before now t within = elim (cases_lt (length past) t) [
  | inl late ↦ subst (SlotsAreSingle n) (sym (ap (instant (e ∷ past)) (let is : t ≡ length past + 1 = omega (arith, late, within) in is) ∙ one_more_instant e past)) now
  | inr early ↦ subst (SlotsAreSingle n) (sym (instants_stay e past t early)) (before t early)
]

step_followed : (n f : ℕ) (past next : List Entry) (v w : VolatileState) → IsFollowed (record { processes = n; past = past }) → IsStep n f past v next w → SlotsAreSingle n next → IsFollowed (record { processes = n; past = next })
step_followed n f past next v w before (silent m) now = before
step_followed n f past next v w before move now = next_followed n f _ past v w move before now

pub reachable_followed : (n f : ℕ) (past : List Entry) (v : VolatileState) → IsReachableState n f past v → IsFollowed (record { processes = n; past = past })
reachable_followed n f past v (initial v2 none) = initial_followed n
reachable_followed n f past v (next_state old next v2 w made move) =
    step_followed n f old past v2 v (reachable_followed n f old v2 made) move (λ a b ha hb. (reachable_safe n f past v (next_state old past v2 v made move)).facts.no_slot_shared a b (survivor n past v a ha) (survivor n past v b hb))
