-- From one instant of a recorded run to the next, by the entry between them.
use Rattle.causal_audit.proofs.Common.{◌⊎◌, ℕ, ◌≡◌, ◌<◌, ◌≤◌, List, ◌∷◌, length, get_or, reverse, take, Some, ap, ◌∙◌, arith, nat_cmp, FinSet, empty, len, cond-false, cond-true, entry_beyond, refl, take_all, count_below, Entry, instant, entry_at, is_down, Recording, IsWellFormed, past_at, entries_of, count_below-none, accepted_then}
use Rattle.causal_trace.proofs.Lemmas.AtInstants.{found_then, state_at, next_state, no_entry}
use Rattle.causal_audit.specs.Inside.DeliveryStates.{HasExactly}
use Rattle.causal_audit.proofs.Between.{next_entry}
use Rattle.causal_audit.proofs.Shown.{shows_none, down_members, counted}

-- at the first instant no process is down
pub nobody_down : (past : List Entry) → HasExactly empty (λ p. is_down (instant past 0) p)
nobody_down past = shows_none (λ p. is_down (instant past 0) p) (λ p. ap (λ x. is_down x p) (no_entry past))

-- the size of a set of exactly the down processes is their count
pub down_count : (r : Recording) → IsWellFormed r → (t : ℕ) (s : FinSet nat_cmp) → HasExactly s (λ p. is_down (instant r.past t) p) → len s ≡ count_below r.processes (is_down (instant r.past t))
down_count r formed t s shown = counted r.processes s (is_down (instant r.past t)) (down_members r.processes (instant r.past t) s (accepted_then r.processes r.past t formed.accepted) shown)

-- so at the first instant at most f processes are down
pub few_at_first : (r : Recording) (f u : ℕ) → u ≤ 0 → count_below r.processes (is_down (instant r.past u)) ≤ f
few_at_first r f u h = grind (arith, count_below-none, no_entry r.past)

-- the entry read at a position is the entry at that position
pub entry_read : (r : Recording) (es : List Entry) → es ≡ entries_of r → (i : ℕ) (e : Entry) → i < length r.past → e ≡ get_or es i e → entry_at r.past i ≡ Some e
entry_read r es read i e below is = grind (arith, next_entry r.past i below, next_state r es read i e below is)

-- an entry before an instant is the same at each later instant
pub entry_then : (past : List Entry) (t v : ℕ) → v < t → t ≤ length past → entry_at (instant past t) v ≡ entry_at past v
entry_then = found_then entry_at (λ past e. Some e) (λ e past k. refl)

-- the first t entries are the past of instant t
pub begins : (r : Recording) (es : List Entry) → es ≡ entries_of r → (t : ℕ) → t ≤ length r.past → past_at (take t es) (length (take t es)) ≡ instant r.past t
begins r es read t within = ap reverse (take_all (length (take t es)) (take t es) (omega arith)) ∙ state_at r es read t within

-- the position of an entry is below the length
pub entry_within : (past : List Entry) (v : ℕ) (e : Entry) → entry_at past v ≡ Some e → v < length past
entry_within past v e at = grind (arith, entry_beyond)

-- an entry of a longer past is the newest or an older one
pub entry_cases : (e : Entry) (past : List Entry) (v : ℕ) (x : Entry) → entry_at (e ∷ past) v ≡ Some x → (entry_at past v ≡ Some x) ⊎ ((v ≡ length past) × (e ≡ x))
entry_cases e past v x at = grind (arith, cond-true, cond-false)
