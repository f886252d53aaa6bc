-- Facts of a run that hold at each of its instants.
use Rattle.std.proofs.Common.{ℕ, zero, suc, cond, ◌≡◌, ◌+◌, ◌-◌, ◌<◌, ◌≤◌, List, [], ◌∷◌, length, get_or, drop, reverse, Some, refl, sym, ap, ◌∙◌, arith}
use Rattle.std.specs.Prelude.{◌==◌}
use Rattle.std.proofs.lemmas.List.{length-drop, length-reverse, reverse-reverse}
use Rattle.std.proofs.lemmas.Bool.{cases_lt, cond-false, ne_eqb}
use Rattle.causal_name.specs.declared.Det.{Det}
use Rattle.causal_trace.specs.declared.entry.Entry.{Entry}
use Rattle.causal_trace.specs.Past.{instant, det_at, det_of}
use Rattle.causal_trace.specs.Rows.{Recording, AreLegalEntries}
use Rattle.causal_trace.specs.State.{entries_of, past_at}
use Rattle.causal_trace.proofs.Lemmas.Instants.{det_beyond, past_more, instant_past}

-- one more entry leaves the earlier instants unchanged
pub instants_stay : (e : Entry) (past : List Entry) (t : ℕ) → t ≤ length past → instant (e ∷ past) t ≡ instant past t
instants_stay e past t within = grind arith

-- after one more entry, the newest instant is the whole past
pub one_more_instant : (e : Entry) (past : List Entry) → instant (e ∷ past) (length past + 1) ≡ e ∷ past
one_more_instant e past = ap (λ n. drop n (e ∷ past)) (let none : length (e ∷ past) - (length past + 1) ≡ 0 = omega arith in none)

-- a fact that survives the removal of the newest entry holds of each older past
pub older : (P : List Entry → Type 0) → ((e : Entry) (past : List Entry) → P (e ∷ past) → P past) → (n : ℕ) (past : List Entry) → P past → P (drop n past)
older P step zero past h = h
older P step (suc n) [] h = h
older P step (suc n) (e ∷ past) h = older P step n past (step e past h)

-- so it holds at each instant
pub at_instant : (P : List Entry → Type 0) → ((e : Entry) (past : List Entry) → P (e ∷ past) → P past) → (past : List Entry) (t : ℕ) → P past → P (instant past t)
at_instant P step past t h = older P step (length past - t) past h

-- a well-formed run is well formed at each instant
pub accepted_then : (n : ℕ) (past : List Entry) (t : ℕ) → AreLegalEntries n past → AreLegalEntries n (instant past t)
accepted_then n past t h = at_instant (AreLegalEntries n) (λ e p k. k.0) past t h

-- instant t has t entries
pub instant_length : (past : List Entry) (t : ℕ) → t ≤ length past → length (instant past t) ≡ t
instant_length past t within = length-drop (length past - t) past ∙ (let e : length past - (length past - t) ≡ t = omega (arith, within) in e)

-- the last instant is the whole past
pub last_instant : (past : List Entry) → instant past (length past) ≡ past
last_instant past = ap (λ n. drop n past) (let none : length past - length past ≡ 0 = omega arith in none)

-- the states of the entries, oldest first, are the instants
pub read_instant : (past : List Entry) (t : ℕ) → t ≤ length past → past_at (reverse past) t ≡ instant past t
read_instant past t within = grind (arith, reverse-reverse past, length-reverse past, instant_past (reverse past) t)

-- the first instant has no entries
pub no_entry : (past : List Entry) → instant past 0 ≡ []
no_entry past = sym (read_instant past 0 (omega arith))

-- a property of each instant up to t, and of the next, is one of each up to the next
pub up_to_next : (P : ℕ → Type 0) (t : ℕ) → ((u : ℕ) → u ≤ t → P u) → P (t + 1) → (u : ℕ) → u ≤ t + 1 → P u
up_to_next P t before here u h = grind arith

module _ (r : Recording) (es : List Entry) (read : es ≡ entries_of r) where
  -- the number of entries read is that of the run
  pub how_many : length es ≡ length r.past
  how_many = ap length read ∙ length-reverse r.past

  -- the states of the entries read are the instants of the run
  pub state_at : (t : ℕ) → t ≤ length r.past → past_at es t ≡ instant r.past t
  state_at t within = ap (λ x. past_at x t) read ∙ read_instant r.past t within

  -- the next instant has one more entry
  pub next_state : (t : ℕ) (e : Entry) → t < length r.past → e ≡ get_or es t e → instant r.past (t + 1) ≡ e ∷ instant r.past t
  next_state t e inside is =
      sym (state_at (t + 1) (omega (arith, inside))) ∙ past_more es t e (omega (arith, inside, how_many)) is ∙ ap (λ p. e ∷ p) (state_at t (omega (arith, inside)))

-- the position of a delivery is below the length of the past
pub det_within : (past : List Entry) (k : ℕ) (d : Det) → det_at past k ≡ Some d → k < length past
det_within past k d at = grind (arith, det_beyond)

-- a lookup by position has the same result at each later instant
pub found_then : {A : Type 0} (at : List Entry → ℕ → A) (of : List Entry → Entry → A) → ((e : Entry) (past : List Entry) (k : ℕ) → at (e ∷ past) k ≡ cond (k == length past) (of past e) (at past k))
    → (past : List Entry) (t k : ℕ) → k < t → t ≤ length past → at (instant past t) k ≡ at past k
found_then at of more [] t k below within = absurd (omega (arith, below, within))
found_then at of more (e ∷ past) t k below within = grind (arith, cases_lt, instants_stay, found_then at of more past t k below, cond-false, ne_eqb)

-- a delivery's determinant is the same at each later instant
pub det_then : (past : List Entry) (t k : ℕ) → k < t → t ≤ length past → det_at (instant past t) k ≡ det_at past k
det_then = found_then det_at det_of (λ e past k. refl)

-- a delivery of an instant is one of the run
pub delivered_in : (past : List Entry) (t k : ℕ) (d : Det) → t ≤ length past → det_at (instant past t) k ≡ Some d → det_at past k ≡ Some d
delivered_in past t k d within at =
    let early : k < t = omega (arith, det_within (instant past t) k d at, instant_length past t within) in
    sym (det_then past t k early within) ∙ at

-- the first t entries, oldest first, are instant t of their past
pub asked_instant : (slice entries past : List Entry) (t : ℕ) → slice ≡ entries → reverse entries ≡ past → t ≤ length past → past_at slice t ≡ instant past t
asked_instant slice entries past t same made within = grind (arith, instant_past, length-reverse)
