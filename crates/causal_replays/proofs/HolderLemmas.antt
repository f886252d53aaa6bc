-- How sets of holders change.
use Rattle.std.proofs.Math.ListN.{replicate}
use Rattle.std.proofs.Common.{ℕ, ◌≡◌, ◌<◌, inl, inr, true, false, List, length, get_or, set, refl, sym, ap, ◌∙◌, arith}
use Rattle.std.specs.Prelude.{◌==◌, ◌&&◌, ◌||◌, ◌↔◌, not, Option, Some, None, MatchOption}
use Rattle.std.specs.Option.{is_some}
use Rattle.std.specs.Ordering.{nat_cmp}
use Rattle.std.specs.FinSet.{FinSet, contains, insert, remove, empty, contains-empty}
use Rattle.std.proofs.lemmas.Bool.Decides.{eqb_tells}
use Rattle.std.proofs.lemmas.Bool.{false≢true, cases_lt}
use Rattle.causal_holders.specs.Members.{IsLeast}
use Rattle.std.proofs.lemmas.List.{get_or_default, get_or-set_same, get_or-set_other, get_or-replicate, get_or_past, length-replicate}
use Rattle.causal_replays.specs.Inside.Holdings.{holds}
use Rattle.causal_holders.proofs.Lemmas.Sets.{inserted, removed}

-- what the set at a number contains
pub holds_read : (holders : List (FinSet nat_cmp)) (j p : ℕ) (s : FinSet nat_cmp) → j < length holders → s ≡ get_or holders j s → holds holders j p ≡ contains s p
holds_read holders j p s there read = ap (λ t. contains t p) (get_or_default holders j empty s there ∙ sym read)

module _ (holders : List (FinSet nat_cmp)) (j : ℕ) (s : FinSet nat_cmp) (who i p : ℕ) (there : j < length holders) (read : s ≡ get_or holders j s) where
  here : i ≡ j → holds holders i p ≡ contains s p
  here is = ap (λ k. holds holders k p) is ∙ holds_read holders j p s there read

  pub held_added : holds (set holders j (insert s who)) i p ≡ ((i == j && who == p) || holds holders i p)
  held_added = grind (arith, eqb_tells i j, get_or-set_same, get_or-set_other, inserted s who p, here)

  pub held_less : holds (set holders j (remove s who)) i p ≡ (not (i == j && who == p) && holds holders i p)
  held_less = grind (arith, eqb_tells i j, get_or-set_same, get_or-set_other, removed s who p, here)

-- a number has a holder exactly if its set has a least member
pub holder_found : (holders : List (FinSet nat_cmp)) (j : ℕ) (s : FinSet nat_cmp) (o : Option ℕ) → j < length holders → s ≡ get_or holders j s → MatchOption o (s ≡ empty) (λ x. IsLeast s x) → (is_some o ≡ true) ↔ ((p : ℕ) × (holds holders j p ≡ true))
holder_found holders j s None there read h = (λ k. absurd (false≢true k), λ m. grind (arith, contains-empty, holds_read holders j m.0 s there read))
holder_found holders j s (Some x) there read h = (λ k. (x, holds_read holders j x s there read ∙ h.0), λ m. refl)

-- a list of the default has it at each index
pub all_default : {A : Type 0} (n i : ℕ) (d : A) → get_or (replicate n d) i d ≡ d
all_default n i d = elim (cases_lt i n) [ inl low ↦ get_or-replicate n i d d low | inr late ↦ get_or_past (replicate n d) i d (omega (arith, late, length-replicate n d)) ]

-- empty sets hold nothing
pub none_hold : (holders : List (FinSet nat_cmp)) (n : ℕ) → holders ≡ replicate n empty → (i p : ℕ) → holds holders i p ≡ false
none_hold holders n are i p = rw (are, all_default {A = FinSet nat_cmp} n i empty) (contains-empty nat_cmp p)
