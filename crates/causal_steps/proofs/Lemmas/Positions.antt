-- Determinants and messages at positions.
use Rattle.std.proofs.Common.{ℕ, ◌≡◌, ◌<◌, inl, inr, cond, List, [], ◌∷◌, length, Some, None, sym, ◌∙◌, arith}
use Rattle.std.specs.Prelude.{◌⊎◌, ◌==◌}
use Rattle.std.proofs.lemmas.Bool.{eq-eqb, ne_eqb, cond-true, cond-false}
use Rattle.std.proofs.lemmas.Bool.Decides.{eqb_tells}
use Rattle.causal_name.specs.declared.Det.{Det}
use Rattle.causal_name.specs.declared.MsgName.{MsgName}
use Rattle.causal_trace.specs.declared.entry.Entry.{Entry}
use Rattle.causal_trace.specs.Past.{det_of, det_at, message_at}

-- a choice by position, at the newest position
pub at_newest : {A : Type 0} (m l : ℕ) (x y : A) → m ≡ l → cond (m == l) x y ≡ x
at_newest m l x y is = cond-true (m == l) x y (eq-eqb m l is)

-- a choice by position, at an older position
pub at_older : {A : Type 0} (m l : ℕ) (x y : A) → m < l → cond (m == l) x y ≡ y
at_older m l x y below = cond-false (m == l) x y (ne_eqb m l (λ e. omega (arith, below, e)))

-- a determinant at a position is the newest entry's, or that of an older delivery
pub det_past : (e : Entry) (past : List Entry) (k : ℕ) (d : Det) → det_at (e ∷ past) k ≡ Some d → ((k ≡ length past) × (det_of past e ≡ Some d)) ⊎ (det_at past k ≡ Some d)
det_past e past k d h = grind (arith, eqb_tells k (length past), at_newest, cond-false)

-- an entry without a determinant leaves those of older deliveries unchanged
pub det_earlier : (e : Entry) (past : List Entry) (k : ℕ) (d : Det) → det_of past e ≡ None → det_at (e ∷ past) k ≡ Some d → det_at past k ≡ Some d
det_earlier e past k d none h = elim (det_past e past k d h) [ inl is ↦ absurd (let x : None ≡ Some d = sym none ∙ is.1 in cc) | inr at ↦ at ]

-- the determinant at an older position is unchanged
pub det_older : (e : Entry) (past : List Entry) (k : ℕ) (d : Det) → k < length past → det_at (e ∷ past) k ≡ Some d → det_at past k ≡ Some d
det_older e past k d below h = sym (at_older k (length past) (det_of past e) (det_at past k) below) ∙ h

pub det_below : (past : List Entry) (k : ℕ) (d : Det) → det_at past k ≡ Some d → k < length past
det_below [] k d h = absurd (let x : None ≡ Some d = h in cc)
det_below (e ∷ past) k d h = elim (det_past e past k d h) [ inl is ↦ omega (arith, is.0) | inr at ↦ omega (arith, det_below past k d at) ]

-- an entry that is not an event has no process
pub no_actor : (p : ℕ) → None ≡ Some p → ⊥
no_actor p h = cc

-- a message was sent at a position within the past
pub message_below : (past : List Entry) (m : ℕ) (x : MsgName) → message_at past m ≡ Some x → m < length past
message_below [] m x h = absurd (let none : None ≡ Some x = h in cc)
message_below (e ∷ past) m x h = grind (arith, eqb_tells m (length past), message_below past m x, cond-false)
