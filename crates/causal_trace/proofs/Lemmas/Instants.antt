-- The states of a recording.
use Rattle.std.proofs.Common.{ℕ, zero, suc, cond, ◌≡◌, ◌+◌, ◌<◌, ◌≤◌, List, [], ◌∷◌, length, get_or, take, reverse, Some, None, refl, ap, ◌∙◌, arith}
use Rattle.std.proofs.lemmas.List.{take_more, take_all, reverse-append, length-reverse, length-take-le, take-append-drop, length-drop}
use Rattle.std.proofs.Math.Seq.{drop-append_seam}
use Rattle.std.proofs.lemmas.Option.{slice_get_cases}
use Rattle.std.proofs.lemmas.Bool.Decides.{eqb_tells}
use Rattle.std.specs.Prelude.{◌==◌, drop, slice_get}
use Rattle.causal_trace.specs.declared.entry.Entry.{Entry}
use Rattle.causal_trace.specs.State.{past_at}
use Rattle.causal_trace.specs.Past.{instant, entry_at, det_of, det_at}

past_next : (es : List Entry) (i : ℕ) (d : Entry) → i < length es → past_at es (i + 1) ≡ get_or es i d ∷ past_at es i
past_next es i d below = ap reverse (take_more es i d below) ∙ reverse-append (take i es) (get_or es i d ∷ [])

-- the next instant has one more entry
pub past_more : (es : List Entry) (i : ℕ) (x : Entry) → i < length es → x ≡ get_or es i x → past_at es (i + 1) ≡ x ∷ past_at es i
past_more es i x below is = grind (arith, past_next)

-- the state after t entries has t entries
pub past_length : (es : List Entry) (t : ℕ) → t ≤ length es → length (past_at es t) ≡ t
past_length es t within = length-reverse (take t es) ∙ length-take-le t es within

-- a lookup by position reads the entry there, given the entries before it
found_there : {A : Type 0} (at : List Entry → ℕ → A) (of : List Entry → Entry → A) → ((e : Entry) (past : List Entry) (k : ℕ) → at (e ∷ past) k ≡ cond (k == length past) (of past e) (at past k))
    → (es : List Entry) (t k : ℕ) (d : Entry) → t ≤ length es → k < t → at (past_at es t) k ≡ of (past_at es k) (get_or es k d)
found_there at of more es zero k d within below = absurd (omega (arith, below))
found_there at of more es (suc t) k d within below = grind (arith, more, eqb_tells, past_next es t d, past_length es t, found_there at of more es t k d)

-- the entry at a position of a state is that of the recording
pub entry_there : (es : List Entry) (t k : ℕ) (d : Entry) → t ≤ length es → k < t → entry_at (past_at es t) k ≡ Some (get_or es k d)
entry_there = found_there entry_at (λ past e. Some e) (λ e past k. refl)

-- no position at or above the length has an entry
pub entry_beyond : (past : List Entry) (k : ℕ) → length past ≤ k → entry_at past k ≡ None
entry_beyond [] k above = refl
entry_beyond (e ∷ past) k above = grind (arith, eqb_tells, entry_beyond past k)

-- the determinant at a position of a state is that of the entry there, given the entries before it
pub det_there : (es : List Entry) (t k : ℕ) (d : Entry) → t ≤ length es → k < t → det_at (past_at es t) k ≡ det_of (past_at es k) (get_or es k d)
det_there = found_there det_at det_of (λ e past k. refl)

-- the determinant at a position is unchanged by one more entry
pub det_more : (e : Entry) (past : List Entry) (k : ℕ) → k < length past → det_at (e ∷ past) k ≡ det_at past k
det_more e past k below = grind (arith, eqb_tells)

-- no position at or above the length has a delivery
pub det_beyond : (past : List Entry) (k : ℕ) → length past ≤ k → det_at past k ≡ None
det_beyond [] k above = refl
det_beyond (e ∷ past) k above = grind (arith, eqb_tells, det_beyond past k)

-- the state after all entries
pub past_whole : (es : List Entry) → past_at es (length es) ≡ reverse es
past_whole es = ap reverse (take_all (length es) es (omega arith))

-- the instants of a recording are the states after its first entries
pub instant_past : (es : List Entry) (t : ℕ) → t ≤ length es → instant (reverse es) t ≡ past_at es t
instant_past es t within =
    grind (
      arith,
      take-append-drop t es,
      reverse-append (take t es) (drop t es),
      length-reverse es,
      length-drop t es,
      length-reverse (drop t es),
      drop-append_seam,
    )

-- the entry at a position of a recording
pub entry_of : (es : List Entry) (i : ℕ) → entry_at (reverse es) i ≡ slice_get es i
entry_of es i = grind (arith, slice_get_cases, past_whole es, entry_there, entry_beyond, length-reverse es)
