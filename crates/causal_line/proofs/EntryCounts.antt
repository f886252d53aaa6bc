-- Values computed by a scan of all entries.
use Rattle.std.proofs.Common.{◌≡◌, ◌<◌, ◌+◌, ◌∙◌, ℕ, List, ◌∷◌, length, get_or, Option, subst, arith, Some, true}
use Rattle.causal_name.specs.declared.MsgName.{MsgName}
use Rattle.std.specs.Prelude.{reverse}
use Rattle.std.proofs.lemmas.List.{reverse-reverse}
use Rattle.causal_trace.specs.declared.entry.Entry.{Entry}
use Rattle.causal_trace.specs.Past.{det_of, det_at}
use Rattle.causal_line.specs.Deliveries.{delivery_position}
use Rattle.causal_name.specs.declared.Det.{Det}
use Rattle.causal_trace.specs.State.{past_at}
use Rattle.causal_trace.proofs.Lemmas.Instants.{past_more, past_length, past_whole, det_there}
use Rattle.std.specs.BTreeSet.{BTreeSet, contains, Updates}
use Rattle.std.proofs.lemmas.Bool.{cases_lt}
use Rattle.causal_name.specs.Names.{det_cmp}

-- all entries of a run are its past
pub whole : (past : List Entry) → past_at (reverse past) (length (reverse past)) ≡ past
whole past = past_whole (reverse past) ∙ reverse-reverse past

-- the determinant at a position is that of the entry there, given the entries before it
pub own_at : (past : List Entry) (i : ℕ) (e : Entry) → i < length (reverse past) → e ≡ get_or (reverse past) i e → det_at past i ≡ det_of (past_at (reverse past) i) e
own_at past i e below is = grind (arith, whole past, det_there)

-- the position of a message's delivery after one more entry
pub found_next : (past es : List Entry) (i : ℕ) (e : Entry) (p : ℕ) (m : MsgName) (found next : Option ℕ) (own : Option Det) → es ≡ reverse past → i < length es → e ≡ get_or es i e
    → own ≡ det_at past i → found ≡ delivery_position (past_at (reverse past) i) p m
    → ((before : List Entry) → i ≡ length before → own ≡ det_of before e → found ≡ delivery_position before p m → next ≡ delivery_position (e ∷ before) p m)
    → next ≡ delivery_position (past_at (reverse past) (i + 1)) p m
found_next past es i e p m found next own same below is own_is so step =
    grind (
      arith,
      past_more (reverse past) i e (subst (λ (xs : List Entry). i < length xs) same below) (subst (λ (xs : List Entry). e ≡ get_or xs i e) same is),
      past_length,
      own_at past i e (subst (λ (xs : List Entry). i < length xs) same below) (subst (λ (xs : List Entry). e ≡ get_or xs i e) same is),
    )

-- ---- the set of the determinants of the first deliveries

-- the set contains the determinants of the deliveries at the first k positions
abbrev pub HasFirst : List Entry → ℕ → BTreeSet Det → Type 0
HasFirst past k set = (j : ℕ) (d : Det) → j < k → det_at past j ≡ Some d → contains det_cmp set d ≡ true

-- the case where the next position has a delivery
pub first_more : (past : List Entry) (k : ℕ) (set next : BTreeSet Det) (det : Det) → HasFirst past k set → det_at past k ≡ Some det → Updates det_cmp set next det true → HasFirst past (k + 1) next
first_more past k set next det before is updates j d below at = grind (arith, cases_lt j k)

-- the case where it has none
pub first_same : (past : List Entry) (k : ℕ) (set : BTreeSet Det) → HasFirst past k set → ((d : Det) → det_at past k ≡ Some d → ⊥) → HasFirst past (k + 1) set
first_same past k set before none j d below at = grind (arith, cases_lt j k)
