-- Lists of determinants, and the deliveries that have them.
use Rattle.std.proofs.Common.{ℕ, ◌≡◌, true, List, [], ◌∷◌, ◌++◌, length, Some, None, refl, ◌∙◌, arith}
use Rattle.std.specs.Prelude.{◌||◌, ◌==◌}
use Rattle.std.proofs.lemmas.Bool.{cond-true, eq-eqb, ne_eqb, false≢true}
use Rattle.std.proofs.lemmas.Bool.Decides.{eqb_tells}
use Rattle.causal_name.specs.declared.Det.{Det}
use Rattle.causal_name.specs.Names.{same_det}
use Rattle.causal_name.proofs.Lemmas.DetOrder.{same_itself}
use Rattle.causal_trace.specs.declared.entry.Entry.{Entry}
use Rattle.causal_trace.specs.Past.{det_at, det_of, is_delivered, list_has}
use Rattle.causal_trace.proofs.Lemmas.AtInstants.{det_within}

-- a list with one more determinant
pub has_more : (dets : List Det) (det d : Det) → list_has (dets ++ det ∷ []) d ≡ (list_has dets d || same_det d det)
has_more [] det d = grind arith
has_more (x ∷ dets) det d = grind (arith, has_more dets det d)

newest_det : (e : Entry) (past : List Entry) (d : Det) → det_of past e ≡ Some d → (k : ℕ) × (det_at (e ∷ past) k ≡ Some d)
newest_det e past d h = (length past, cond-true (length past == length past) (det_of past e) (det_at past (length past)) (eq-eqb (length past) (length past) refl) ∙ h)

-- the position of a delivery with a delivered determinant
pub found_det : (past : List Entry) (d : Det) → is_delivered past d ≡ true → (k : ℕ) × (det_at past k ≡ Some d)
found_det [] d h = absurd (false≢true h)
found_det (e ∷ past) d h = grind (arith, newest_det, det_within, ne_eqb, found_det past d)

-- the determinant of a delivery is delivered
pub at_delivered : (past : List Entry) (d : Det) (k : ℕ) → det_at past k ≡ Some d → is_delivered past d ≡ true
at_delivered [] d k h = absurd (let e : None ≡ Some d = h in cc)
at_delivered (e ∷ past) d k h = grind (arith, eqb_tells, same_itself, cond-true, at_delivered past d k)
