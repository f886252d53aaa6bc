-- The first determinant of a list that passes a test, for example that fills a slot.
use Rattle.std.proofs.Common.{arith, ◌≡◌, ◌⊎◌, ap, sym, Bool, true, false, List, [], ◌∷◌, find, Some, None, is_some, true≢false}
use Rattle.std.specs.List.{list_any}
use Rattle.causal_name.specs.declared.Det.{Det}
use Rattle.causal_name.specs.Names.{same_det, is_before, is_ascending}
use Rattle.causal_name.proofs.Lemmas.DetOrder.{same_is, same_itself}
use Rattle.causal_log.proofs.Lemmas.Ascents.{first_before, ascending_tail}
use Rattle.std.proofs.lemmas.Bool.{or_cases, or_right}

module _ (p : Det → Bool) where
  -- the first one that passes is in the list and passes
  pub first_fits : (ds : List Det) (least : Det) → find p ds ≡ Some least → (p least ≡ true) × (list_any (same_det least) ds ≡ true)
  first_fits [] least h = absurd (true≢false (sym (ap is_some h)))
  first_fits (d ∷ ds) least h = grind (arith, first_fits ds least, same_itself, or_right)

  -- if there is no first one, no determinant of the list passes
  pub none_fits : (ds : List Det) (det : Det) → find p ds ≡ None → list_any (same_det det) ds ≡ true → p det ≡ false
  none_fits [] det h there = absurd (true≢false (sym there))
  none_fits (d ∷ ds) det h there = grind (arith, none_fits ds det, same_is det d)

  -- in an ascending list, the first one that passes is the least
  pub first_least : (ds : List Det) (least det : Det) → is_ascending ds ≡ true → find p ds ≡ Some least → list_any (same_det det) ds ≡ true → p det ≡ true → (least ≡ det) ⊎ (is_before least det ≡ true)
  first_least [] least det ascend h there fit = absurd (true≢false (sym there))
  first_least (d ∷ ds) least det ascend h there fit = grind (arith, first_least ds least det (ascending_tail d ds ascend), or_cases (same_det det d) (list_any (same_det det) ds) there, same_is det d, first_before d ds det ascend)
