-- The deliveries of a trace in the order of their determinants.
use Rattle.std.specs.Prelude.{◌≡◌, ℕ, Bool, true, false, ◌==◌, if◌then◌else◌, List, [], ◌∷◌, length}
use Rattle.std.specs.Ordering.{nat_cmp, ordering_then}
use Rattle.std.specs.declared.cmp.Ordering.{Ordering}
use Rattle.std.specs.BTreeSet.{contains}
use Rattle.causal_name.specs.Names.{det_cmp, same_det}
use Rattle.causal_name.specs.declared.Det.{Det}
use Rattle.causal_trace.specs.declared.sorted_deliveries.NumberedDelivery.{NumberedDelivery}
use Rattle.causal_trace.specs.declared.sorted_deliveries.SortedDeliveries.{SortedDeliveries}

-- the order of deliveries, by determinant, then number
abbrev pub delivery_cmp : NumberedDelivery → NumberedDelivery → Ordering
delivery_cmp a b = ordering_then (det_cmp a.det b.det) (nat_cmp a.number b.number)

-- whether delivery number i has this determinant, by the list of determinants, newest first
abbrev pub is_number_of : ℕ → List Det → Det → Bool
is_number_of i [] d = false
is_number_of i (det ∷ older) d = if i == length older then same_det det d else is_number_of i older d

-- if complete, the set contains exactly the deliveries with these determinants, which are listed newest first
abbrev pub AreDeliveries : SortedDeliveries → List Det → Type 0
AreDeliveries sorted dets = sorted.complete ≡ true → (d : Det) (i : ℕ) → contains delivery_cmp sorted.deliveries (record { det = d; number = i }) ≡ is_number_of i dets d
