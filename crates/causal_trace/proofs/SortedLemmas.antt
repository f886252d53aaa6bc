-- The newest delivery with a determinant, in a sorted set.
use Rattle.std.proofs.Common.{ℕ, ◌≡◌, ◌<◌, ◌≤◌, true, false, cond, List, [], ◌∷◌, ◌++◌, length, Some, None, refl, sym, ap, ◌∙◌, arith}
use Rattle.std.specs.declared.cmp.Ordering.{Ordering}
use Rattle.std.specs.declared.cmp.Ordering.TheVariants.{Less, Equal}
use Rattle.std.specs.declared.ops.Bound.TheVariants.{Included, Excluded}
use Rattle.std.specs.Ordering.{nat_cmp, ordering_then, ordering_reverse, is_gt, is_lt}
use Rattle.std.specs.Cmp.{nat_cmp_is, ranked, tied_itself}
use Rattle.std.specs.BTreeSet.{BTreeSet, contains, IsKeyRangeOf}
use Rattle.std.specs.BTreeMap.Range.{IsInRange}
use Rattle.std.specs.BTreeMap.{is_at}
use Rattle.std.proofs.lemmas.Map.Keys.{ge_from_not_lt}
use Rattle.std.proofs.lemmas.Bool.{false≢true}
use Rattle.std.proofs.lemmas.Bool.Decides.{nat_tests}
use Rattle.causal_name.specs.declared.Det.{Det}
use Rattle.causal_name.specs.Names.{det_cmp}
use Rattle.causal_name.proofs.Lemmas.DetOrder.{dets_total, exact_dets, det_ties, nat_ties}
use Rattle.causal_trace.specs.declared.sorted_deliveries.NumberedDelivery.{NumberedDelivery}
use Rattle.causal_trace.specs.declared.entry.Entry.{Entry}
use Rattle.causal_trace.specs.Numbers.{delivered_dets, number_of}
use Rattle.causal_trace.proofs.Lemmas.DeliveryNumbers.{listed_once}
use Rattle.causal_trace.proofs.TraceIndex.{deliveries_in_few}
use Rattle.causal_trace.specs.Inside.SortedDeliveries.{delivery_cmp, is_number_of}

-- a delivery's number is below the number of deliveries
pub number_low : (i : ℕ) (dets : List Det) (d : Det) → is_number_of i dets d ≡ true → i < length dets
number_low i [] d h = absurd (false≢true h)
number_low i (det ∷ older) d h = grind (arith, nat_tests, number_low i older d)

-- the greatest number below k of a delivery with the determinant is that of the newest among the first k
pub newest_is : (k : ℕ) (dets : List Det) (d : Det) (i : ℕ) → i < k → is_number_of i dets d ≡ true → ((j : ℕ) → j < k → is_number_of j dets d ≡ true → j ≤ i) → number_of k dets d ≡ Some i
newest_is k [] d i low h most = absurd (false≢true h)
newest_is k (det ∷ older) d i low h most =
    grind (arith, nat_tests, number_low i (det ∷ older) d, number_low, most (length older), newest_is k older d i low)

-- without such a delivery there is no newest
pub none_is : (k : ℕ) (dets : List Det) (d : Det) → ((j : ℕ) → j < k → is_number_of j dets d ≡ false) → number_of k dets d ≡ None
none_is k [] d none = refl
none_is k (det ∷ older) d none = grind (arith, nat_tests, number_low, none (length older), none_is k older d)

-- a delivery with this determinant
abbrev with_number : Det → ℕ → NumberedDelivery
with_number d i = record { det = d; number = i }

-- deliveries with one determinant are in the order of their numbers
by_number : (d : Det) (i j : ℕ) → delivery_cmp (with_number d i) (with_number d j) ≡ nat_cmp i j
by_number d i j = ap (λ r. ordering_then r (nat_cmp i j)) (tied_itself dets_total d)

-- of two orders, one the reverse of the other
between : (r s a b : Ordering) → r ≡ ordering_reverse s → is_gt (ordering_then r a) ≡ false → ordering_then s b ≡ Less → (s ≡ Equal) × (b ≡ Less)
between r s a b is low high = grind arith

-- the deliveries from number 0 to below number n of a determinant
abbrev IsIn : Det → ℕ → NumberedDelivery → Type 0
IsIn d n f = IsInRange delivery_cmp (Included (with_number d 0)) (Excluded (with_number d n)) f

-- they have the determinant, and a number below n
inside : (d : Det) (n : ℕ) (f : NumberedDelivery) → IsIn d n f → (f.det ≡ d) × (f.number < n)
inside d n f is =
    let both = between (det_cmp d f.det) (det_cmp f.det d) (nat_cmp 0 f.number) (nat_cmp f.number n) (dets_total.antisymm d f.det) is.0 is.1 in
    (exact_dets f.det d both.0, ranked f.number n Less (sym both.1))

-- each such delivery is among them
among : (d : Det) (n j : ℕ) → j < n → IsIn d n (with_number d j)
among d n j low = grind (arith, nat_tests, by_number, nat_cmp_is)

module _ (s : BTreeSet NumberedDelivery) (dets : List Det) (are : (d : Det) (i : ℕ) → contains delivery_cmp s (with_number d i) ≡ is_number_of i dets d) (d : Det) (k n : ℕ) (same : (j : ℕ) → j < k → j < length dets → j < n) (low : n ≤ k) (r : List NumberedDelivery) (is : IsKeyRangeOf delivery_cmp (Included (with_number d 0)) (Excluded (with_number d n)) s r) where
  -- the last delivery of the range is the newest with the determinant
  pub last_newest : (f : NumberedDelivery) (t : List NumberedDelivery) → r ≡ t ++ f ∷ [] → Some f.number ≡ number_of k dets d
  last_newest f t end =
      let within = is.3 f t end in
      let f_is = inside d n f within.0 in
      let there : is_number_of f.number dets d ≡ true = sym (are d f.number) ∙ ap (λ e. contains delivery_cmp s (with_number e f.number)) (sym f_is.0) ∙ within.1 in
      sym (newest_is k dets d f.number (omega (arith, low, f_is.1)) there
      (λ j below numbered.
      ge_from_not_lt f.number j
      (sym (ap is_lt (by_number d f.number j))
      ∙ ap (λ e. is_lt (delivery_cmp (with_number e f.number) (with_number d j))) (sym f_is.0)
      ∙ is.4 f t end (with_number d j) (among d n j (same j below (number_low j dets d numbered))) (are d j ∙ numbered))))

  -- without deliveries in the range there is no newest
  pub none_newest : r ≡ [] → None ≡ number_of k dets d
  none_newest empty = sym (none_is k dets d (λ j below. grind (arith, same j below, number_low j dets d, is.5 empty (with_number d j), among d n j, are d j)))

-- a set with one more delivery, the newest, has the deliveries with its determinant and with the older ones
pub numbered_next : (s new : BTreeSet NumberedDelivery) (dets : List Det) (a : Det) (n : ℕ) → length dets ≡ n → ((d : Det) (i : ℕ) → contains delivery_cmp s (with_number d i) ≡ is_number_of i dets d) → ((q : NumberedDelivery) → contains delivery_cmp new q ≡ cond (is_at (delivery_cmp (with_number a n)) q) true (contains delivery_cmp s q)) → (d : Det) (i : ℕ) → contains delivery_cmp new (with_number d i) ≡ is_number_of i (a ∷ dets) d
numbered_next s new dets a n count are added d i = grind (arith, nat_tests, det_ties, nat_ties, number_low i dets d, are d i, added (with_number d i))

-- there are at most as many deliveries as entries
pub dets_few : (past : List Entry) → length (delivered_dets past) ≤ length past
dets_few past = omega (arith, listed_once past, deliveries_in_few past)
