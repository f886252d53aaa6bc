-- Holders in ascending order are the members of the set that they make, and the members of a set are listed without an error.
use Rattle.std.proofs.Common.{◌≡◌, ℕ, zero, suc, ◌+◌, ◌≤◌, ◌<◌, Bool, true, false, List, [], ◌∷◌, Option, Some, None, Ok, refl, sym, ap, subst, ◌∙◌, inl, inr, arith}
use Rattle.std.proofs.lemmas.List.Folds.{list_any_at}
use Rattle.std.proofs.lemmas.List.FromFn.{length-range_with_len, get_or-range_with_len}
use Rattle.std.proofs.lemmas.Map.Views.{any-filter_same}
use Rattle.std.specs.Prelude.{nat_eq, filter, ◌&&◌, if◌then◌else◌}
use Rattle.std.specs.Ordering.{nat_cmp}
use Rattle.std.specs.List.{list_any, range_with_len}
use Rattle.std.specs.Cmp.{nat_cmp_total}
use Rattle.std.specs.FinSet as set
use Rattle.std.proofs.lemmas.Bool.{false≢true, or_right, false_from_ne_true}
use Rattle.std.proofs.lemmas.Bool.Decides.{nat_tests, eqb_tells}
use Rattle.causal_holders.specs.Members.{ascending}
use Rattle.causal_wire.specs.declared.fault.WireFault.{WireFault}
use Rattle.causal_wire.specs.Parcels.{AreOthers}
use Rattle.causal_wire.specs.Reading.{others_fault, unless, others_of}
use Rattle.causal_wire.proofs.FieldLaws.{IsBytes, IsBytes-rest, ok_is}

abbrev no_fault : Option WireFault
no_fault = None

-- a list without an error: its first holder, and the holders after it
record IsFirst (n source least p : ℕ) (ps : List ℕ) : Type 0 where
  below : p < n
  from : least ≤ p
  other : p ≡ source → ⊥
  rest : others_fault n source (p + 1) ps ≡ no_fault

first_of : (n source least p : ℕ) (ps : List ℕ) → others_fault n source least (p ∷ ps) ≡ no_fault → IsFirst n source least p ps
first_of n source least p ps h = grind (arith, nat_tests)

from_first : (n source least p : ℕ) (ps : List ℕ) → IsFirst n source least p ps → others_fault n source least (p ∷ ps) ≡ no_fault
from_first n source least p ps f = grind (arith, nat_tests)

-- a lower bound may be lowered
lowered : (n source least lower : ℕ) (ps : List ℕ) → lower ≤ least → others_fault n source least ps ≡ no_fault → others_fault n source lower ps ≡ no_fault
lowered n source least lower [] le h = refl
lowered n source least lower (p ∷ ps) le h = grind (arith, nat_tests)

-- each holder of such a list is at least the bound, below n and not the source
listed_is : (n source least : ℕ) (ps : List ℕ) (q : ℕ) → others_fault n source least ps ≡ no_fault → list_any (nat_eq q) ps ≡ true → (least ≤ q) × (q < n) × (q ≡ source → ⊥)
listed_is n source least [] q h in_list = absurd (false≢true in_list)
listed_is n source least (p ∷ ps) q h in_list =
    let f = first_of n source least p ps h in
    grind (arith, nat_tests, f.below, f.from, f.other, listed_is n source (p + 1) ps q f.rest)

-- those of the k numbers from a on that pass
abbrev passing : ℕ → ℕ → (ℕ → Bool) → List ℕ
passing a k test = filter test (range_with_len a k)

passing-same : (a k : ℕ) (f g : ℕ → Bool) → ((q : ℕ) → a ≤ q → q < a + k → f q ≡ g q) → passing a k f ≡ passing a k g
passing-same a zero f g h = refl
passing-same a (suc k) f g h = grind (arith, h a, passing-same (a + 1) k f g)

-- numbers that pass, are below n and not the source, are listed without an error
passing-right : (n source a k : ℕ) (test : ℕ → Bool) → ((q : ℕ) → test q ≡ true → (q < n) × (q ≡ source → ⊥)) → others_fault n source a (passing a k test) ≡ no_fault
passing-right n source a zero test h = refl
passing-right n source a (suc k) test h = grind (arith, nat_tests, passing-right n source (a + 1) k test h, lowered n source (a + 1) a (passing (a + 1) k test), h a)

none_listed : (a k : ℕ) → passing a k (λ q. false) ≡ []
none_listed a zero = refl
none_listed a (suc k) = none_listed (a + 1) k

-- of the numbers from the bound on, those that such a list has are the list
listed-passing : (n source a k : ℕ) (ps : List ℕ) → others_fault n source a ps ≡ no_fault → ((q : ℕ) → list_any (nat_eq q) ps ≡ true → q < a + k) → passing a k (λ q. list_any (nat_eq q) ps) ≡ ps
listed-passing n source a k [] h below = none_listed a k
listed-passing n source a zero (p ∷ ps) h below = let f = first_of n source a p ps h in grind (arith, nat_tests, f.from, below p)
listed-passing n source a (suc k) (p ∷ ps) h below =
    let f = first_of n source a p ps h in
    elim (eqb_tells p a) [
      | inl t ↦
          let later : passing (a + 1) k (λ q. list_any (nat_eq q) (p ∷ ps)) ≡ passing (a + 1) k (λ q. list_any (nat_eq q) ps) = passing-same (a + 1) k _ _ (λ q above _. grind (arith, nat_tests, above, t.1)) in
          let rest : passing (a + 1) k (λ q. list_any (nat_eq q) ps) ≡ ps = listed-passing n source (a + 1) k ps (subst (λ b. others_fault n source (b + 1) ps ≡ no_fault) t.1 f.rest) (λ q q_in. omega (arith, below q (or_right (nat_eq q p) (list_any (nat_eq q) ps) q_in))) in
          grind (arith, nat_tests, later, rest)
      | inr t ↦
          let higher : others_fault n source (a + 1) (p ∷ ps) ≡ no_fault = from_first n source (a + 1) p ps (record { below = f.below; from = omega (arith, f.from, t.1); other = f.other; rest = f.rest }) in
          let gone : list_any (nat_eq a) (p ∷ ps) ≡ false = false_from_ne_true (list_any (nat_eq a) (p ∷ ps)) (λ a_in. let l = listed_is n source (a + 1) (p ∷ ps) a higher a_in in absurd (omega (arith, l.0))) in
          ap (λ b. if b then a ∷ passing (a + 1) k (λ q. list_any (nat_eq q) (p ∷ ps)) else passing (a + 1) k (λ q. list_any (nat_eq q) (p ∷ ps))) gone
          ∙ listed-passing n source (a + 1) k (p ∷ ps) higher (λ q q_in. omega (arith, below q q_in))
    ]

-- ---- sets

-- membership in the set of a list
member-of : (ps : List ℕ) (q : ℕ) → set.contains (set.from_list {R = nat_cmp} ps) q ≡ list_any (nat_eq q) ps
member-of [] q = set.contains-empty nat_cmp q
member-of (p ∷ ps) q = grind (arith, nat_tests, member-of ps q, set.contains-insert nat_cmp_total (set.from_list ps) p q)

bytes_below : (ps : List ℕ) (q : ℕ) → IsBytes ps → list_any (nat_eq q) ps ≡ true → q < 256
bytes_below [] q fits h = absurd (false≢true h)
bytes_below (p ∷ ps) q fits h = grind (arith, nat_tests, fits 0, bytes_below ps q (IsBytes-rest p ps fits))

-- what reading a list of holders gives
pub others_take : (n source : ℕ) (listed : List ℕ) (s : set.FinSet nat_cmp) → IsBytes listed → others_of n source listed ≡ Ok s → (ascending s ≡ listed) × AreOthers n source s
unfolding others_of
others_take n source listed s fits e =
    go (others_fault n source 0 listed) refl e
  where
    go : (f : Option WireFault) → others_fault n source 0 listed ≡ f → unless f (set.from_list listed) ≡ Ok s → (ascending s ≡ listed) × AreOthers n source s
    go None none k =
        let made : (ascending (set.from_list listed) ≡ listed) × AreOthers n source (set.from_list listed) = (
          passing-same 0 256 (set.contains (set.from_list listed)) (λ q. list_any (nat_eq q) listed) (λ q _ _. member-of listed q)
              ∙ listed-passing n source 0 256 listed none (λ q q_in. omega (arith, bytes_below listed q fits q_in)),
          record {
            processes = λ p h. (listed_is n source 0 listed p none (sym (member-of listed p) ∙ h)).1;
            others = false_from_ne_true (set.contains (set.from_list listed) source) (λ h. absurd ((listed_is n source 0 listed source none (sym (member-of listed source) ∙ h)).2 refl));
          },
        ) in
        subst (λ (t : set.FinSet nat_cmp). (ascending t ≡ listed) × AreOthers n source t) (ok_is (set.from_list listed) s k) made
    go (Some f) _ k = absurd cc

-- the members of a set, listed in ascending order, make the set
pub others_again : (n source : ℕ) (s : set.FinSet nat_cmp) → n ≤ 256 → AreOthers n source s → others_of n source (ascending s) ≡ Ok s
unfolding others_of
others_again n source s few others =
    let none : others_fault n source 0 (ascending s) ≡ no_fault = passing-right n source 0 256 (set.contains s) (λ q h. (others.processes q h, λ same. absurd (false≢true (sym others.others ∙ ap (set.contains s) (sym same) ∙ h)))) in
    let made : set.from_list (ascending s) ≡ s = set.same_set nat_cmp_total set.nat_cmp-IsAntisymmetric (set.from_list (ascending s)) s (λ q. member-of (ascending s) q ∙ in_range q) in
    ap (λ f. unless f (set.from_list (ascending s))) none ∙ ap (λ (t : set.FinSet nat_cmp). Ok t) made
  where
    in_range : (q : ℕ) → list_any (nat_eq q) (ascending s) ≡ set.contains s q
    in_range q =
        any-filter_same (nat_eq q) (set.contains s) (set.contains s q) (λ k same. grind (arith, nat_tests)) (range_with_len 0 256) ∙ within 256 few
      where
        within : (m : ℕ) → n ≤ m → (set.contains s q && list_any (nat_eq q) (range_with_len 0 m)) ≡ set.contains s q
        within m up = grind (arith, nat_tests, others.processes q, list_any_at (nat_eq q) (range_with_len 0 m) q 0, get_or-range_with_len 0 m q 0, length-range_with_len 0 m)
