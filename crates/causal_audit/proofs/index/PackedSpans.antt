-- One more position in one of several lists that follow one another in one vector.
use Rattle.std.proofs.lemmas.Grind.{common_steps, get_or-set_at}
use Rattle.causal_audit.proofs.Common.{cases_lt, get_or_past, ℕ, ◌≡◌, ◌≢◌, ◌+◌, ◌-◌, ◌<◌, ◌≤◌, List, [], ◌∷◌, ◌++◌, length, take, drop, map, get_or, zero, suc, get_or-append_seam, get_or_default, set, refl, sym, ap, subst, ◌∙◌, arith, All, All-map, All-push, All-set, All-weaker, All-get_or, length-append, length-map, length-set, get_or-map, get_or-set_same, get_or-set_other, map-set}
use Rattle.std.proofs.lemmas.List.{drop-set-add, drop-set-lt, ext_get_or, length-drop, length-take-le, take-set-le}
use Rattle.std.proofs.lemmas.Bool.Decides.{eqb_tells}
use Rattle.std.proofs.Math.Seq.{take-suc-set}
use Rattle.causal_audit.specs.declared.index.packed_lists.ListSpan.{ListSpan}
use Rattle.causal_audit.specs.Inside.Index.Lists.{list_at, with_added}
use Rattle.causal_audit.specs.Inside.Index.Packed.{ArePacked, HasSpareCapacity, IsSpan, list_capacities, limit_before, list_in}

-- where the next list begins; for the last list the number of positions
abbrev limit_in : List ListSpan → ℕ → ℕ → ℕ
limit_in spans number size = (get_or spans (number + 1) (record { begin = size; end = size })).begin

-- a list's capacity is from its start to that of the next list
capacity_at : (size : ℕ) (spans : List ListSpan) (m : ℕ) (d : ListSpan) → m < length spans → get_or (list_capacities size spans) m 0 ≡ limit_in spans m size - (get_or spans m d).begin
capacity_at size [] m d there = absurd (omega (arith, there))
capacity_at size (s ∷ []) zero d there = refl
capacity_at size (s ∷ next ∷ rest) zero d there = refl
capacity_at size (s ∷ rest) (suc m) d there = grind (arith, capacity_at size rest m d (omega (arith, there)))

-- one more list with the last capacity
pub capacities_push : (b limit : ℕ) (spans : List ListSpan) → list_capacities limit (spans ++ record { begin = b; end = b } ∷ []) ≡ list_capacities b spans ++ (limit - b) ∷ []
capacities_push b limit [] = refl
capacities_push b limit (s ∷ []) = refl
capacities_push b limit (s ∷ next ∷ rest) = ap (λ xs. (next.begin - s.begin) ∷ xs) (capacities_push b limit (next ∷ rest))

-- a span with the same start leaves the capacities unchanged
capacities_still : (size : ℕ) (spans : List ListSpan) (m : ℕ) (new d : ListSpan) → m < length spans → new.begin ≡ (get_or spans m d).begin → list_capacities size (set spans m new) ≡ list_capacities size spans
capacities_still size [] m new d there same = refl
capacities_still size (s ∷ rest) zero new d there same = ap (λ b. (limit_before size rest - b) ∷ list_capacities size rest) same
capacities_still size (s ∷ []) (suc m) new d there same = absurd (omega (arith, there))
capacities_still size (s ∷ next ∷ rest) (suc zero) new d there same =
    let later = capacities_still size (next ∷ rest) zero new d (omega (arith, there)) same in
    ap (λ b. (b - s.begin) ∷ list_capacities size (new ∷ rest)) same ∙ ap (λ xs. (next.begin - s.begin) ∷ xs) later
capacities_still size (s ∷ next ∷ rest) (suc (suc m)) new d there same =
    ap (λ xs. (next.begin - s.begin) ∷ xs) (capacities_still size (next ∷ rest) (suc m) new d (omega (arith, there)) same)

limit_inside : (size : ℕ) (spans : List ListSpan) (m : ℕ) (s : ListSpan) → ArePacked size spans → limit_in spans m size ≤ size
limit_inside size spans m s packed =
    let nothing : ListSpan = record { begin = size; end = size } in
    grind (arith, cases_lt (m + 1) (length spans), get_or_default spans (m + 1) nothing s, get_or_past spans (m + 1) nothing, packed.each (m + 1) s)

-- a list with spare capacity ends before its limit and within the positions
spare_in : (ps : List ℕ) (spans : List ListSpan) (m : ℕ) (s : ListSpan) → ArePacked (length ps) spans → HasSpareCapacity (record { lists = map (list_in ps) spans; capacities = list_capacities (length ps) spans }) m → s ≡ get_or spans m s → (m < length spans) × (s.end + 1 ≤ limit_in spans m (length ps)) × (s.end < length ps)
spare_in ps spans m s packed has is =
    let there : m < length spans = omega (arith, has.there, length-map spans (list_in ps)) in
    let inside : IsSpan (length ps) s = subst (IsSpan (length ps)) (sym is) (All-get_or (IsSpan (length ps)) spans m s there packed.each) in
    let list : list_at (map (list_in ps) spans) m ≡ list_in ps s = get_or-map (list_in ps) spans m s [] there ∙ ap (list_in ps) (sym is) in
    let long : length (list_in ps s) ≡ s.end - s.begin = grind (arith, common_steps, length-drop s.begin ps, length-take-le, inside.order, inside.within) in
    let room : s.end + 1 ≤ limit_in spans m (length ps) = omega (arith, has.spare, ap length list, long, capacity_at (length ps) spans m s there, ap (λ (x : ListSpan). x.begin) is, inside.order) in
    (there, room, omega (arith, room, limit_inside (length ps) spans m s packed))

-- lists that end where they begin are empty
pub none_in : (ps : List ℕ) (spans : List ListSpan) → All (λ (s : ListSpan). s.begin ≡ s.end) spans → All (λ list. list ≡ []) (map (list_in ps) spans)
none_in ps spans all = All-map (λ list. list ≡ []) (list_in ps) spans (All-weaker (λ (s : ListSpan). s.begin ≡ s.end) (λ s. list_in ps s ≡ []) (λ s h.
    let none : s.end - s.begin ≡ 0 = omega (arith, h) in
    ap (λ n. take n (drop s.begin ps)) none) spans all)

-- one more empty list after the others
pub packed_push : (b limit : ℕ) (spans new : List ListSpan) → new ≡ spans ++ record { begin = b; end = b } ∷ [] → b ≤ limit → ArePacked b spans → ArePacked limit new
packed_push b limit spans new is more packed = grind (arith, common_steps, All-push, All-weaker, length-append, get_or-append_seam)

-- a write outside of a list does not change it
outside : (ps : List ℕ) (e v : ℕ) (s : ListSpan) → (s.end ≤ e) × (s.begin ≤ s.end) → list_in (set ps e v) s ≡ list_in ps s
outside ps e v s is = grind (arith, drop-set-add s.begin ps (e - s.begin) v, take-set-le)

module _ (ps : List ℕ) (spans : List ListSpan) (m v : ℕ) (s new : ListSpan) (packed : ArePacked (length ps) spans) (there : m < length spans) (is : s ≡ get_or spans m s) (room : s.end + 1 ≤ limit_in spans m (length ps))
    (begin : new.begin ≡ s.begin) (end : new.end ≡ s.end + 1) where
  here : (d : ListSpan) → get_or spans m d ≡ s
  here d = get_or_default spans m d s there ∙ sym is

  -- the end of a list's capacity
  abbrev nothing : ListSpan
  nothing = record { begin = length ps; end = length ps }

  next : m + 1 < length spans → limit_in spans m (length ps) ≡ (get_or spans (m + 1) s).begin
  next inside = ap (λ (x : ListSpan). x.begin) (get_or_default spans (m + 1) nothing s inside)

  -- it is at or before the start of each later list
  limit_low : (j : ℕ) → m < j → j < length spans → limit_in spans m (length ps) ≤ (get_or spans j s).begin
  limit_low j after inside = grind (arith, eqb_tells j (m + 1), next (omega (arith, after, inside)))

  -- the other lists are unchanged
  other : (j : ℕ) → j ≢ m → j < length spans → list_in (set ps s.end v) (get_or spans j s) ≡ list_in ps (get_or spans j s)
  other j apart inside = grind (arith, here s, outside, limit_low, drop-set-lt)

  longer : list_in (set ps s.end v) new ≡ list_at (map (list_in ps) spans) m ++ v ∷ []
  longer = grind (arith, drop-set-add s.begin ps (s.end - s.begin) v, take-suc-set, length-drop s.begin ps, limit_inside (length ps) spans m s packed, here s, get_or-map (list_in ps) spans m s [] there)

  -- the lists are those with the position added
  packed_more : map (list_in (set ps s.end v)) (set spans m new) ≡ with_added (map (list_in ps) spans) m v
  packed_more =
      let f = list_in (set ps s.end v) in
      let lists = map (list_in ps) spans in
      let list = list_at lists m ++ v ∷ [] in
      map-set f spans m new ∙ ap (set (map f spans) m) longer
      ∙ ext_get_or [] (set (map f spans) m list) (set lists m list) (omega (arith, length-map spans f, length-map spans (list_in ps), length-set (map f spans) m list, length-set lists m list))
      (λ i low. grind (arith, eqb_tells i m, length-set, length-map, get_or-set_at, get_or-set_other, get_or-map f spans i s [], get_or-map (list_in ps) spans i s [], other i))

  -- a field in which the new span equals the old is unchanged in all spans
  kept : (f : ListSpan → ℕ) → f new ≡ f s → (i : ℕ) (d : ListSpan) → f (get_or (set spans m new) i d) ≡ f (get_or spans i d)
  kept f same i d = grind (arith, eqb_tells i m, get_or-set_same spans m new d there, here d, get_or-set_other)

  -- the lists still follow one another
  packed_still : ArePacked (length (set ps s.end v)) (set spans m new)
  packed_still =
      grind (arith, common_steps, length-set, All-set, limit_inside (length ps) spans m s packed, All-weaker, kept, eqb_tells, get_or-set_same, limit_low, get_or-set_other)

-- after a position is added to a list with spare capacity: its span ended within the positions, the spans still follow
-- one another, the lists are those with the position added, and their capacities are unchanged
pub record IsAdded (ps : List ℕ) (spans : List ListSpan) (m v : ℕ) (s new : ListSpan) : Type 0 where
  pub within : s.end < length ps
  pub packed : ArePacked (length (set ps s.end v)) (set spans m new)
  pub lists : map (list_in (set ps s.end v)) (set spans m new) ≡ with_added (map (list_in ps) spans) m v
  pub capacities : list_capacities (length (set ps s.end v)) (set spans m new) ≡ list_capacities (length ps) spans

pub added : (ps : List ℕ) (spans : List ListSpan) (m v : ℕ) (s new : ListSpan) → ArePacked (length ps) spans → HasSpareCapacity (record { lists = map (list_in ps) spans; capacities = list_capacities (length ps) spans }) m → s ≡ get_or spans m s
    → new.begin ≡ s.begin → new.end ≡ s.end + 1 → IsAdded ps spans m v s new
added ps spans m v s new packed has is begin end =
    let spare = spare_in ps spans m s packed has is in
    record {
      within = spare.2;
      packed = packed_still ps spans m v s new packed spare.0 is spare.1 begin end;
      lists = packed_more ps spans m v s new packed spare.0 is spare.1 begin end;
      capacities = ap (λ n. list_capacities n (set spans m new)) (length-set ps s.end v) ∙ capacities_still (length ps) spans m new s spare.0 (begin ∙ ap (λ (x : ListSpan). x.begin) is);
    }
