-- The deliveries that one more entry may newly orphan.
use Rattle.causal_audit.proofs.Common.{ℕ, zero, suc, ◌≡◌, ◌<◌, inl, inr, true, false, List, [], ◌∷◌, length, Option, Some, None, refl, sym, ap, subst, ◌∙◌, arith, ◌≤◌, Bool, ◌⊎◌, ◌&&◌, ◌==◌, not, same_det, false≢true, cases_Bool, cases_lt, eqb-true, eqb_tells, eq-eqb, or_parts, cond-true, cond-false, ne_eqb, nat_tests, Pid, Det, Entry, Send, Deliver, Stable, Crash, Restart, Forget, is_down, lane, is_stable, logs, list_has, det_at, det_of, AreLegalEntries, actor, is_delivery_of, IsEventOf, in_order, by_message, Reaches, itself, onward, Depends, event_below, reaches_old, reaches_newest, ReachesNewest, is_newest, in_lane, through_message, reaches_begins, accepted_forward, count_below, count_below-within, HasOrphan}
use Rattle.causal_audit.proofs.Between.{reaches_more, IsNoTurn, depends_before}
use Rattle.causal_audit.specs.Laws.{down_or_holding}
use Rattle.causal_audit.specs.NoRelease.{may_release}
use Rattle.causal_audit.specs.NewOrphans.{NewOrphansLaw, OneNewOrphan}
use Rattle.causal_audit.proofs.Lemmas.OrphansByCounts.{exposed, unexposed, orphan_without}
use Rattle.causal_audit.proofs.safety_scan.CoverStays.{gone_more}
use Rattle.causal_audit.proofs.Legal.{sends_up}
use Rattle.causal_trace.proofs.Lemmas.DependenceSteps.{delivers_below}

-- ==== whether an event reaches another, and whether a process depends on a delivery, is decidable

-- a proposition that holds or does not
abbrev pub Known : Type 0 → Type 0
Known P = P ⊎ (P → ⊥)

pub both_known : {A B : Type 0} → Known A → Known B → Known (A × B)
both_known (inl a) (inl b) = inl (a, b)
both_known (inl a) (inr none) = inr (λ both. none both.1)
both_known (inr none) b = inr (λ both. none both.0)

either_known : {A B : Type 0} → Known A → Known B → Known (A ⊎ B)
either_known (inl a) b = inl (inl a)
either_known (inr none) (inl b) = inl (inr b)
either_known (inr none) (inr neither) = inr (λ some. elim some [ inl a ↦ none a | inr b ↦ neither b ])

-- equivalent propositions are decided alike
known_as : {A B : Type 0} → Known A → (A → B) → (B → A) → Known B
known_as k to from = elim k [ inl a ↦ inl (to a) | inr none ↦ inr (λ b. none (from b)) ]

pub known_bool : (a b : Bool) → Known (a ≡ b)
known_bool true true = inl refl
known_bool true false = inr (λ same. false≢true (sym same))
known_bool false true = inr false≢true
known_bool false false = inl refl

same_known : (m n : ℕ) → Known (m ≡ n)
same_known m n = elim (eqb_tells m n) [ inl same ↦ inl same.1 | inr apart ↦ inr apart.1 ]

-- whether an event is of a process
actor_known : (o : Option ℕ) (p : ℕ) → Known (o ≡ Some p)
actor_known None p = inr (λ is. let x : None ≡ Some p = is in cc)
actor_known (Some q) p = known_as (same_known q p) (ap (λ n. Some n)) (λ is. let x : Some q ≡ Some p = is in cc)

-- whether an entry is an event of p in this lane
event_known : (past : List Entry) (i p l : ℕ) → Known (IsEventOf past i p l)
event_known [] i p l = inr (λ at. at)
event_known (e ∷ past) i p l =
    either_known (event_known past i p l)
    (known_as (both_known (same_known i (length past)) (both_known (actor_known (actor e) p) (same_known (lane past p) l))) (λ at. (at.0, at.1.0, at.1.1)) (λ at. (at.0, (at.1, at.2))))

-- an entry that is not an event is not reached
no_event_reached : (e : Entry) (past : List Entry) (k i : ℕ) → actor e ≡ None → ((j : ℕ) → is_delivery_of j e ≡ false) → i ≡ length past → Reaches (e ∷ past) k i → ⊥
no_event_reached e past k i none quiet is (itself q l (inl at)) = omega (arith, event_below past k q l at, is)
no_event_reached e past k i none quiet is (itself q l (inr at)) = let x : None ≡ Some q = sym none ∙ at.1 in cc
no_event_reached e past k i none quiet is (onward {j} r (in_order q l h a (inl b))) = omega (arith, event_below past i q l b, is)
no_event_reached e past k i none quiet is (onward {j} r (in_order q l h a (inr b))) = let x : None ≡ Some q = sym none ∙ b.1 in cc
no_event_reached e past k i none quiet is (onward {j} r (by_message (inl h))) = omega (arith, delivers_below past i j h, is)
no_event_reached e past k i none quiet is (onward {j} r (by_message (inr h))) = false≢true (sym (quiet j) ∙ h.1)

-- if a property is decidable for each number below a bound, it is decidable whether some number has it
pub some_below : (P : ℕ → Type 0) (n : ℕ) → ((j : ℕ) → j < n → Known (P j)) → Known ((j : ℕ) × (j < n) × P j)
some_below P zero known = inr (λ some. absurd (omega (arith, some.1)))
some_below P (suc n) known = elim (either_known (known n (omega arith)) (some_below P n (λ j below. known j (omega (arith, below))))) [
  | inl (inl here) ↦ inl (n, omega arith, here)
  | inl (inr some) ↦ inl (some.0, omega (arith, some.1), some.2)
  | inr none ↦ inr (λ some. elim (cases_lt some.0 n) [
    | inl early ↦ none (inr (some.0, early, some.2))
    | inr late ↦ let same : some.0 ≡ n = omega (arith, late, some.1) in none (inl (subst P same some.2))
  ])
]

module _ (n : ℕ) (past : List Entry) (k : ℕ) (before : (j : ℕ) → j < length past → Known (Reaches past k j)) where
  mate_known : (p : ℕ) → Known ((j : ℕ) × (j < length past) × (IsEventOf past j p (lane past p) × Reaches past k j))
  mate_known p = some_below (λ j. IsEventOf past j p (lane past p) × Reaches past k j) (length past) (λ j below. both_known (event_known past j p (lane past p)) (before j below))

  -- whether the newest entry, an event of p, is reached: it is k, or an earlier event of its lane or its message's send
  -- is reached
  event_reached : (e : Entry) (i p : ℕ) → AreLegalEntries n (e ∷ past) → i ≡ length past → actor e ≡ Some p
      → Known ((j : ℕ) × (is_delivery_of j e ≡ true) × Reaches past k j) → Known (Reaches (e ∷ past) k i)
  event_reached e i p formed is who sent =
      let here : IsEventOf (e ∷ past) i p (lane past p) = inr (is, who, refl) in
      elim (either_known (same_known k i) (either_known (mate_known p) sent)) [
        | inl (inl same) ↦ inl (subst (λ x. Reaches (e ∷ past) x i) (sym same) (itself p (lane past p) here))
        | inl (inr (inl mate)) ↦ inl (onward (reaches_more e past k mate.0 mate.2.1) (in_order p (lane past p) (omega (arith, mate.1, is)) (inl mate.2.0) here))
        | inl (inr (inr by)) ↦ inl (onward (reaches_more e past k by.0 by.2) (by_message (inr (is, by.1))))
        | inr none ↦ inr (λ r. elim (reaches_newest e past k p i (accepted_forward n (e ∷ past) formed) is who r) [
          | is_newest same ↦ none (inl (same ∙ sym is))
          | in_lane j at reach ↦ none (inr (inl (j, event_below past j p (lane past p) at, (at, reach))))
          | through_message j of reach ↦ none (inr (inr (j, of, reach)))
        ])
      ]

  newest_known : (e : Entry) (i : ℕ) → AreLegalEntries n (e ∷ past) → i ≡ length past → Known (Reaches (e ∷ past) k i)
  newest_known (Send from to ssn) i formed is = event_reached (Send from to ssn) i from.0 formed is refl (inr (λ by. false≢true by.1))
  newest_known (Deliver to send rsn listed) i formed is =
      let e = Deliver to send rsn listed in
      let early : send < length past = accepted_forward n (e ∷ past) formed (length past) send (inr (refl, eq-eqb send send refl)) in
      event_reached e i to.0 formed is refl (known_as (before send early) (λ r. (send, eq-eqb send send refl, r)) (λ by. subst (Reaches past k) (sym (eqb-true send by.0 by.1)) by.2))
  newest_known e i formed is = inr (no_event_reached e past k i refl (λ j. refl) is)

-- whether an event reaches another
pub reach_known : (n : ℕ) (past : List Entry) (k i : ℕ) → AreLegalEntries n past → i < length past → Known (Reaches past k i)
reach_known n [] k i formed below = absurd (omega (arith, below))
reach_known n (e ∷ past) k i formed below = elim (cases_lt i (length past)) [
  | inl early ↦ known_as (reach_known n past k i formed.0 early) (reaches_more e past k i) (reaches_old e past k (accepted_forward n (e ∷ past) formed) i early)
  | inr late ↦ newest_known n past k (λ j h. reach_known n past k j formed.0 h) e i formed (omega (arith, late, below))
]

-- whether a process depends on a delivery
pub depends_known : (n : ℕ) (past : List Entry) (k p : ℕ) → AreLegalEntries n past → Known (Depends past k p)
depends_known n past k p formed = elim (cases_Bool (is_down past p)) [
  | inl down ↦ inr (λ d. false≢true (sym d.up ∙ down))
  | inr up ↦ elim (mate_known n past k (λ j h. reach_known n past k j formed h) p) [
    | inl mate ↦ inl (record { up = up; event = mate.0; present = mate.2.0; reached = mate.2.1 })
    | inr none ↦ inr (λ d. none (d.event, event_below past d.event p (lane past p) d.present, (d.present, d.reached)))
  ]
]

-- ==== the deliveries that one more entry may newly orphan

-- ---- facts before the entry, from facts after it

gone_fewer : (n f : ℕ) (e : Entry) (past : List Entry) (d : Det) → may_release e ≡ false → count_below n (down_or_holding (e ∷ past) d) ≤ f → count_below n (down_or_holding past d) ≤ f
gone_fewer n f e past d departures few = omega (arith, few, count_below-within n (down_or_holding past d) (down_or_holding (e ∷ past) d) (λ p _ h. gone_more e past d p departures h))

module _ (n f : ℕ) (e : Entry) (past : List Entry) (k : ℕ) (d : Det) (at : det_at (e ∷ past) k ≡ Some d) where
  det_before : k < length past → det_at past k ≡ Some d
  det_before below = sym (cond-false (k == length past) (det_of past e) (det_at past k) (ne_eqb k (length past) (λ is. omega (arith, below, is)))) ∙ at

  det_newest : k ≡ length past → det_of past e ≡ Some d
  det_newest is = sym (cond-true (k == length past) (det_of past e) (det_at past k) (eq-eqb k (length past) is)) ∙ at

  -- an orphan that depended on the delivery before the entry
  pub orphan_before : (p : ℕ) → p < n → Depends past k p → is_stable past d ≡ false → count_below n (down_or_holding past d) ≤ f → logs past p d ≡ false → HasOrphan n f past k
  orphan_before p low depends unstable few without =
      unexposed n f past k d (det_before (reaches_begins past k depends.event depends.reached)) (record { unstable = unstable; few = few; orphan = p; process = low; depends = depends; without = without })

-- ---- a send

-- the process of a send that a delivery reaches depended on the delivery before
pub sent_before : (n : ℕ) (past : List Entry) (k : ℕ) (d : Det) (from to : Pid) (ssn p : ℕ) → AreLegalEntries n (Send from to ssn ∷ past) → (k ≡ length past → det_at (Send from to ssn ∷ past) k ≡ Some d)
    → actor (Send from to ssn) ≡ Some p → ReachesNewest (Send from to ssn) past k p → Depends past k p
sent_before n past k d from to ssn p formed at who (is_newest is) = absurd (let e : None ≡ Some d = det_newest n 0 (Send from to ssn) past k d (at is) is in cc)
sent_before n past k d from to ssn p formed at who (through_message j is reach) = absurd (false≢true is)
sent_before n past k d from to ssn p formed at who (in_lane j event reach) = grind (arith, sends_up n past from to ssn formed.1)

-- ---- an entry without an acting process

pub no_actor : (n : ℕ) (e : Entry) (past : List Entry) (k p : ℕ) → AreLegalEntries n (e ∷ past) → actor e ≡ None → IsNoTurn e past p → Depends (e ∷ past) k p → Depends past k p
no_actor n e past k p formed none same depends = elim (depends_before n e past k p formed same depends) [ inl old ↦ old | inr new ↦ absurd (let x : None ≡ Some p = sym none ∙ new.0 in cc) ]

-- ---- a forgetting that does not list the determinant

-- ---- a restart that lists the determinant

-- ---- a delivery: it had an orphan before, or the receiver newly depends on it

pub delivered : (n f : ℕ) (past : List Entry) (k : ℕ) (d : Det) (to : Pid) (send rsn : ℕ) (listed : List Det) → AreLegalEntries n (Deliver to send rsn listed ∷ past) → det_at (Deliver to send rsn listed ∷ past) k ≡ Some d
    → (p : ℕ) → p < n → Depends (Deliver to send rsn listed ∷ past) k p → is_stable past d ≡ false → count_below n (down_or_holding (Deliver to send rsn listed ∷ past) d) ≤ f → logs (Deliver to send rsn listed ∷ past) p d ≡ false
    → HasOrphan n f past k ⊎ ((p ≡ to.0) × Reaches (Deliver to send rsn listed ∷ past) k (length past) × (Depends past k to.0 → HasOrphan n f past k))
delivered n f past k d to send rsn listed formed at p low depends unstable few without =
    let e = Deliver to send rsn listed in
    let fewer = gone_fewer n f e past d refl few in
    let lacked = (or_parts (to.0 == p && list_has listed d) (logs past p d) without).1 in
    elim (depends_before n e past k p formed (refl, refl) depends) [
      | inl old ↦ inl (orphan_before n f e past k d at p low old unstable fewer lacked)
      | inr new ↦
          let same : p ≡ to.0 = let x : Some to.0 ≡ Some p = new.0 in cc in
          inr (same, new.1, λ was. orphan_before n f e past k d at p low (subst (Depends past k) (sym same) was) unstable fewer lacked)
    ]

-- ---- the laws

-- after one more entry a delivery has an orphan only if it had one before, or the entry may newly orphan it
pub sweep_law : NewOrphansLaw
sweep_law n f (Send from to ssn) past k d formed at orphaned =
    let e = Send from to ssn in
    let x = exposed n f (e ∷ past) k d at orphaned in
    let was : Depends past k x.orphan = elim (depends_before n e past k x.orphan formed (refl, refl) x.depends) [
      | inl old ↦ old
      | inr new ↦ sent_before n past k d from to ssn x.orphan formed (λ _. at) new.0 (reaches_newest e past k x.orphan (length past) (accepted_forward n (e ∷ past) formed) refl new.0 new.1)
    ] in
    inl (orphan_before n f e past k d at x.orphan x.process was x.unstable x.few x.without)
sweep_law n f (Deliver to send rsn listed) past k d formed at orphaned =
    let x = exposed n f (Deliver to send rsn listed ∷ past) k d at orphaned in
    elim (delivered n f past k d to send rsn listed formed at x.orphan x.process x.depends x.unstable x.few x.without) [
      | inl old ↦ inl old
      | inr new ↦ elim (depends_known n past k to.0 formed.0) [
        | inl was ↦ inl (new.2 was)
        | inr never ↦ inr (subst (Depends (Deliver to send rsn listed ∷ past) k) new.0 x.depends, never)
      ]
    ]
sweep_law n f (Stable det) past k d formed at orphaned =
    let e = Stable det in
    let x = exposed n f (e ∷ past) k d at orphaned in
    let was = no_actor n e past k x.orphan formed refl (refl, refl) x.depends in
    inl (orphan_before n f e past k d at x.orphan x.process was (or_parts (same_det d det) (is_stable past d) x.unstable).1 x.few x.without)
sweep_law n f (Crash who) past k d formed at orphaned =
    let e = Crash who in
    let x = exposed n f (e ∷ past) k d at orphaned in
    let up = or_parts (who.0 == x.orphan) (is_down past x.orphan) x.depends.up in
    let was = no_actor n e past k x.orphan formed refl (x.depends.up ∙ sym up.1, refl) x.depends in
    inl (orphan_before n f e past k d at x.orphan x.process was x.unstable (gone_fewer n f e past d refl x.few) (sym (ap (λ b. not b && logs past x.orphan d) up.0) ∙ x.without))
sweep_law n f (Restart who listed) past k d formed at orphaned = grind (arith, cases_Bool (list_has listed d), exposed, orphan_before, no_actor, count_below-within, nat_tests)
sweep_law n f (Forget who listed) past k d formed at orphaned = grind (arith, cases_Bool (list_has listed d), exposed, orphan_before, no_actor, count_below-within, nat_tests)

-- if a delivery entry newly orphans it, the receiver is the only orphan
pub one_new_orphan : OneNewOrphan
one_new_orphan n f past k d to send rsn listed p formed at orphaned never orphan =
    let e = Deliver to send rsn listed in
    let x = exposed n f (e ∷ past) k d at orphaned in
    let o = orphan_without n f (e ∷ past) k d at (down_or_holding (e ∷ past) d) p orphan in
    elim (delivered n f past k d to send rsn listed formed at p orphan.process orphan.depends x.unstable x.few o.1) [
      | inl old ↦ absurd (never old)
      | inr new ↦ new.0
    ]
