-- Each step preserves the invariant of one determinant.
use Rattle.std.proofs.Common.{ℕ, ◌≡◌, ◌≤◌, ◌+◌, inl, inr, Bool, true, false, cond, Option, Some, None, refl, sym, ap, subst, ◌∙◌, arith}
use Rattle.std.specs.Prelude.{◌⊎◌, ◌==◌, ◌||◌}
use Rattle.std.proofs.lemmas.Bool.{both_ways, or_left, or_right, cases_Bool, true_from_ne_false}
use Rattle.std.proofs.lemmas.Bool.Decides.{eqb_tells}
use Rattle.causal_rounds.specs.Rounds.{with_value_at, Round, RecoveryState, number, new_round, with_reply, RoundInvariant}
use Rattle.causal_rounds.specs.Gathered.{Carrier, DetState, MayComplete, HasFromLane, emit, take, deliver_again, deliver_as_new, forget, record_stable, crash, begin, give_up, answer, refuse, not_up, restart, DetInvariant, DetStepsPreserve, IsInTransitAfter, to_up, to_new, from_up, to_round, RestartsGatherAll}
use Rattle.causal_rounds.proofs.Lemmas.RoundSteps.{set_at_cases, some_is, none_some, set_at_here, set_at_away, still_true, number_up, number_down, number_risen}

abbrev Result : DetState → ℕ → Round → Type 0
Result a s r = (a.gathered s ≡ true) ⊎ ((z : ℕ) × (r.replied z ≡ false) × (a.logs z ≡ true))

-- what the invariant says of rounds
abbrev Gathers : DetState → Type 0
Gathers a = (s q : ℕ) (r : Round) → a.state.rounds s ≡ Some r → MayComplete a.state s r → a.must_recover s ≡ true → a.stable ≡ false → r.replied q ≡ true → HasFromLane a q (r.view q) → Result a s r

-- one process less logs it
less : (f : ℕ → Bool) (p q : ℕ) → with_value_at f p false q ≡ true → (q ≡ p → ⊥) × (f q ≡ true)
less f p q h = elim (set_at_cases f p false q) [ inl is ↦ absurd (both_ways (with_value_at f p false q) is.1 h) | inr other ↦ (other.0, sym other.1 ∙ h) ]

-- if the view is not above the lane from which something came, something sent from the lane of the view carries it
at_view : (a : DetState) → RoundInvariant a.state → DetInvariant a → (s : ℕ) (r : Round) → a.state.rounds s ≡ Some r → (i : ℕ) (t : Carrier) → a.carriers i ≡ Some t → r.replied t.from ≡ true → r.view t.from ≤ t.lane → HasFromLane a t.from (r.view t.from)
at_view a h k s r at i t there replied_q above = elim (cases_Bool (r.answered t.from)) [
  | inl is ↦
      let same = h.same_lane s t.from r at replied_q is in
      let low = k.lanes i t there in
      let lane : t.lane ≡ r.view t.from = omega (arith, same, low, above) in
      inr (i, t, there, refl, lane)
  | inr is ↦
      let same = (h.still_down s t.from r at replied_q is).1 in
      let low = k.lanes i t there in
      absurd (omega (arith, same, low, above))
]

-- y alone logs more, and a round to which it has replied learns of it
module _ (a : DetState) (y : ℕ) (up : a.state.down y ≡ false) (k : DetInvariant a) where
  abbrev logged : DetState
  logged = record a { logs = with_value_at a.logs y true }

  weaker : (s : ℕ) (r : Round) → Result a s r → Result logged s r
  weaker s r (inl got) = inl got
  weaker s r (inr (z, no_reply, has_it)) = inr (z, no_reply, still_true a.logs y z has_it)

  -- if what y logs now follows from what was
  logged_preserves : ((s : ℕ) (r : Round) → a.state.rounds s ≡ Some r → MayComplete a.state s r → a.must_recover s ≡ true → a.stable ≡ false → r.replied y ≡ true → Result a s r) → DetInvariant logged
  logged_preserves found = record {
    logs_up = λ p h. elim (set_at_cases a.logs y true p) [ inl is ↦ subst (λ x. a.state.down x ≡ false) (sym is.0) up | inr other ↦ k.logs_up p (sym other.1 ∙ h) ];
    recovering_are_down = k.recovering_are_down;
    lanes = k.lanes;
    sent = λ i t there is_up lane. elim (k.sent i t there is_up lane) [ inl has_it ↦ inl (still_true a.logs y t.from has_it) | inr stable ↦ inr stable ];
    gathers = λ s q r at fitting must unstable replied_q has_it. elim has_it [
      | inl logs_it ↦ elim (set_at_cases a.logs y true q) [
        | inl is ↦ weaker s r (found s r at fitting must unstable (subst (λ x. r.replied x ≡ true) is.0 replied_q))
        | inr other ↦ weaker s r (k.gathers s q r at fitting must unstable replied_q (inl (sym other.1 ∙ logs_it)))
      ]
      | inr thing ↦ weaker s r (k.gathers s q r at fitting must unstable replied_q (inr thing))
    ];
  }

-- y takes something
taken : (a : DetState) (y i : ℕ) (t : Carrier) → a.state.down y ≡ false → a.carriers i ≡ Some t → a.state.floors y t.from ≤ t.lane → RoundInvariant a.state → DetInvariant a
    → (s : ℕ) (r : Round) → a.state.rounds s ≡ Some r → MayComplete a.state s r → a.must_recover s ≡ true → a.stable ≡ false → r.replied y ≡ true → Result a s r
taken a y i t up there floor h k s r at fitting must unstable replied_q = by (r.replied t.from) refl (eqb_tells t.from s)
  where
    answered : r.answered y ≡ true
    answered = true_from_ne_false (r.answered y) (λ is. both_ways (a.state.down y) up (h.still_down s y r at replied_q is).0)

    above : r.view t.from ≤ t.lane
    above = let low = h.refuses s y t.from r at answered up in omega (arith, low, floor)

    by : (b : Bool) → r.replied t.from ≡ b → (((t.from == s) ≡ true) × (t.from ≡ s)) ⊎ (((t.from == s) ≡ false) × (t.from ≡ s → ⊥)) → Result a s r
    by true is which = k.gathers s t.from r at fitting must unstable is (at_view a h k s r at i t there is above)
    by false is (inl me) =
        let own = (h.own_view s r at).1 in
        let low = k.lanes i t there in
        let mine : r.view t.from ≡ a.state.lane t.from + 1 = subst (λ x. r.view x ≡ a.state.lane x + 1) (sym me.1) own in
        absurd (omega (arith, mine, low, above))
    by false is (inr other) = elim (cases_Bool (a.state.down t.from)) [
      | inl down ↦
          let count = number_down a.state t.from down in
          let fits = fitting t.from other.1 is in
          let low = k.lanes i t there in
          absurd (omega (arith, count, fits, low, above))
      | inr is_up ↦
          let count = number_up a.state t.from is_up in
          let fits = fitting t.from other.1 is in
          let low = k.lanes i t there in
          let lane : t.lane ≡ a.state.lane t.from = omega (arith, count, fits, low, above) in
          elim (k.sent i t there is_up lane) [ inl has_it ↦ inr (t.from, is, has_it) | inr stable ↦ absurd (both_ways a.stable unstable stable) ]
    ]

-- p sends something
module _ (a : DetState) (p to i : ℕ) (up : a.state.down p ≡ false) (has_it : a.logs p ≡ true) (free : a.carriers i ≡ None) (k : DetInvariant a) where
  abbrev new : Carrier
  new = record { from = p; lane = a.state.lane p; to = to }

  abbrev emitted : DetState
  emitted = record a { carriers = with_value_at a.carriers i (Some new) }

  which : (j : ℕ) (t : Carrier) → with_value_at a.carriers i (Some new) j ≡ Some t → (new ≡ t) ⊎ (a.carriers j ≡ Some t)
  which j t h = elim (set_at_cases a.carriers i (Some new) j) [ inl is ↦ inl (some_is new t (sym is.1 ∙ h)) | inr other ↦ inr (sym other.1 ∙ h) ]

  emit_preserves : DetInvariant emitted
  emit_preserves = record {
    logs_up = k.logs_up;
    recovering_are_down = k.recovering_are_down;
    lanes = λ j t h. elim (which j t h) [ inl is ↦ subst (λ (x : Carrier). x.lane ≤ a.state.lane x.from) is (omega arith) | inr old ↦ k.lanes j t old ];
    sent = λ j t h is_up lane. elim (which j t h) [ inl is ↦ inl (subst (λ (x : Carrier). a.logs x.from ≡ true) is has_it) | inr old ↦ k.sent j t old is_up lane ];
    gathers = λ s q r at fitting must unstable replied_q has_d. elim has_d [
      | inl logs_it ↦ k.gathers s q r at fitting must unstable replied_q (inl logs_it)
      | inr (j, t, h, from, lane) ↦ elim (which j t h) [
        | inl is ↦ k.gathers s q r at fitting must unstable replied_q (inl (subst (λ x. a.logs x ≡ true) (ap (λ (x : Carrier). x.from) is ∙ from) has_it))
        | inr old ↦ k.gathers s q r at fitting must unstable replied_q (inr (j, t, old, from, lane))
      ]
    ];
  }

-- p goes down: it has replied to a round that may still complete
module _ (w : RecoveryState) (p : ℕ) (up : w.down p ≡ false) (h : RoundInvariant w) (s : ℕ) (r : Round) (at : w.rounds s ≡ Some r) (fitting : MayComplete (record w { down = with_value_at w.down p true }) s r) where
  pub had_replied : r.replied p ≡ true
  had_replied = true_from_ne_false (r.replied p) (λ is.
      let not_s : p ≡ s → ⊥ = λ me. both_ways (w.down p) up (subst (λ x. w.down x ≡ true) (sym me) (h.gathering_are_down s r at)) in
      let fits = fitting p not_s is in
      let now = number_down (record w { down = with_value_at w.down p true }) p (set_at_here w.down p true) in
      let then = number_up w p up in
      let low = h.views_told s p r at in
      omega (arith, fits, now, then, low))

  pub was_open : MayComplete w s r
  was_open q other no_reply =
      let not_p : q ≡ p → ⊥ = λ is. both_ways (r.replied q) no_reply (subst (λ x. r.replied x ≡ true) (sym is) had_replied) in
      sym (ap (λ (b : Bool). cond b (w.lane q + 1) (w.lane q)) (set_at_away w.down p true q not_p)) ∙ fitting q other no_reply

module _ (a : DetState) (p : ℕ) (up : a.state.down p ≡ false) (h : RoundInvariant a.state) (k : DetInvariant a) where
  abbrev fallen : DetState
  fallen = record a { state = record a.state { down = with_value_at a.state.down p true }; logs = with_value_at a.logs p false; must_recover = with_value_at a.must_recover p (a.logs p) }

  fall_preserves : DetInvariant fallen
  fall_preserves = record {
    logs_up = λ q has_it. let old = less a.logs p q has_it in set_at_away a.state.down p true q old.0 ∙ k.logs_up q old.1;
    recovering_are_down = λ q must. grind (arith, set_at_cases a.must_recover p (a.logs p) q, set_at_cases a.state.down p true q, k.recovering_are_down q, must);
    lanes = k.lanes;
    sent = λ i t there is_up lane. elim (set_at_cases a.state.down p true t.from) [
      | inl is ↦ absurd (both_ways (with_value_at a.state.down p true t.from) is_up is.1)
      | inr other ↦ elim (k.sent i t there (sym other.1 ∙ is_up) lane) [ inl has_it ↦ inl (set_at_away a.logs p false t.from other.0 ∙ has_it) | inr stable ↦ inr stable ]
    ];
    gathers = λ s q r at fitting must unstable replied_q has_d.
        let not_p : s ≡ p → ⊥ = λ me. both_ways (a.state.down p) up (subst (λ x. a.state.down x ≡ true) me (h.gathering_are_down s r at)) in
        let old_must = sym (set_at_away a.must_recover p (a.logs p) s not_p) ∙ must in
        let had : HasFromLane a q (r.view q) = elim has_d [ inl logs_it ↦ inl (less a.logs p q logs_it).1 | inr thing ↦ inr thing ] in
        elim (k.gathers s q r at (was_open a.state p up h s r at fitting) old_must unstable replied_q had) [
          | inl got ↦ inl got
          | inr (z, no_reply, has_it) ↦ inr (z, no_reply, set_at_away a.logs p false z (λ is. both_ways (r.replied z) no_reply (subst (λ x. r.replied x ≡ true) (sym is) (had_replied a.state p up h s r at fitting))) ∙ has_it)
        ];
  }

-- a round begins
module _ (a : DetState) (s : ℕ) (view : ℕ → ℕ) (absent : ℕ → Bool) (gone : (q : ℕ) → absent q ≡ true → (a.state.down q ≡ true) × (view q ≡ a.state.lane q + 1)) (k : DetInvariant a) where
  abbrev started : DetState
  started = record a { state = record a.state { rounds = with_value_at a.state.rounds s (Some (new_round view absent)) }; gathered = with_value_at a.gathered s false }

  start_preserves : DetInvariant started
  start_preserves =
      let gathers : Gathers started = λ p q r at fitting must unstable replied_q has_d. elim (set_at_cases a.state.rounds s (Some (new_round view absent)) p) [
        | inl is ↦
            let same : new_round view absent ≡ r = some_is (new_round view absent) r (sym is.1 ∙ at) in
            let fact = gone q (ap (λ (o : Round). o.replied q) same ∙ replied_q) in
            let next : r.view q ≡ a.state.lane q + 1 = sym (ap (λ (o : Round). o.view q) same) ∙ fact.1 in
            absurd (elim has_d [
              | inl logs_d ↦ both_ways (a.state.down q) (k.logs_up q logs_d) fact.0
              | inr (i, t, there, from, lane) ↦ (let low = k.lanes i t there in let low_q : t.lane ≤ a.state.lane q = subst (λ x. t.lane ≤ a.state.lane x) from low in omega (arith, low_q, lane, next))
            ])
        | inr other ↦ elim (k.gathers p q r (sym other.1 ∙ at) fitting must unstable replied_q has_d) [ inl got ↦ inl (set_at_away a.gathered s false p other.0 ∙ got) | inr rest ↦ inr rest ]
      ] in
      assumption

-- a round is given up
end_preserves : (a : DetState) (s : ℕ) → DetInvariant a → DetInvariant (record a { state = record a.state { rounds = with_value_at a.state.rounds s None } })
end_preserves a s k =
    let gathers : Gathers (record a { state = record a.state { rounds = with_value_at a.state.rounds s None } }) = λ p q r at fitting must unstable replied_q has_d. elim (set_at_cases a.state.rounds s None p) [
      | inl is ↦ absurd (none_some r (sym is.1 ∙ at))
      | inr other ↦ k.gathers p q r (sym other.1 ∙ at) fitting must unstable replied_q has_d
    ] in
    assumption

-- y has replied to s, up or not: what it logs, or has sent from the lane of the view, is gathered now
module _ (a : DetState) (y s : ℕ) (up : Bool) (r : Round) (floors : ℕ → ℕ → ℕ) (rounds : ℕ → Option Round) (gathered : ℕ → Bool) (at : a.state.rounds s ≡ Some r) (k : DetInvariant a)
    (seen : (p : ℕ) (o : Round) → rounds p ≡ Some o → ((p ≡ s) × (with_reply r y up ≡ o)) ⊎ (a.state.rounds p ≡ Some o)) (count : number a.state y ≡ r.view y)
    (old : (p : ℕ) → a.gathered p ≡ true → gathered p ≡ true) (had : a.stable ≡ false → HasFromLane a y (r.view y) → gathered s ≡ true) where
  abbrev grown : Round
  grown = with_reply r y up

  abbrev replied : DetState
  replied = record a { state = record a.state { floors = floors; rounds = rounds }; gathered = gathered }

  open_before : MayComplete a.state s grown → MayComplete a.state s r
  open_before fitting q other no_reply = grind (arith, set_at_cases r.replied y true q, fitting q other, no_reply, count)

  now : (q : ℕ) → MayComplete a.state s grown → a.must_recover s ≡ true → a.stable ≡ false → grown.replied q ≡ true → HasFromLane a q (r.view q) → Result replied s grown
  now q fitting must unstable replied_q has_d = elim (set_at_cases r.replied y true q) [
    | inl is ↦ inl (had unstable (subst (λ x. HasFromLane a x (r.view x)) is.0 has_d))
    | inr fact ↦ elim (k.gathers s q r at (open_before fitting) must unstable (sym fact.1 ∙ replied_q) has_d) [
      | inl got ↦ inl (old s got)
      | inr (z, no_reply, has_it) ↦ elim (set_at_cases r.replied y true z) [
        | inl is ↦ inl (had unstable (inl (subst (λ x. a.logs x ≡ true) is.0 has_it)))
        | inr other ↦ inr (z, other.1 ∙ no_reply, has_it)
      ]
    ]
  ]

  reply_preserves : DetInvariant replied
  reply_preserves =
      let gathers : Gathers replied = λ p q o there fitting must unstable replied_q has_d. elim (seen p o there) [
        | inl is ↦ by p is.0 q o is.1 fitting must unstable replied_q has_d
        | inr before ↦ elim (k.gathers p q o before fitting must unstable replied_q has_d) [ inl got ↦ inl (old p got) | inr rest ↦ inr rest ]
      ] in
      assumption
    where
      by : (p : ℕ) → p ≡ s → (q : ℕ) (o : Round) → grown ≡ o → MayComplete a.state p o → a.must_recover p ≡ true → a.stable ≡ false → o.replied q ≡ true → HasFromLane a q (o.view q) → Result replied p o
      by p is q o same fitting must unstable replied_q has_d =
          subst (λ x. Result replied x o) (sym is) (subst (λ (x : Round). Result replied s x) same
          (now q (subst (λ (x : Round). MayComplete a.state s x) (sym same) (subst (λ x. MayComplete a.state x o) is fitting)) (subst (λ x. a.must_recover x ≡ true) is must) unstable (ap (λ (x : Round). x.replied q) same ∙ replied_q) (subst (λ (x : Round). HasFromLane a q (x.view q)) (sym same) has_d)))

-- y answers s
module _ (a : DetState) (y s : ℕ) (r : Round) (floors : ℕ → ℕ) (up : a.state.down y ≡ false) (at : a.state.rounds s ≡ Some r) (fits : r.view y ≡ a.state.lane y) (k : DetInvariant a) where
  abbrev told : Round
  told = with_reply r y true

  answered_preserves : DetInvariant (record a { state = record a.state { floors = with_value_at a.state.floors y floors; rounds = with_value_at a.state.rounds s (Some told) }; gathered = with_value_at a.gathered s (a.gathered s || a.logs y) })
  answered_preserves = reply_preserves a y s true r (with_value_at a.state.floors y floors) (with_value_at a.state.rounds s (Some told)) (with_value_at a.gathered s (a.gathered s || a.logs y)) at k
      (λ p o h. elim (set_at_cases a.state.rounds s (Some told) p) [ inl is ↦ inl (is.0, some_is told o (sym is.1 ∙ h)) | inr other ↦ inr (sym other.1 ∙ h) ])
      (number_up a.state y up ∙ sym fits)
      (λ p got. elim (set_at_cases a.gathered s (a.gathered s || a.logs y) p) [ inl is ↦ is.1 ∙ or_left _ _ (ap a.gathered (sym is.0) ∙ got) | inr other ↦ other.1 ∙ got ])
      (λ unstable has_d. set_at_here a.gathered s (a.gathered s || a.logs y) ∙ or_right (a.gathered s) _ (elim has_d [
        | inl logs_it ↦ logs_it
        | inr (i, t, there, from, lane) ↦ elim (k.sent i t there (ap a.state.down from ∙ up) (lane ∙ fits ∙ ap a.state.lane (sym from))) [ inl has_it ↦ subst (λ x. a.logs x ≡ true) from has_it | inr stable ↦ absurd (both_ways a.stable unstable stable) ]
      ]))

-- y, which is not up, says so to s
module _ (a : DetState) (y s : ℕ) (r : Round) (down : a.state.down y ≡ true) (other_one : y ≡ s → ⊥) (at : a.state.rounds s ≡ Some r) (fits : r.view y ≡ a.state.lane y + 1) (k : DetInvariant a) where
  abbrev said : Round
  said = with_reply r y false

  said_preserves : DetInvariant (record a { state = record a.state { rounds = with_value_at (with_value_at a.state.rounds s (Some said)) y None } })
  said_preserves = reply_preserves a y s false r a.state.floors (with_value_at (with_value_at a.state.rounds s (Some said)) y None) a.gathered at k
      (λ p o h. elim (set_at_cases (with_value_at a.state.rounds s (Some said)) y None p) [
        | inl is ↦ absurd (none_some o (sym is.1 ∙ h))
        | inr not_y ↦ elim (set_at_cases a.state.rounds s (Some said) p) [ inl is ↦ inl (is.0, some_is said o (sym is.1 ∙ sym not_y.1 ∙ h)) | inr other ↦ inr (sym other.1 ∙ sym not_y.1 ∙ h) ]
      ])
      (number_down a.state y down ∙ sym fits)
      (λ p got. got)
      (λ unstable has_d. absurd (elim has_d [
        | inl logs_it ↦ both_ways (a.state.down y) (k.logs_up y logs_it) down
        | inr (i, t, there, from, lane) ↦ (let low : t.lane ≤ a.state.lane y = subst (λ x. t.lane ≤ a.state.lane x) from (k.lanes i t there) in let high : t.lane ≡ a.state.lane y + 1 = lane ∙ fits in omega (arith, low, high))
      ]))

-- s comes up
module _ (a : DetState) (s : ℕ) (r : Round) (at : a.state.rounds s ≡ Some r) (all : (q : ℕ) → (q ≡ s → ⊥) → r.replied q ≡ true) (h : RoundInvariant a.state) (k : DetInvariant a) where
  abbrev risen : DetState
  risen = record a { state = record { lane = with_value_at a.state.lane s (a.state.lane s + 1); down = with_value_at a.state.down s false; floors = with_value_at a.state.floors s r.view; rounds = with_value_at a.state.rounds s None }; logs = with_value_at a.logs s (a.gathered s); must_recover = with_value_at a.must_recover s false }

  down_before : a.state.down s ≡ true
  down_before = h.gathering_are_down s r at

  -- the process that logged it was not s
  not_s : (q : ℕ) → a.logs q ≡ true → q ≡ s → ⊥
  not_s q has_it is = both_ways (a.state.down q) (k.logs_up q has_it) (subst (λ x. a.state.down x ≡ true) (sym is) down_before)

  risen_preserves : DetInvariant risen
  risen_preserves = record {
    logs_up = λ q has_it. grind (arith, set_at_cases a.logs s (a.gathered s) q, set_at_cases a.state.down s false q, k.logs_up q, has_it);
    recovering_are_down = λ q must. let old = less a.must_recover s q must in set_at_away a.state.down s false q old.0 ∙ k.recovering_are_down q old.1;
    lanes = λ i t there. grind (arith, set_at_cases a.state.lane s (a.state.lane s + 1) t.from, k.lanes i t there);
    sent = λ i t there up lane. elim (eqb_tells t.from s) [
      | inl is ↦
          let below : t.lane ≤ a.state.lane s = subst (λ x. t.lane ≤ a.state.lane x) is.1 (k.lanes i t there) in
          let new : t.lane ≡ a.state.lane s + 1 = lane ∙ ap risen.state.lane is.1 ∙ set_at_here a.state.lane s (a.state.lane s + 1) in
          absurd (omega (arith, below, new))
      | inr other ↦ elim (k.sent i t there (sym (set_at_away a.state.down s false t.from other.1) ∙ up) (lane ∙ set_at_away a.state.lane s (a.state.lane s + 1) t.from other.1)) [
        | inl has_it ↦ inl (set_at_away a.logs s (a.gathered s) t.from other.1 ∙ has_it)
        | inr stable ↦ inr stable
      ]
    ];
    gathers = λ p q o there fitting must unstable replied_q has_d.
        let old_round : (p ≡ s → ⊥) × (a.state.rounds p ≡ Some o) = elim (set_at_cases a.state.rounds s None p) [ inl is ↦ absurd (none_some o (sym is.1 ∙ there)) | inr other ↦ (other.0, sym other.1 ∙ there) ] in
        let unheard_s : o.replied s ≡ false = h.one_way s p r o at old_round.1 (all p old_round.0) in
        let not_q : q ≡ s → ⊥ = λ is. both_ways (o.replied s) unheard_s (subst (λ x. o.replied x ≡ true) is replied_q) in
        let had : HasFromLane a q (o.view q) = elim has_d [ inl logs_it ↦ inl (sym (set_at_away a.logs s (a.gathered s) q not_q) ∙ logs_it) | inr thing ↦ inr thing ] in
        elim (k.gathers p q o old_round.1 (λ x other no_reply. sym (number_risen a.state risen.state s refl refl down_before x) ∙ fitting x other no_reply) (less a.must_recover s p must).1 unstable replied_q had) [
          | inl got ↦ inl got
          | inr (z, no_reply, has_it) ↦ inr (z, no_reply, set_at_away a.logs s (a.gathered s) z (not_s z has_it) ∙ has_it)
        ];
  }

  -- if something is not below the view, the round has gathered the determinant
  module _ (must : a.must_recover s ≡ true) (unstable : a.stable ≡ false) where
    closed : MayComplete a.state s r
    closed q other no_reply = absurd (both_ways (r.replied q) no_reply (all q other))

    has_gathered : (q : ℕ) → (q ≡ s → ⊥) → HasFromLane a q (r.view q) → a.gathered s ≡ true
    has_gathered q other had = elim (k.gathers s q r at closed must unstable (all q other) had) [
      | inl got ↦ got
      | inr (z, no_reply, has_it) ↦ absurd (both_ways (r.replied z) no_reply (all z (not_s z has_it)))
    ]

    from_above : (i : ℕ) (t : Carrier) → a.carriers i ≡ Some t → r.view t.from ≤ t.lane → a.gathered s ≡ true
    from_above i t there above = elim (eqb_tells t.from s) [
      | inl me ↦
          let own = (h.own_view s r at).1 in
          let mine : r.view t.from ≡ a.state.lane t.from + 1 = subst (λ x. r.view x ≡ a.state.lane x + 1) (sym me.1) own in
          let low = k.lanes i t there in
          absurd (omega (arith, mine, low, above))
      | inr other ↦ has_gathered t.from other.1 (at_view a h k s r at i t there (all t.from other.1) above)
    ]

    has_in_transit : (i : ℕ) (t : Carrier) → a.carriers i ≡ Some t → IsInTransitAfter a s r t → a.gathered s ≡ true
    has_in_transit i t there (to_new is above) = from_above i t there above
    has_in_transit i t there (to_up up floor) =
        let not_me : t.to ≡ s → ⊥ = λ is. both_ways (a.state.down t.to) up (subst (λ x. a.state.down x ≡ true) (sym is) down_before) in
        let replied_q = all t.to not_me in
        from_above i t there (elim (cases_Bool (r.answered t.to)) [
          | inl is ↦ let low = h.refuses s t.to t.from r at is up in omega (arith, low, floor)
          | inr is ↦ absurd (both_ways (a.state.down t.to) up (h.still_down s t.to r at replied_q is).0)
        ])
    has_in_transit i t there (from_up up lane) =
        let not_me : t.from ≡ s → ⊥ = λ is. both_ways (a.state.down t.from) up (subst (λ x. a.state.down x ≡ true) (sym is) down_before) in
        let replied_q = all t.from not_me in
        elim (k.sent i t there up lane) [ inl has_it ↦ has_gathered t.from not_me (inl has_it) | inr stable ↦ absurd (both_ways a.stable unstable stable) ]
    has_in_transit i t there (to_round o not_me round replied_q above) = elim (cases_Bool (o.answered t.from)) [
      | inl is ↦ let low = h.ordered t.to s t.from o r round at (all t.to not_me) is in from_above i t there (omega (arith, low, above))
      | inr is ↦
          let up = (h.still_down t.to t.from o round replied_q is).1 in
          let low = k.lanes i t there in
          absurd (omega (arith, up, low, above))
    ]

pub det_step_preserves : DetStepsPreserve
det_step_preserves a b (emit p to i up has_it free) h k = emit_preserves a p to i up has_it free k
det_step_preserves a b (take y i t up there floor) h k = logged_preserves a y up k (taken a y i t up there floor h k)
det_step_preserves a b (deliver_again y up found) h k = logged_preserves a y up k (λ s r at fitting must unstable replied_q. elim found [ inl has_it ↦ k.gathers s y r at fitting must unstable replied_q (inl has_it) | inr stable ↦ absurd (both_ways a.stable unstable stable) ])
det_step_preserves a b (deliver_as_new y up) h k = record {
  logs_up = λ p has_it. elim (set_at_cases a.logs y true p) [ inl is ↦ subst (λ x. a.state.down x ≡ false) (sym is.0) up | inr other ↦ k.logs_up p (sym other.1 ∙ has_it) ];
  recovering_are_down = λ p must. absurd (both_ways false refl must);
  lanes = k.lanes;
  sent = λ i t there is_up lane. elim (k.sent i t there is_up lane) [ inl has_it ↦ inl (still_true a.logs y t.from has_it) | inr stable ↦ inr stable ];
  gathers = λ s q r at fitting must unstable replied_q has_d. absurd (both_ways false refl must);
}
det_step_preserves a b (forget y stable) h k = record {
  logs_up = λ p has_it. k.logs_up p (less a.logs y p has_it).1;
  recovering_are_down = k.recovering_are_down;
  lanes = k.lanes;
  sent = λ i t there is_up lane. inr stable;
  gathers = λ s q r at fitting must unstable replied_q has_d. absurd (both_ways a.stable unstable stable);
}
det_step_preserves a b record_stable h k = record {
  logs_up = k.logs_up;
  recovering_are_down = k.recovering_are_down;
  lanes = k.lanes;
  sent = λ i t there is_up lane. inr refl;
  gathers = λ s q r at fitting must unstable replied_q has_d. absurd (both_ways true unstable refl);
}
det_step_preserves a b (crash p up) h k = fall_preserves a p up h k
det_step_preserves a b (begin s view absent gone) h k = start_preserves a s view absent gone k
det_step_preserves a b (give_up s) h k = end_preserves a s k
det_step_preserves a b (answer y s r floors up at fits) h k = answered_preserves a y s r floors up at fits k
det_step_preserves a b (refuse y floors) h k = assumption
det_step_preserves a b (not_up q s r down other at fits) h k = said_preserves a q s r down other at fits k
det_step_preserves a b (restart s r at all) h k = risen_preserves a s r at all h k

pub restarts_gather_all : RestartsGatherAll
restarts_gather_all a s r h k at all must unstable (inl (y, has_it)) = has_gathered a s r at all h k must unstable y (not_s a s r at all h k y has_it) (inl has_it)
restarts_gather_all a s r h k at all must unstable (inr (i, t, there, under)) = has_in_transit a s r at all h k must unstable i t there under
