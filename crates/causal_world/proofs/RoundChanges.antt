-- Rounds begin, are given up and get replies.
use Rattle.std.proofs.Common.{ℕ, suc, ◌≡◌, ◌<◌, ◌≤◌, ◌+◌, inl, inr, Bool, true, false, cond, ◌||◌, nat_lt, Option, Some, None, refl, sym, ap, subst, ◌∙◌, arith}
use Rattle.std.specs.Prelude.{◌⊎◌, ◌==◌}
use Rattle.std.proofs.lemmas.Bool.{false≢true, both_ways, or_cases, or_left, or_right, eq-eqb, eqb-true, cond-false, cases_lt, lt-ltb}
use Rattle.std.proofs.lemmas.Bool.Decides.{eqb_tells}
use Rattle.causal_name.specs.declared.Det.{Det}
use Rattle.causal_trace.specs.Past.{logs}
use Rattle.causal_steps.specs.Steps.{silent, learns}
use Rattle.causal_steps.specs.Reachable.{next_state}
use Rattle.causal_rounds.specs.Rounds.{with_value_at, Round, RecoveryState, RoundStep, number, new_round, with_reply, begin, give_up, answer, refuse, not_up}
use Rattle.causal_rounds.specs.Gathered.{DetState, DetInvariant}
use Rattle.causal_rounds.specs.Gathered as det
use Rattle.causal_rounds.proofs.Lemmas.RoundSteps.{set_at_cases, some_is, none_some, round_step_preserves, set_at_here, set_at_away, still_true}
use Rattle.causal_rounds.proofs.Lemmas.GatheredSteps.{det_step_preserves}
use Rattle.causal_world.specs.World.{Packet, World, GatheredFrom, volatile_of, det_state_of}
use Rattle.causal_world.specs.Invariant.{AbsentAreDown, WorldInvariant}
use Rattle.causal_world.proofs.Lemmas.Functions.{map_set_at, apart_is}
use Rattle.causal_world.proofs.Lemmas.Transit.{rounds_bring_nothing}

abbrev with_state : DetState → RecoveryState → (ℕ → Bool) → DetState
with_state a rounds gathered = record a { state = rounds; gathered = gathered }

-- what is true of the round o of s, which has gathered g
record IsRight (n : ℕ) (w : World) (s : ℕ) (o : Round) (g : Det → Bool) : Type 0 where
  absent : (p : ℕ) → suc n ≤ p → o.replied p ≡ true
  from : (d : Det) → g d ≡ true → GatheredFrom w s o d ⊎ (w.stored d ≡ true)
  last : (q : ℕ) → o.replied n ≡ true → q < n → (q ≡ s → ⊥) → o.replied q ≡ true
  own : (d : Det) → o.replied n ≡ true → w.stored d ≡ true → d.dest.0 ≡ s → g d ≡ true

module _ (n f : ℕ) (w : World) (k : WorldInvariant n f w) where
  -- a step of the rounds without an entry
  rounds_preserve : (floors : ℕ → ℕ → ℕ) (rounds : ℕ → Option Round) (gathered : ℕ → Det → Bool) → RoundStep w.rounds (record w.rounds { floors = floors; rounds = rounds })
      → ((d : Det) → DetInvariant (with_state (det_state_of n w d) (record w.rounds { floors = floors; rounds = rounds }) (λ q. gathered q d)))
      → ((p : ℕ) → n ≤ p → rounds p ≡ None) → ((s : ℕ) (o : Round) → rounds s ≡ Some o → IsRight n w s o (gathered s))
      → WorldInvariant n f (record w { rounds = record w.rounds { floors = floors; rounds = rounds }; gathered = gathered })
  rounds_preserve floors rounds gathered step dets none right = record {
    reached = next_state w.past w.past (volatile_of n w) (volatile_of n after) k.reached (silent (learns 0 (record {
      new_holders = λ r d q h. inl h;
      keeps_holders = λ r d q h. h;
      new_stable = λ r d h. inl h;
      nothing_new = rounds_bring_nothing n w after step k.rounds absent (λ i. refl) (λ i. refl) k.lanes;
    })));
    rounds = round_step_preserves w.rounds after.rounds step k.rounds;
    dets = dets;
    absent = absent;
    down = k.down;
    lanes = k.lanes;
    gathered_from = λ s o d at. (right s o at).from d;
    storage = record { up = k.storage.up; no_round = none n (omega arith); first_lane = k.storage.first_lane };
    stores = assumption;
    reads = record { last = λ s o q at. (right s o at).last q; own_gathered = λ s o d at. (right s o at).own d };
    own_logged = k.own_logged;
  }
    where
      after : World
      after = record w { rounds = record w.rounds { floors = floors; rounds = rounds }; gathered = gathered }

      absent : AbsentAreDown (suc n) after.rounds
      absent = record { down = k.absent.down; no_round = λ p high. none p (omega (arith, high)); replied = λ s p o at. (right s o at).absent p }

  -- a round is that of a process
  none_above : (p : ℕ) → n ≤ p → w.rounds.rounds p ≡ None
  none_above p high = grind (arith, eqb_tells p n, k.storage.no_round, k.absent.no_round p, high)

  pub round_low : (s : ℕ) (r : Round) → w.rounds.rounds s ≡ Some r → s < n
  round_low s r at = elim (cases_lt s n) [ inl low ↦ low | inr high ↦ absurd (none_some r (sym (none_above s high) ∙ at)) ]

  none_but : (rounds : ℕ → Option Round) (s : ℕ) (x : Option Round) → s < n → ((p : ℕ) → n ≤ p → rounds p ≡ None) → (p : ℕ) → n ≤ p → with_value_at rounds s x p ≡ None
  none_but rounds s x low none p high = set_at_away rounds s x p (λ e. omega (arith, low, high, e)) ∙ none p high

  right_before : (s : ℕ) (o : Round) → w.rounds.rounds s ≡ Some o → IsRight n w s o (w.gathered s)
  right_before s o at = record { absent = λ p. k.absent.replied s p o at; from = λ d. k.gathered_from s o d at; last = λ q. k.reads.last s o q at; own = λ d. k.reads.own_gathered s o d at }

  -- s has another round, or none, or one that has gathered g
  kept_right : (rounds : ℕ → Option Round) (s : ℕ) (x : Option Round) → ((o : Round) → x ≡ Some o → IsRight n w s o (w.gathered s)) → ((t : ℕ) (o : Round) → rounds t ≡ Some o → IsRight n w t o (w.gathered t))
      → (t : ℕ) (o : Round) → with_value_at rounds s x t ≡ Some o → IsRight n w t o (w.gathered t)
  kept_right rounds s x new old t o there = by (t == s) refl there
    where
      by : (b : Bool) → (t == s) ≡ b → cond b x (rounds t) ≡ Some o → IsRight n w t o (w.gathered t)
      by true is h = subst (λ z. IsRight n w z o (w.gathered z)) (sym (eqb-true t s is)) (new o h)
      by false is h = old t o h

  new_right : (s : ℕ) (r : Round) (g : Det → Bool) → IsRight n w s r g → (t : ℕ) (o : Round) → with_value_at w.rounds.rounds s (Some r) t ≡ Some o → IsRight n w t o (with_value_at w.gathered s g t)
  new_right s r g new t o there = by (t == s) refl there
    where
      by : (b : Bool) → (t == s) ≡ b → cond b (Some r) (w.rounds.rounds t) ≡ Some o → IsRight n w t o (cond b g (w.gathered t))
      by true is h = subst (λ z. IsRight n w z o g) (sym (eqb-true t s is)) (subst (λ x. IsRight n w s x g) (some_is r o h) new)
      by false is h = right_before t o h

  new_gathered : (d : Det) (rounds : RecoveryState) (s : ℕ) (g : Det → Bool) (b : Bool) → b ≡ g d → DetInvariant (with_state (det_state_of n w d) rounds (with_value_at (λ q. w.gathered q d) s b))
      → DetInvariant (with_state (det_state_of n w d) rounds (λ q. with_value_at w.gathered s g q d))
  new_gathered d rounds s g b is h = subst (λ (x : ℕ → Bool). DetInvariant (with_state (det_state_of n w d) rounds x))
      (λ j q. (ap (λ c. with_value_at (λ t. w.gathered t d) s c q) is ∙ sym (map_set_at (λ (x : Det → Bool). x d) w.gathered s g q)) j) h

  pub begin_preserves : (s : ℕ) (view : ℕ → ℕ) (absent : ℕ → Bool) → s < n → w.rounds.down s ≡ true → view s ≡ w.rounds.lane s + 1 → ((q : ℕ) → view q ≤ number w.rounds q)
      → ((q : ℕ) → q < suc n → absent q ≡ false) → ((q : ℕ) → suc n ≤ q → (absent q ≡ true) × (view q ≡ w.rounds.lane q + 1))
      → WorldInvariant n f (record w {
        rounds = record w.rounds { rounds = with_value_at w.rounds.rounds s (Some (new_round view absent)) };
        gathered = with_value_at w.gathered s (λ d. false);
      })
  begin_preserves s view absent low down own told present gone =
      rounds_preserve w.rounds.floors _ _ (begin s view absent down own told (present s (omega (arith, low))) far)
      (λ d. new_gathered d _ s (λ e. false) false refl (det_step_preserves (det_state_of n w d) _ (det.begin s view absent (λ q is. ((far q is).0, (far q is).2))) k.rounds (k.dets d)))
      (none_but w.rounds.rounds s (Some (new_round view absent)) low none_above)
      (new_right s (new_round view absent) (λ d. false) (record {
        absent = λ p above. (gone p above).0;
        from = λ d h. absurd (false≢true h);
        last = λ q done. absurd (unread done);
        own = λ d done. absurd (unread done);
      }))
    where
      far : (q : ℕ) → absent q ≡ true → (w.rounds.down q ≡ true) × (w.rounds.rounds q ≡ None) × (view q ≡ w.rounds.lane q + 1)
      far q is = elim (cases_lt q (suc n)) [
        | inl small ↦ absurd (both_ways (absent q) (present q small) is)
        | inr high ↦ (k.absent.down q high, k.absent.no_round q high, (gone q high).1)
      ]

      -- storage has not replied to the new round
      unread : absent n ≡ true → ⊥
      unread done = both_ways (absent n) (present n (omega arith)) done

  pub give_up_preserves : (s : ℕ) → WorldInvariant n f (record w { rounds = record w.rounds { rounds = with_value_at w.rounds.rounds s None } })
  give_up_preserves s = rounds_preserve w.rounds.floors _ w.gathered (give_up s) (λ d. det_step_preserves (det_state_of n w d) _ (det.give_up s) k.rounds (k.dets d))
      (λ p high. elim (set_at_cases w.rounds.rounds s None p) [ inl is ↦ is.1 | inr other ↦ other.1 ∙ none_above p high ])
      (kept_right w.rounds.rounds s None (λ o h. absurd (none_some o h)) right_before)

  pub refuse_preserves : (y : ℕ) (floors : ℕ → ℕ) → w.rounds.down y ≡ false → ((z : ℕ) → w.rounds.floors y z ≤ floors z) → ((z : ℕ) → floors z ≤ number w.rounds z)
      → WorldInvariant n f (record w { rounds = record w.rounds { floors = with_value_at w.rounds.floors y floors } })
  refuse_preserves y floors up rise below =
      rounds_preserve (with_value_at w.rounds.floors y floors) w.rounds.rounds w.gathered (refuse y floors up rise below) (λ d. det_step_preserves (det_state_of n w d) _ (det.refuse y floors) k.rounds (k.dets d)) none_above right_before

  from_before : (s y : ℕ) (r : Round) (up : Bool) (d : Det) → GatheredFrom w s r d ⊎ (w.stored d ≡ true) → GatheredFrom w s (with_reply r y up) d ⊎ (w.stored d ≡ true)
  from_before s y r up d (inr stored) = inr stored
  from_before s y r up d (inl (i, p, at, to, has_d, replied, above)) = inl (i, p, at, to, has_d, still_true r.replied y p.parcel.from replied, above)

  replied_right : (s y : ℕ) (r : Round) (up : Bool) → y < n → w.rounds.rounds s ≡ Some r → IsRight n w s (with_reply r y up) (w.gathered s)
  replied_right s y r up low at = record {
    absent = λ p above. still_true r.replied y p (k.absent.replied s p r at above);
    from = λ d h. from_before s y r up d (k.gathered_from s r d at h);
    last = λ q done low_q other. still_true r.replied y q (k.reads.last s r q at (before done) low_q other);
    own = λ d done. k.reads.own_gathered s r d at (before done);
  }
    where
      before : with_value_at r.replied y true n ≡ true → r.replied n ≡ true
      before done = sym (set_at_away r.replied y true n (λ e. omega (arith, low, e))) ∙ done

  pub not_up_preserves : (q s : ℕ) (r : Round) → q < n → w.rounds.down q ≡ true → (q ≡ s → ⊥) → w.rounds.rounds s ≡ Some r → r.view q ≡ w.rounds.lane q + 1
      → WorldInvariant n f (record w { rounds = record w.rounds { rounds = with_value_at (with_value_at w.rounds.rounds s (Some (with_reply r q false))) q None } })
  not_up_preserves q s r low down other at fits =
      rounds_preserve w.rounds.floors _ w.gathered (not_up q s r down other at fits) (λ d. det_step_preserves (det_state_of n w d) _ (det.not_up q s r down other at fits) k.rounds (k.dets d))
      (none_but (with_value_at w.rounds.rounds s said) q None low (none_but w.rounds.rounds s said (round_low s r at) none_above))
      (kept_right (with_value_at w.rounds.rounds s said) q None (λ o h. absurd (none_some o h))
      (kept_right w.rounds.rounds s said (λ o h. subst (λ x. IsRight n w s x (w.gathered s)) (some_is (with_reply r q false) o h) (replied_right s q r false low at)) right_before))
    where
      said : Option Round
      said = Some (with_reply r q false)

  -- y, which is up or stable storage, answers s
  answer_preserves : (y s : ℕ) (r : Round) (floors : ℕ → ℕ) (g : Det → Bool) → w.rounds.down y ≡ false → w.rounds.rounds s ≡ Some r → r.view y ≡ w.rounds.lane y
      → ((z : ℕ) → w.rounds.floors y z ≤ floors z) → ((z : ℕ) → r.view z ≤ floors z) → ((z : ℕ) → floors z ≤ number w.rounds z)
      → ((d : Det) → (w.gathered s d || (det_state_of n w d).logs y) ≡ g d) → IsRight n w s (with_reply r y true) g
      → WorldInvariant n f (record w {
        rounds = record w.rounds { floors = with_value_at w.rounds.floors y floors; rounds = with_value_at w.rounds.rounds s (Some (with_reply r y true)) };
        gathered = with_value_at w.gathered s g;
      })
  answer_preserves y s r floors g up at fits rise above below logs_is right =
      rounds_preserve (with_value_at w.rounds.floors y floors) _ _ (answer y s r floors up at fits rise above below)
      (λ d. new_gathered d _ s g _ (logs_is d) (det_step_preserves (det_state_of n w d) _ (det.answer y s r floors up at fits) k.rounds (k.dets d)))
      (none_but w.rounds.rounds s (Some (with_reply r y true)) (round_low s r at) none_above) (new_right s (with_reply r y true) g right)

  -- y has sent its whole log to s, as the packet i
  pub answered_preserves : (y s i : ℕ) (r : Round) (floors : ℕ → ℕ) (new : Packet) → y < n → w.rounds.down y ≡ false → w.rounds.rounds s ≡ Some r → r.view y ≡ w.rounds.lane y
      → ((z : ℕ) → w.rounds.floors y z ≤ floors z) → ((z : ℕ) → r.view z ≤ floors z) → ((z : ℕ) → floors z ≤ number w.rounds z)
      → w.packets i ≡ Some new → new.to ≡ s → new.parcel.from ≡ y → new.lane ≡ w.rounds.lane y → ((d : Det) → new.parcel.carries d ≡ logs w.past y d)
      → WorldInvariant n f (record w {
        rounds = record w.rounds { floors = with_value_at w.rounds.floors y floors; rounds = with_value_at w.rounds.rounds s (Some (with_reply r y true)) };
        gathered = with_value_at w.gathered s (λ d. w.gathered s d || logs w.past y d);
      })
  answered_preserves y s i r floors new low up at fits rise above below there to sender lane whole =
      answer_preserves y s r floors (λ d. w.gathered s d || logs w.past y d) up at fits rise above below logs_low (record {
        absent = said.absent;
        from = λ d h. elim (or_cases (w.gathered s d) (logs w.past y d) h) [
          | inl got ↦ said.from d got
          | inr logs_d ↦
              let v : r.view new.parcel.from ≡ w.rounds.lane y = ap r.view sender ∙ fits in
              inl (i, new, there, to, whole d ∙ logs_d, ap (with_value_at r.replied y true) sender ∙ set_at_here r.replied y true, omega (arith, v, lane))
        ];
        last = said.last;
        own = λ d done stored dest. or_left _ _ (said.own d done stored dest);
      })
    where
      said : IsRight n w s (with_reply r y true) (w.gathered s)
      said = replied_right s y r true low at

      logs_low : (d : Det) → (w.gathered s d || (det_state_of n w d).logs y) ≡ (w.gathered s d || logs w.past y d)
      logs_low d = let small : nat_lt y n ≡ true = lt-ltb y n low in let apart : (y == n) ≡ false = apart_is y n low in grind (arith, small, apart)

  -- stable storage answers the round of s, to which all others have replied
  pub read_preserves : (s : ℕ) (r : Round) (floors : ℕ → ℕ) → w.rounds.rounds s ≡ Some r → ((q : ℕ) → q < n → (q ≡ s → ⊥) → r.replied q ≡ true)
      → ((z : ℕ) → w.rounds.floors n z ≤ floors z) → ((z : ℕ) → r.view z ≤ floors z) → ((z : ℕ) → floors z ≤ number w.rounds z)
      → WorldInvariant n f (record w {
        rounds = record w.rounds { floors = with_value_at w.rounds.floors n floors; rounds = with_value_at w.rounds.rounds s (Some (with_reply r n true)) };
        gathered = with_value_at w.gathered s (λ d. w.gathered s d || w.stored d);
      })
  read_preserves s r floors at all rise above below =
      answer_preserves n s r floors (λ d. w.gathered s d || w.stored d) k.storage.up at fits rise above below logs_stored (record {
        absent = λ p high. still_true r.replied n p (k.absent.replied s p r at high);
        from = λ d h. elim (or_cases (w.gathered s d) (w.stored d) h) [ inl got ↦ from_before s n r true d (k.gathered_from s r d at got) | inr stored ↦ inr stored ];
        last = λ q done low other. still_true r.replied n q (all q low other);
        own = λ d done stored dest. or_right _ _ stored;
      })
    where
      fits : r.view n ≡ w.rounds.lane n
      fits =
          let below_number = k.rounds.views_told s n r at in
          let count : number w.rounds n ≡ w.rounds.lane n = cond-false (w.rounds.down n) _ _ k.storage.up in
          let first = k.storage.first_lane in
          omega (arith, below_number, count, first)

      logs_stored : (d : Det) → (w.gathered s d || (det_state_of n w d).logs n) ≡ (w.gathered s d || w.stored d)
      logs_stored d = let high : nat_lt n n ≡ false = grind arith in let same : (n == n) ≡ true = eq-eqb n n refl in grind (arith, high, same)
