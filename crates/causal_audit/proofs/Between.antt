-- The dependents of a delivery after one more entry, and the instants between two changes.
use Rattle.causal_audit.proofs.Common.{ℕ, ◌≡◌, ◌≢◌, ◌+◌, inl, inr, Bool, true, false, cond, List, ◌∷◌, length, Some, None, refl, sym, ap, ◌∙◌, ◌<◌, ◌≤◌, [], arith, ◌⊎◌, ◌↔◌, ◌&&◌, ◌||◌, not, false≢true, subst, ◌==◌, nat_cmp, FinSet, contains, insert, remove, eq-eqb, ne_eqb, cases_lt, cond-true, cond-false, nat_tests, Pid, Det, Entry, Deliver, Crash, Restart, Forget, is_down, lane, instant, entry_at, det_at, is_stable, logs, list_has, AreLegalEntries, first_fault, actor, IsEventOf, Reaches, itself, onward, Depends, event_below, reaches_old, depends_restarted, reaches_begins, accepted_forward, delivers_up, HasOrphan, instants_stay, one_more_instant, last_instant, det_then, det_within, instant_length}
use Rattle.causal_audit.specs.Inside.DeliveryStates.{AreDependents, IsNextReached, IsDeliveryState}
use Rattle.causal_audit.proofs.Legal.{sends_up}
use Rattle.causal_holders.proofs.Lemmas.Sets.{inserted, removed}
use Rattle.causal_audit.specs.Laws.{down_or_holding, IsExposed}
use Rattle.causal_audit.specs.declared.delivery_state.DeliveryState.{DeliveryState}
use Rattle.causal_trace.specs.Past.{mentioned_dets}
use Rattle.causal_audit.specs.Quiet.{is_transition, IsQuiet, SameDeliveryState}
use Rattle.causal_audit.proofs.Lemmas.OrphansByCounts.{exposed, unexposed}
use Rattle.causal_trace.proofs.Lemmas.DependenceSteps.{precedes_more}

-- ==== the dependents of a delivery after one more entry

-- ---- facts that one more entry preserves

-- an entry that is reached is still reached in a longer run
pub reaches_more : (e : Entry) (past : List Entry) (i j : ℕ) → Reaches past i j → Reaches (e ∷ past) i j
reaches_more e past i j (itself p l at) = itself p l (inl at)
reaches_more e past i k (onward {j} r d) = onward (reaches_more e past i j r) (precedes_more e past j k d)

-- the entry does not crash or restart p
abbrev pub IsNoTurn : Entry → List Entry → ℕ → Type 0
IsNoTurn e past p = (is_down (e ∷ past) p ≡ is_down past p) × (lane (e ∷ past) p ≡ lane past p)

-- an entry that is not a crash or restart preserves the down processes and the lane of each process
pub no_turn_stays : (e : Entry) (past : List Entry) → is_transition e ≡ false → (p : ℕ) → IsNoTurn e past p
no_turn_stays (Crash who) past h p = absurd (false≢true (sym h))
no_turn_stays (Restart who listed) past h p = absurd (false≢true (sym h))
no_turn_stays e past h p = (refl, refl)

-- a process keeps its dependences while it does not crash or restart
pub depends_more : (e : Entry) (past : List Entry) (k p : ℕ) → IsNoTurn e past p → Depends past k p → Depends (e ∷ past) k p
depends_more e past k p same d = record { up = same.0 ∙ d.up; event = d.event; present = subst (IsEventOf (e ∷ past) d.event p) (sym same.1) (inl d.present); reached = reaches_more e past k d.event d.reached }

-- a dependent after the entry was one before, or the entry is its event and is reached
pub depends_before : (n : ℕ) (e : Entry) (past : List Entry) (k p : ℕ) → AreLegalEntries n (e ∷ past) → IsNoTurn e past p → Depends (e ∷ past) k p → Depends past k p ⊎ ((actor e ≡ Some p) × Reaches (e ∷ past) k (length past))
depends_before n e past k p formed same d = go d.present
  where
    go : IsEventOf (e ∷ past) d.event p (lane (e ∷ past) p) → Depends past k p ⊎ ((actor e ≡ Some p) × Reaches (e ∷ past) k (length past))
    go (inl old) = inl (record {
      up = sym same.0 ∙ d.up;
      event = d.event;
      present = subst (IsEventOf past d.event p) same.1 old;
      reached = reaches_old e past k (accepted_forward n (e ∷ past) formed) d.event (event_below past d.event p (lane (e ∷ past) p) old) d.reached;
    })
    go (inr new) = inr (new.1, subst (Reaches (e ∷ past) k) new.0 d.reached)

module _ (n : ℕ) (e : Entry) (past : List Entry) (k : ℕ) (formed : AreLegalEntries n (e ∷ past)) (s : FinSet nat_cmp) (are : AreDependents past k s) where
  -- an entry that does not crash or restart p and is not a reached event of p
  departures : (p : ℕ) → IsNoTurn e past p → (actor e ≡ Some p → Reaches (e ∷ past) k (length past) → ⊥) → (contains s p ≡ true) ↔ Depends (e ∷ past) k p
  departures p same none = (
    λ h. depends_more e past k p same ((are p).0 h),
    λ d. elim (depends_before n e past k p formed same d) [ inl old ↦ (are p).1 old | inr new ↦ absurd (none new.0 new.1) ],
  )

  -- an entry that crashes or restarts no process and is not a reached event
  pub same_dependents : ((p : ℕ) → IsNoTurn e past p) → ((p : ℕ) → actor e ≡ Some p → Reaches (e ∷ past) k (length past) → ⊥) → AreDependents (e ∷ past) k s
  same_dependents same none p = departures p (same p) (none p)

  -- a reached event
  pub one_dependent_more : (w : ℕ) → actor e ≡ Some w → is_down past w ≡ false → ((p : ℕ) → IsNoTurn e past p) → Reaches (e ∷ past) k (length past) → AreDependents (e ∷ past) k (insert s w)
  one_dependent_more w of up same reach p = grind (arith, inserted, departures)

  -- a crash or restart of one process
  one_dependent_less : (w : ℕ) → actor e ≡ None → ((p : ℕ) → p ≢ w → IsNoTurn e past p) → (Depends (e ∷ past) k w → ⊥) → AreDependents (e ∷ past) k (remove s w)
  one_dependent_less w none same down_or_holding p = grind (arith, removed, departures)

-- as above, for an entry that is given by an equation
module _ (n : ℕ) (x : Entry) (past : List Entry) (k : ℕ) (formed : AreLegalEntries n (x ∷ past)) (reached : Bool) (tells : IsNextReached past x k reached) (s : FinSet nat_cmp) (are : AreDependents past k s) where
  -- a reached event
  pub reached_event : (y : Entry) (w : ℕ) → x ≡ y → actor y ≡ Some w → reached ≡ true → AreDependents (x ∷ past) k (insert s w)
  reached_event y w is acts hit =
      let of : actor x ≡ Some w = ap actor is ∙ acts in
      one_dependent_more n x past k formed s are w of (grind (arith, sends_up, delivers_up)) (λ p. grind arith) ((tells w of).0 hit)

  -- an entry that is not a crash or restart, and not an event that is reached
  pub unreached : (y : Entry) → x ≡ y → is_transition y ≡ false → (actor y ≡ None) ⊎ (reached ≡ false) → AreDependents (x ∷ past) k s
  unreached y is quiet missed = grind (arith, same_dependents, no_turn_stays)

  pub crashed : (who : Pid) → x ≡ Crash who → AreDependents (x ∷ past) k (remove s who.0)
  crashed who is = rw is (grind (arith, one_dependent_less n (Crash who) past k (rw is at formed) s are who.0 refl, eq-eqb who.0 who.0 refl))

  pub restarted : (who : Pid) (listed : List Det) → x ≡ Restart who listed → AreDependents (x ∷ past) k (remove s who.0)
  restarted who listed is =
      rw is (one_dependent_less n (Restart who listed) past k (rw is at formed) s are who.0 refl
      (λ p apart. let other = ne_eqb who.0 p (λ h. apart (sym h)) in (ap (λ b. not b && is_down past p) other, ap (λ b. cond b (lane past p + 1) (lane past p)) other))
      (λ d. depends_restarted (Restart who listed) past k who.0 (ap (λ b. cond b (lane past who.0 + 1) (lane past who.0)) (eq-eqb who.0 who.0 refl)) refl d))

-- ==== the instants between two changes of a delivery's state agree

-- ---- a quiet entry changes nothing

pub unlisted : (here has held : Bool) → has ≡ false → held ≡ ((here && has) || held)
unlisted true has held none = sym (ap (λ b. b || held) none)
unlisted false has held none = refl

pub unforgotten : (here has held : Bool) → has ≡ false → held ≡ (not (here && has) && held)
unforgotten true has held none = sym (ap (λ b. not b && held) none)
unforgotten false has held none = refl

-- the logs that contain a determinant that it does not mention
pub logs_stay : (e : Entry) (past : List Entry) (d : Det) → is_transition e ≡ false → list_has (mentioned_dets e) d ≡ false → (p : ℕ) → logs past p d ≡ logs (e ∷ past) p d
logs_stay (Deliver to send rsn listed) past d h l p = unlisted (to.0 == p) (list_has listed d) (logs past p d) l
logs_stay (Forget who listed) past d h l p = unforgotten (who.0 == p) (list_has listed d) (logs past p d) l
logs_stay (Crash who) past d h l p = absurd (false≢true (sym h))
logs_stay (Restart who listed) past d h l p = absurd (false≢true (sym h))
logs_stay e past d h l p = refl

-- and whether that determinant is stable
pub stable_stays : (e : Entry) (past : List Entry) (d : Det) → list_has (mentioned_dets e) d ≡ false → is_stable past d ≡ is_stable (e ∷ past) d
stable_stays e past d l = grind (arith, nat_tests)

-- so the states before and after a quiet entry agree
pub quiet_step : (n : ℕ) (e : Entry) (past : List Entry) (k : ℕ) (d : Det) → AreLegalEntries n (e ∷ past) → IsQuiet past e k d → SameDeliveryState past (e ∷ past) k d
quiet_step n e past k d formed quiet = grind (arith, no_turn_stays, logs_stay, stable_stays, depends_more, depends_before)

-- ---- from instant to instant

-- the entry at a position, and the instant after it
pub next_entry : (past : List Entry) (v : ℕ) → v < length past → (e : Entry) × (entry_at past v ≡ Some e) × (instant past (v + 1) ≡ e ∷ instant past v)
next_entry [] v below = absurd (omega (arith, below))
next_entry (e ∷ past) v below =
    elim (cases_lt v (length past)) [
      | inl older ↦ let found = next_entry past v older in (found.0, grind (arith, cond-false, ne_eqb v (length past), found.1), grind (arith, instants_stay e past (v + 1), instants_stay e past v, found.2))
      | inr newest ↦
          let at : v ≡ length past = omega (arith, newest, below) in
          (e, cond-true (v == length past) (Some e) (entry_at past v) (eq-eqb v (length past) at), rw at (grind (arith, one_more_instant e past, instants_stay e past (length past), last_instant past)))
    ]

pub agree_back : (k : ℕ) (d : Det) (one other : List Entry) → SameDeliveryState one other k d → SameDeliveryState other one k d
agree_back k d one other a = grind arith

pub exposed_agrees : (n f : ℕ) (one other : List Entry) (k : ℕ) (d : Det) → SameDeliveryState one other k d → IsExposed n f one k d → IsExposed n f other k d
exposed_agrees n f one other k d a e = grind arith

-- the state of the delivery at one instant is its state at the other
pub state_agrees : (one other : List Entry) (k : ℕ) (d : Det) (s : DeliveryState) → SameDeliveryState one other k d → IsDeliveryState one k d s → IsDeliveryState other k d s
state_agrees one other k d s a is = grind arith

-- it has an orphan at the later instant only if it has one at the earlier
pub none_agrees : (n f : ℕ) (past : List Entry) (k : ℕ) (d : Det) (t w : ℕ) → det_at past k ≡ Some d → t ≤ w → w ≤ length past → SameDeliveryState (instant past t) (instant past w) k d → HasOrphan n f (instant past w) k → HasOrphan n f (instant past t) k
none_agrees n f past k d t w at up within agree list_has =
    let made : k < w = omega (arith, det_within (instant past w) k list_has.is_orphan.det list_has.is_orphan.delivered, instant_length past w within) in
    let x = exposed n f (instant past w) k d (det_then past w k made within ∙ at) list_has in
    let depends = (agree.dependents x.orphan).1 x.depends in
    let before : k < t = omega (arith, reaches_begins (instant past t) k depends.event depends.reached, instant_length past t (omega (arith, up, within))) in
    unexposed n f (instant past t) k d (det_then past t k before (omega (arith, up, within)) ∙ at) (exposed_agrees n f (instant past w) (instant past t) k d (agree_back k d (instant past t) (instant past w) agree) x)

-- ---- which entries are quiet

-- an event adds no dependent if k reaches an earlier event of its lane
pub known_already : (n : ℕ) (past : List Entry) (e : Entry) (k i p : ℕ) → first_fault n past e ≡ None → actor e ≡ Some p → IsEventOf past i p (lane past p) → Reaches past k i → Depends past k p
known_already n past e k i p legal of present reach = grind (arith, sends_up, delivers_up)
