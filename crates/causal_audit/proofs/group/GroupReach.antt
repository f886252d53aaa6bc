-- The deliveries of a group that reach the entries of a walk, with one more entry.
use Rattle.causal_audit.proofs.Common.{ℕ, ◌≡◌, ◌≢◌, ◌+◌, ◌-◌, ◌<◌, ◌≤◌, inr, true, false, cond, List, ◌∷◌, length, Some, None, entry_at, message_sent, refl, sym, ap, subst, ◌∙◌, arith, ◌↔◌, ◌⊎◌, ◌||◌, ◌&&◌, not, set, nat_cmp, nat_cmp_total, FinSet, contains, empty, len, remove, union, difference, contains-empty, contains-union, contains-difference, false≢true, eq-eqb, ne_eqb, eqb_tells, nat_tests, get_or-set_same, get_or-set_other, Pid, Det, Entry, Send, Deliver, Crash, Restart, det_at, is_down, lane, AreLegalEntries, actor, Reaches, Depends, accepted_forward, delivers_sent, delivers_up, event_below, reaches_begins, reaches_old, depends_restarted}
use Rattle.causal_audit.specs.declared.group.reach.ReachSets.{ReachSets}
use Rattle.causal_audit.specs.Inside.Group.Walk.{HasRow, AreNewlyReached, RowsShowReach, AreReachingPlaces, row, row_of}
use Rattle.causal_audit.specs.Inside.DeliveryStates.{IsNextReached}
use Rattle.causal_audit.specs.Quiet.{is_transition}
use Rattle.causal_audit.proofs.Between.{IsNoTurn, no_turn_stays, reaches_more, depends_more, depends_before}
use Rattle.causal_audit.proofs.Legal.{sent_is}
use Rattle.causal_audit.proofs.Steps.{entry_cases, entry_within}
use Rattle.causal_audit.proofs.by_clock.ReachedEntries.{send_tells, delivery_tells}
use Rattle.causal_audit.proofs.index.Receivers.{reach_later}
use Rattle.causal_audit.proofs.Shown.{parts}
use Rattle.causal_holders.proofs.Lemmas.Sets.{removed, some_member}
use Rattle.std.specs.FinSet.{len-remove}
use Rattle.causal_trace.proofs.Lemmas.RunProcesses.{crash_inside, restart_inside}

abbrev pub Sets : Type 0
Sets = List (FinSet nat_cmp)

-- the empty set contains no number
pub none_in : (j : ℕ) → contains {R = nat_cmp} empty j ≡ true → ⊥
none_in j h = false≢true (sym (contains-empty nat_cmp j) ∙ h)

module _ (n : ℕ) (past : List Entry) (start k j : ℕ) (rows present : Sets) (told : RowsShowReach past start k j rows present) where
  -- ---- the rows of the sends

  module _ (e : Entry) (formed : AreLegalEntries n (e ∷ past)) where
    -- the rows of older sends are correct, and so is the row of the newest entry if it is a send
    behind_next : (now : Sets) → ((v : ℕ) → start ≤ v → v < length past → row_of start now v ≡ row_of start rows v) → ((from to : Pid) (ssn : ℕ) → e ≡ Send from to ssn → (contains (row_of start now (length past)) j ≡ true) ↔ Reaches (e ∷ past) k (length past))
        → (v : ℕ) (from to : Pid) (ssn : ℕ) → start ≤ v → entry_at (e ∷ past) v ≡ Some (Send from to ssn) → (contains (row_of start now v) j ≡ true) ↔ Reaches (e ∷ past) k v
    behind_next now same newest v from to ssn late at =
        grind (arith, entry_cases e past v (Send from to ssn) at, entry_within, reaches_more, reaches_old e past k (accepted_forward n (e ∷ past) formed))

    -- an entry other than a send
    behind_same : message_sent e ≡ None → (v : ℕ) (from to : Pid) (ssn : ℕ) → start ≤ v → entry_at (e ∷ past) v ≡ Some (Send from to ssn) → (contains (row_of start rows v) j ≡ true) ↔ Reaches (e ∷ past) k v
    behind_same none v from to ssn late at = grind (arith, behind_next rows)

    -- ---- the rows of the processes

    -- an entry that crashes or restarts no process and adds no dependent
    depends_same : ((p : ℕ) → IsNoTurn e past p) → ((p : ℕ) → actor e ≡ Some p → Reaches (e ∷ past) k (length past) → Depends past k p) → (p : ℕ) → (contains (row present p) j ≡ true) ↔ Depends (e ∷ past) k p
    depends_same no_turn known p = grind (arith, depends_more, depends_before)

    -- a crash or restart of one process, which has no dependences after it
    depends_removed : (w : ℕ) → w < length present → actor e ≡ None → ((p : ℕ) → p ≢ w → IsNoTurn e past p) → (Depends (e ∷ past) k w → ⊥) → (p : ℕ) → (contains (row (set present w empty) p) j ≡ true) ↔ Depends (e ∷ past) k p
    depends_removed w inside none no_turn gone p =
        grind (arith, eqb_tells p w, get_or-set_same present w empty empty inside, get_or-set_other present w p empty empty, depends_more e past k p, depends_before n e past k p formed, none_in j, told.depends p, no_turn p)

  -- ---- each entry

  -- a send
  pub sent : (d : Det) (from to : Pid) (ssn here : ℕ) → AreLegalEntries n (Send from to ssn ∷ past) → length past ≡ here → HasRow start rows here → (k ≡ length past → det_at (Send from to ssn ∷ past) k ≡ Some d)
      → RowsShowReach (Send from to ssn ∷ past) start k j (set rows (here - start) (row present from.0)) present × AreNewlyReached past (Send from to ssn) k j empty
  sent d from to ssn here formed long inside at = let e = Send from to ssn in
      let hit = row present from.0 in
      let tells : IsNextReached past e k (contains hit j) = send_tells n past k (λ p. contains (row present p) j) told.depends d from to ssn formed at in
      let known : (p : ℕ) → actor e ≡ Some p → Reaches (e ∷ past) k (length past) → Depends past k p = grind arith in (
        record {
          early = told.early;
          behind = behind_next e formed (set rows (here - start) hit) (λ v late low. get_or-set_other rows (here - start) (v - start) hit empty (λ is. omega (arith, is, late, low, long, inside.0)))
              (λ from2 to2 ssn2 is. subst (λ s. (contains s j ≡ true) ↔ Reaches (e ∷ past) k (length past)) (sym (ap (row_of start (set rows (here - start) hit)) long ∙ get_or-set_same rows (here - start) hit empty (omega (arith, inside.0, inside.1)))) (tells from.0 refl));
          depends = depends_same e formed (λ p. (refl, refl)) known;
        },
        record { sound = λ h. absurd (none_in j h); complete = λ p of reach. inr (known p of reach) },
      )

  -- an entry that is not an event
  idle : (e : Entry) → AreLegalEntries n (e ∷ past) → actor e ≡ None → message_sent e ≡ None → (now : Sets) → ((p : ℕ) → (contains (row now p) j ≡ true) ↔ Depends (e ∷ past) k p) → RowsShowReach (e ∷ past) start k j rows now × AreNewlyReached past e k j empty
  idle e formed none unsent now depends = grind (arith, behind_same e formed unsent, none_in)

  -- one that is not a crash or restart either
  pub passed : (e : Entry) → AreLegalEntries n (e ∷ past) → actor e ≡ None → message_sent e ≡ None → is_transition e ≡ false → RowsShowReach (e ∷ past) start k j rows present × AreNewlyReached past e k j empty
  passed e formed none unsent quiet = idle e formed none unsent present (depends_same e formed (no_turn_stays e past quiet) (λ p of. absurd (let x : None ≡ Some p = sym none ∙ of in cc)))

  -- a crash
  pub crashed : (who : Pid) → n ≤ length present → AreLegalEntries n (Crash who ∷ past) → RowsShowReach (Crash who ∷ past) start k j rows (set present who.0 empty) × AreNewlyReached past (Crash who) k j empty
  crashed who few formed =
      idle (Crash who) formed refl refl (set present who.0 empty)
      (depends_removed (Crash who) formed who.0 (omega (arith, few, crash_inside n past who formed.1)) refl
      (λ p apart. (ap (λ b. b || is_down past p) (ne_eqb who.0 p (λ h. apart (sym h))), refl))
      (λ d. false≢true (sym d.up ∙ ap (λ b. b || is_down past who.0) (eq-eqb who.0 who.0 refl))))

  -- a restart
  pub restarted : (who : Pid) (listed : List Det) → n ≤ length present → AreLegalEntries n (Restart who listed ∷ past) → RowsShowReach (Restart who listed ∷ past) start k j rows (set present who.0 empty) × AreNewlyReached past (Restart who listed) k j empty
  restarted who listed few formed =
      idle (Restart who listed) formed refl refl (set present who.0 empty)
      (depends_removed (Restart who listed) formed who.0 (omega (arith, few, restart_inside n past who listed formed.1)) refl
      (λ p apart. let other = ne_eqb who.0 p (λ h. apart (sym h)) in (ap (λ b. not b && is_down past p) other, ap (λ b. cond b (lane past p + 1) (lane past p)) other))
      (λ d. depends_restarted (Restart who listed) past k who.0 (ap (λ b. cond b (lane past who.0 + 1) (lane past who.0)) (eq-eqb who.0 who.0 refl)) refl d))

  module _ (to : Pid) (send rsn : ℕ) (listed : List Det) (formed : AreLegalEntries n (Deliver to send rsn listed ∷ past)) (own : FinSet nat_cmp) (is_own : (contains own j ≡ true) ↔ (k ≡ length past)) (brought : FinSet nat_cmp)
      (is_brought : (from to : Pid) (ssn : ℕ) → entry_at past send ≡ Some (Send from to ssn) → (contains brought j ≡ true) ↔ Reaches past k send) where
    abbrev pub e : Entry
    e = Deliver to send rsn listed

    abbrev pub hit : FinSet nat_cmp
    hit = union own (union (row present to.0) brought)

    -- a place reaches the delivery through its own position, its receiver or its send
    in_hit : contains hit j ≡ (contains own j || (contains (row present to.0) j || contains brought j))
    in_hit = contains-union nat_cmp_total own (union (row present to.0) brought) j ∙ ap (λ b. contains own j || b) (contains-union nat_cmp_total (row present to.0) brought j)

    -- the set contains exactly the places that reach the delivery
    tells : IsNextReached past e k (contains hit j)
    tells =
        let at_send = sent_is to.0 (entry_at past send) (delivers_sent n past to send rsn listed formed.1) in
        subst (IsNextReached past e k) (sym in_hit)
        (delivery_tells n past k (λ p. contains (row present p) j) told.depends (contains own j) (contains brought j) (λ h. sym (is_own.0 h), λ is. is_own.1 (sym is)) to send rsn listed
        (is_brought at_send.0 at_send.1 at_send.2 at_send.3) formed)

    -- after the delivery its receiver depends on the deliveries that reach it
    depends_set : to.0 < length present → (p : ℕ) → (contains (row (set present to.0 hit) p) j ≡ true) ↔ Depends (e ∷ past) k p
    depends_set inside p = grind (arith, get_or-set_same, get_or-set_other, depends_more e past k p, depends_before n e past k p, tells p, delivers_up n past to send rsn listed formed.1, in_hit, nat_tests)

    abbrev pub newly : FinSet nat_cmp
    newly = difference hit (row present to.0)

    -- a delivery
    pub delivered : to.0 < length present → RowsShowReach (e ∷ past) start k j rows (set present to.0 hit) × AreNewlyReached past e k j newly
    delivered buffers = (
      record { early = told.early; behind = behind_same e formed refl; depends = depends_set buffers },
      record {
        sound = λ h. (tells to.0 refl).0 (parts (contains hit j) (contains (row present to.0) j) (sym (contains-difference nat_cmp_total hit (row present to.0) j) ∙ h)).0;
        complete = λ p of reach. grind (arith, contains-difference nat_cmp_total hit (row present to.0) j, tells p of, told.depends to.0, nat_tests);
      },
    )

-- no delivery of the group reaches a send before the walk
pub told_before : (reach : ReachSets) (v : ℕ) → v < reach.start → AreReachingPlaces reach v empty
told_before reach v before n past k j from to ssn formed is at = grind (arith, none_in, reach_later)

-- the state before the walk
pub begun : (past : List Entry) (start k j : ℕ) (rows present : Sets) → length past ≡ start → start ≤ k → ((p : ℕ) → row present p ≡ empty) → RowsShowReach past start k j rows present
begun past start k j rows present long early none = grind (arith, none_in, entry_within, event_below, reaches_begins)

-- ---- a set without one of its members

-- it is smaller
pub fewer : (s : FinSet nat_cmp) (p : ℕ) → contains s p ≡ true → len (remove s p) < len s
fewer s p within = omega (arith, len-remove nat_cmp_total s p ∙ ap (λ b. cond b (len s - 1) (len s)) within, some_member s p within)

-- its members are members of the set other than p
pub left_in : (s : FinSet nat_cmp) (p j : ℕ) → contains (remove s p) j ≡ true → (contains s j ≡ true) × (j ≢ p)
left_in s p j h = grind (arith, removed s p j, eq-eqb)

-- a number outside it is p, or outside the set
pub left_out : (s : FinSet nat_cmp) (p j : ℕ) → contains (remove s p) j ≡ false → (j ≡ p) ⊎ (contains s j ≡ false)
left_out s p j h = grind (arith, removed s p j)
