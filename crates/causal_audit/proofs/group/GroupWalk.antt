-- A walk over the entries for the deliveries of a group.
use Rattle.causal_audit.proofs.Common.{ℕ, All, cases_lt, ◌≡◌, ◌+◌, ◌++◌, ◌<◌, inl, inr, true, false, List, [], ◌∷◌, length, Option, Some, None, refl, sym, ap, subst, ◌∙◌, arith, ◌≤◌, ◌⊎◌, Contains, ◌==◌, ◌↔◌, nat_cmp, FinSet, contains, remove, empty, union, difference, contains-empty, contains-union, contains-difference, insert, false≢true, false_from_ne_true, eqb-true, eq-eqb, cases_Bool, Contains-push, Contains-push_cases, Contains-append_left, Contains-get_or, length-map, length-set, get_or-map, get_or-set_same, get_or-set_other, Det, Entry, instant, det_at, list_has, logs, entry_at, message_sent, Recording, AreLegalEntries, IsWellFormed, Depends, HasOrphan, accepted_then, det_then, det_within, instant_length, nat_cmp_total, nat_tests, Pid, Deliver, Crash, Restart, Forget, max_entries, set}
use Rattle.causal_audit.specs.declared.breach.Breach.{Breach}
use Rattle.causal_audit.specs.declared.group.copies.DetCopies.{DetCopies}
use Rattle.causal_audit.specs.declared.group.suspects.WalkStep.{WalkStep}
use Rattle.causal_audit.specs.declared.group.walk_input.OpenDelivery.{OpenDelivery}
use Rattle.causal_audit.specs.BreachOrder.{earlier_breach}
use Rattle.causal_audit.specs.Laws.{IsExposed}
use Rattle.causal_audit.specs.NewOrphans.{MayGetOrphan}
use Rattle.causal_trace.specs.Past.{mentioned_dets}
use Rattle.causal_audit.specs.Inside.Among.{FirstBreachBy, HasNoOrphanBy, EarliestAmongBy}
use Rattle.causal_audit.specs.Inside.DeliveryStates.{BreachAt}
use Rattle.causal_audit.specs.Inside.Group.Walk.{AreCopiesOfGroup, AreDetCopies, AreCopiesAfter, copies_at, no_copies, AreHeldBefore, IsLacked, IsSuspect, IsBreachOfPlace, IsWalkStep, position_at, AreStillOpen, HasRow, HaveNoOrphans, IsWalkState, ArePlaces, AreNewlyReached, row, row_of, IsReach, AppliesEntry, IsPlaceAdded, opened_at, RowsAreHeld, IsDeliveredTo, IsHeldBy, CountsEarlier, ArePlacesAt, AreMentionedPlaces, AreMarked}
use Rattle.causal_audit.specs.Inside.Group.OpenDeliveries.{positions_of, IsDeliveryAt, IsOpenDelivery}
use Rattle.causal_audit.proofs.AmongLemmas.{among_push, among_wider, among_none}
use Rattle.causal_audit.proofs.Between.{depends_before, stable_stays, unlisted, unforgotten}
use Rattle.causal_audit.proofs.Lemmas.OrphansByCounts.{exposed, gone_orphan}
use Rattle.causal_audit.proofs.Swept.{sweep_law, one_new_orphan}
use Rattle.causal_audit.proofs.NoOrphanSoFar.{accepted_next, first_breach_is}
use Rattle.causal_audit.proofs.group.GroupReach.{Sets, left_in, left_out, none_in}
use Rattle.causal_trace.proofs.Lemmas.AtInstants.{up_to_next}
use Rattle.causal_audit.proofs.group.OpenPositions.{position, zero}
use Rattle.causal_audit.specs.declared.group.buffers.WalkBuffers.{WalkBuffers}
use Rattle.causal_audit.specs.declared.group.reach.ReachSets.{ReachSets}
use Rattle.causal_audit.proofs.Shown.{parts}
use Rattle.causal_holders.proofs.Lemmas.Sets.{inserted}
use Rattle.causal_trace.specs.Laws.{is_crash}

-- ==== the state of the group's deliveries after one more entry

module _ (r : Recording) (candidates : List OpenDelivery) (s : WalkStep) (step : IsWalkStep r candidates s) where
  pub accepted_here : AreLegalEntries r.processes (s.entry.now ∷ instant r.past s.t)
  accepted_here = accepted_next r step.formed s.t s.entry.now step.below step.next

  pub length_after : length (instant r.past (s.t + 1)) ≡ s.t + 1
  length_after = instant_length r.past (s.t + 1) (omega (arith, step.below))

  -- the first breach by the next instant is the breach at that instant
  pub first_here : (f k : ℕ) (found : Option Breach) → HasNoOrphanBy r f k s.t → BreachAt r.processes f (instant r.past (s.t + 1)) k (s.t + 1) found → FirstBreachBy r f (s.t + 1) k found
  first_here f k found none at = grind (arith, up_to_next (λ u. HasOrphan r.processes f (instant r.past u) k → ⊥) s.t none, first_breach_is r f k s.t)

-- ---- the copies of a determinant

-- who holds a determinant is unchanged by an entry that is not a crash and does not mention it
logs_kept : (e : Entry) (past : List Entry) (d : Det) → is_crash e ≡ false → list_has (mentioned_dets e) d ≡ false → (p : ℕ) → logs past p d ≡ logs (e ∷ past) p d
logs_kept (Deliver to send rsn listed) past d turn silent p = unlisted (to.0 == p) (list_has listed d) (logs past p d) silent
logs_kept (Restart who listed) past d turn silent p = unlisted (who.0 == p) (list_has listed d) (logs past p d) silent
logs_kept (Forget who listed) past d turn silent p = unforgotten (who.0 == p) (list_has listed d) (logs past p d) silent
logs_kept (Crash who) past d turn silent p = absurd (false≢true (sym turn))
logs_kept e past d turn silent p = refl

-- an entry does not change them if it is not a crash, and mentions the determinant at most for a process
-- that logs it
pub copies_still : (e : Entry) (past : List Entry) (d : Det) (copies : DetCopies) → is_crash e ≡ false → (list_has (mentioned_dets e) d ≡ false) ⊎ IsDeliveredTo e past d → AreDetCopies past d copies → AreDetCopies (e ∷ past) d copies
copies_still e past d copies turn which are = grind (arith, nat_tests, logs_kept, stable_stays)

-- the copies at all places except the remaining ones are updated
pub record HaveRenewed (e : Entry) (mentioned places rest : FinSet nat_cmp) (old now : List DetCopies) : Type 0 where
  pub count : length now ≡ length old
  pub left : (j : ℕ) → contains rest j ≡ true → contains places j ≡ true
  pub renewed : (j : ℕ) → contains places j ≡ true → contains rest j ≡ false → AreCopiesAfter e (contains mentioned j) (copies_at old j) (copies_at now j)
  pub ahead : (j : ℕ) → contains rest j ≡ true → copies_at now j ≡ copies_at old j
  pub others : (j : ℕ) → contains places j ≡ false → copies_at now j ≡ copies_at old j

-- after the update of a remaining place, it no longer remains
pub renewed_more : (e : Entry) (mentioned places rest : FinSet nat_cmp) (old mid : List DetCopies) (p : ℕ) (here : DetCopies) → contains rest p ≡ true → p < length mid
    → HaveRenewed e mentioned places rest old mid → AreCopiesAfter e (contains mentioned p) (copies_at mid p) here
    → HaveRenewed e mentioned places (remove rest p) old (set mid p here)
renewed_more e mentioned places rest old mid p here within inside so_far after = record {
  count = length-set mid p here ∙ so_far.count;
  left = λ j h. so_far.left j (left_in rest p j h).0;
  renewed = λ j h out.
      grind (arith, left_out rest p j out, get_or-set_same mid p here no_copies inside, get_or-set_other mid p j here no_copies, so_far.renewed j h, so_far.ahead p within, after, within);
  ahead = λ j h. let still = left_in rest p j h in get_or-set_other mid p j here no_copies still.1 ∙ so_far.ahead j still.0;
  others = λ j h. get_or-set_other mid p j here no_copies (λ is. false≢true (sym h ∙ ap (contains places) is ∙ so_far.left p within)) ∙ so_far.others j h;
}

-- ---- the deliveries that the entry may newly orphan

module _ (n f : ℕ) (e : Entry) (past : List Entry) (k j : ℕ) (d : Det) (newly mentioned : FinSet nat_cmp) (present held : Sets) (formed : AreLegalEntries n (e ∷ past)) (at : det_at (e ∷ past) k ≡ Some d)
    (depend : (p : ℕ) → (contains (row present p) j ≡ true) ↔ Depends (e ∷ past) k p) (so : RowsAreHeld (e ∷ past) j d held) (has_one : HasOrphan n f (e ∷ past) k) where
  abbrev orphan : IsExposed n f (e ∷ past) k d
  orphan = exposed n f (e ∷ past) k d at has_one

  not_held : contains (row held orphan.orphan) j ≡ false
  not_held = false_from_ne_true (contains (row held orphan.orphan) j) (λ h. false≢true (sym orphan.without ∙ so orphan.orphan h))

  lacking : IsLacked present held n j
  lacking = (orphan.orphan, orphan.process, (depend orphan.orphan).1 orphan.depends, not_held)

suspect_by : (n f : ℕ) (e : Entry) (past : List Entry) (k j : ℕ) (d : Det) (newly mentioned : FinSet nat_cmp) (present held : Sets) → AreLegalEntries n (e ∷ past) → det_at (e ∷ past) k ≡ Some d
    → AreNewlyReached past e k j newly → contains mentioned j ≡ list_has (mentioned_dets e) d → ((p : ℕ) → (contains (row present p) j ≡ true) ↔ Depends (e ∷ past) k p) → RowsAreHeld (e ∷ past) j d held
    → HasOrphan n f (e ∷ past) k → (HasOrphan n f past k → ⊥) → MayGetOrphan past e k d → IsSuspect e newly mentioned present held n j
suspect_by n f (Deliver to send rsn listed) past k j d newly mentioned present held formed at is says depend so has_one never may =
    let e = Deliver to send rsn listed in
    let x = exposed n f (e ∷ past) k d at has_one in
    let only : x.orphan ≡ to.0 = one_new_orphan n f past k d to send rsn listed x.orphan formed at has_one never (gone_orphan n f (e ∷ past) k d at x.orphan x.process x.unstable x.depends x.without) in
    let new : contains newly j ≡ true = grind (arith, depends_before n e past k to.0 formed (refl, refl) may.0, may.1, is.complete to.0 refl) in
    (new, subst (λ p. contains (row held p) j ≡ false) only (not_held n f e past k j d newly mentioned present held formed at depend so has_one))
suspect_by n f e past k j d newly mentioned present held formed at is says depend so has_one never may =
    grind (arith, lacking n f e past k j d newly mentioned present held formed at depend so has_one)

-- a delivery with an orphan after a step, and none before, is a suspect
pub suspect : (r : Recording) (f : ℕ) (candidates : List OpenDelivery) (start : ℕ) (buffers : WalkBuffers) (s : WalkStep) → IsWalkStep r candidates s → IsWalkState r candidates start (s.t + 1) buffers
    → (j : ℕ) → j < length candidates → HasNoOrphanBy r f (position_at candidates j) s.t → HasOrphan r.processes f (instant r.past (s.t + 1)) (position_at candidates j)
    → IsSuspect s.entry.now s.newly s.mentioned buffers.reach.present.items buffers.held_places.items r.processes j
suspect r f candidates start buffers s step now j low none has_one =
    let k = position_at candidates j in
    let made = step.made j low in
    let past = instant r.past s.t in
    let e = s.entry.now in
    let formed = accepted_here r candidates s step in
    let then : HasOrphan r.processes f (e ∷ past) k = subst (λ p. HasOrphan r.processes f p k) step.next has_one in
    let early : k < s.t + 1 = omega (arith, det_within (instant r.past (s.t + 1)) k has_one.is_orphan.det has_one.is_orphan.delivered, length_after r candidates s step) in
    let at : det_at (e ∷ past) k ≡ Some made.0 = ap (λ p. det_at p k) (sym step.next) ∙ det_then r.past (s.t + 1) k early (omega (arith, step.below)) ∙ made.1 in
    let told = now.told j made.0 low made.1 in
    let never : HasOrphan r.processes f past k → ⊥ = none s.t (omega arith) in
    elim (sweep_law r.processes f e past k made.0 formed at then) [
      | inl old ↦ absurd (never old)
      | inr may ↦ suspect_by r.processes f e past k j made.0 s.newly s.mentioned buffers.reach.present.items buffers.held_places.items formed at (step.newly j made.0 low made.1) (step.mentioned j made.0 low made.1)
          (λ p. subst (λ x. (contains (row buffers.reach.present.items p) j ≡ true) ↔ Depends x k p) step.next (told.depends p))
          (subst (λ x. RowsAreHeld x j made.0 buffers.held_places.items) step.next (now.held j made.0 low made.1)) then never may
    ]

-- ---- some of them, one by one

-- the first breach of one of them by the instant after the entry
pub found_next : (r : Recording) (candidates : List OpenDelivery) (start : ℕ) (buffers : WalkBuffers) (s : WalkStep) (step : IsWalkStep r candidates s) → IsWalkState r candidates start (s.t + 1) buffers → (j f : ℕ) → j < length candidates → (found : Option Breach)
    → HasNoOrphanBy r f (position_at candidates j) s.t → IsBreachOfPlace buffers f (position_at candidates j) j (s.t + 1) found → FirstBreachBy r f (s.t + 1) (position_at candidates j) found
found_next r candidates start buffers s step now j f low found none tells =
    let made = step.made j low in
    first_here r candidates s step f (position_at candidates j) found none
    (tells r.processes (instant r.past (s.t + 1)) made.0 (accepted_then r.processes r.past (s.t + 1) step.formed.accepted) (length_after r candidates s step)
    (λ early. det_then r.past (s.t + 1) (position_at candidates j) early (omega (arith, step.below)) ∙ made.1) (now.told j made.0 low made.1) (now.copied j made.0 low made.1) now.down)

-- the position of a place is in the list of positions
pub among_opened : (candidates : List OpenDelivery) (j : ℕ) → j < length candidates → Contains (positions_of candidates) (position_at candidates j)
among_opened candidates j low = grind (arith, length-map candidates position, get_or-map, Contains-get_or (positions_of candidates) j 0)

-- all places except the remaining ones are checked
pub record HaveJudged (r : Recording) (f : ℕ) (candidates : List OpenDelivery) (t : ℕ) (places rest : FinSet nat_cmp) (least : Option Breach) : Type 0 where
  pub left : (j : ℕ) → contains rest j ≡ true → contains places j ≡ true
  pub done : List ℕ
  pub inside : (k : ℕ) → Contains done k → Contains (positions_of candidates) k
  pub each : (j : ℕ) → contains places j ≡ true → contains rest j ≡ false → Contains done (position_at candidates j)
  pub found : EarliestAmongBy r f (t + 1) done least

-- at first all places remain, and no breach has been found
pub judged_none : (r : Recording) (f : ℕ) (candidates : List OpenDelivery) (t : ℕ) (places : FinSet nat_cmp) → HaveJudged r f candidates t places places None
judged_none r f candidates t places = grind (arith, among_none r f (t + 1))

-- after the check of a remaining place, it no longer remains, and its breach counts
pub judged_more : (r : Recording) (f : ℕ) (candidates : List OpenDelivery) (t : ℕ) (places rest : FinSet nat_cmp) (least found : Option Breach) (p : ℕ) → contains rest p ≡ true → HaveJudged r f candidates t places rest least
    → Contains (positions_of candidates) (position_at candidates p) → FirstBreachBy r f (t + 1) (position_at candidates p) found → HaveJudged r f candidates t places (remove rest p) (earlier_breach least found)
judged_more r f candidates t places rest least found p within so_far among first = record {
  left = λ j h. so_far.left j (left_in rest p j h).0;
  done = so_far.done ++ position_at candidates p ∷ [];
  inside = λ k listed. grind (arith, Contains-push_cases so_far.done (position_at candidates p) k listed);
  each = λ j h out.
      grind (arith, left_out rest p j out, Contains-push so_far.done (position_at candidates p), Contains-append_left so_far.done (position_at candidates p ∷ []) (position_at candidates j), so_far.each j h);
  found = among_push r f (t + 1) so_far.done (position_at candidates p) least found so_far.found first;
}

-- ---- all of them

-- the copies after a step
pub copied_next : (r : Recording) (candidates : List OpenDelivery) (s : WalkStep) → IsWalkStep r candidates s → (all held places : FinSet nat_cmp) (old new : List DetCopies) → ArePlaces candidates all → AreHeldBefore r candidates s held
    → ((j : ℕ) → contains all j ≡ true → contains places j ≡ false → (is_crash s.entry.now ≡ false) × ((contains s.mentioned j ≡ false) ⊎ (contains held j ≡ true)))
    → ((j : ℕ) → contains places j ≡ false → copies_at new j ≡ copies_at old j) → ((j : ℕ) → contains places j ≡ true → AreCopiesAfter s.entry.now (contains s.mentioned j) (copies_at old j) (copies_at new j))
    → AreCopiesOfGroup r candidates s.t old → AreCopiesOfGroup r candidates (s.t + 1) new
copied_next r candidates s step all held places old new are before quiet others renewed known j d low at =
    grind (arith, cases_Bool (contains places j), are j, before j d low at, quiet j, others j, renewed j, known j d low at, step.mentioned j d low at, copies_still)

-- the place of a position in the list
pub place_of : (candidates : List OpenDelivery) (k : ℕ) → Contains (positions_of candidates) k → (j : ℕ) × (j < length candidates) × (position_at candidates j ≡ k)
place_of candidates k listed = grind (arith, position, length-map, get_or-map)

-- if all suspects are checked and the others have no orphan, it is the earliest breach of all
pub least_in_all : (r : Recording) (f : ℕ) (candidates : List OpenDelivery) (t : ℕ) (places rest : FinSet nat_cmp) (least : Option Breach) → HaveJudged r f candidates t places rest least → ((j : ℕ) → contains rest j ≡ false)
    → ((j : ℕ) → j < length candidates → contains places j ≡ false → HasNoOrphanBy r f (position_at candidates j) (t + 1)) → EarliestAmongBy r f (t + 1) (positions_of candidates) least
least_in_all r f candidates t places rest least judged whole none =
    among_wider r f (t + 1) judged.done (positions_of candidates) least judged.inside (λ k listed.
    let at = place_of candidates k listed in
    grind (arith, cases_Bool (contains places at.0), at.2, judged.each at.0, whole at.0, none at.0 at.1)) judged.found

-- ==== the determinants that each process is known to hold, after one more entry

-- the rows of all processes except p are unchanged, and the row of p contains at most these places
module _ (old new : List (FinSet nat_cmp)) (p : ℕ) (places : FinSet nat_cmp) (others : (i : ℕ) → (i ≡ p → ⊥) → row new i ≡ row old i)
    (here : (j : ℕ) → contains (row new p) j ≡ true → contains places j ≡ true) (past : List Entry) (j : ℕ) (d : Det) (so : RowsAreHeld past j d old) where
  at_row : (q : ℕ) → contains (row new q) j ≡ true → (((p == q) ≡ true) × (p ≡ q) × (contains places j ≡ true)) ⊎ (((p == q) ≡ false) × (logs past q d ≡ true))
  at_row q h = grind arith

-- after a delivery its receiver is known to hold what it held and what is listed
pub held_delivery : (to : Pid) (send rsn : ℕ) (listed : List Det) (mentioned : FinSet nat_cmp) (old new : List (FinSet nat_cmp)) → ((i : ℕ) → (i ≡ to.0 → ⊥) → row new i ≡ row old i)
    → ((j : ℕ) → contains (row new to.0) j ≡ true → contains (union (row old to.0) mentioned) j ≡ true)
    → (past : List Entry) (j : ℕ) (d : Det) → contains mentioned j ≡ list_has listed d → RowsAreHeld past j d old → RowsAreHeld (Deliver to send rsn listed ∷ past) j d new
held_delivery to send rsn listed mentioned old new others here past j d says so q h = grind (arith, at_row, contains-union)

-- after a forgetting its process is known to hold what it held, except what is listed
pub held_forget : (who : Pid) (listed : List Det) (mentioned : FinSet nat_cmp) (old new : List (FinSet nat_cmp)) → ((i : ℕ) → (i ≡ who.0 → ⊥) → row new i ≡ row old i)
    → ((j : ℕ) → contains (row new who.0) j ≡ true → contains (difference (row old who.0) mentioned) j ≡ true)
    → (past : List Entry) (j : ℕ) (d : Det) → contains mentioned j ≡ list_has listed d → RowsAreHeld past j d old → RowsAreHeld (Forget who listed ∷ past) j d new
held_forget who listed mentioned old new others here past j d says so q h =
    grind (
      arith,
      at_row old new who.0 (difference (row old who.0) mentioned) others here past j d so q h,
      parts,
      contains-difference nat_cmp_total (row old who.0) mentioned j,
      nat_tests,
    )

-- after a crash its process is known to hold no determinant
pub held_crash : (who : Pid) (old new : List (FinSet nat_cmp)) → ((i : ℕ) → (i ≡ who.0 → ⊥) → row new i ≡ row old i)
    → ((j : ℕ) → contains (row new who.0) j ≡ true → contains {R = nat_cmp} empty j ≡ true)
    → (past : List Entry) (j : ℕ) (d : Det) → RowsAreHeld past j d old → RowsAreHeld (Crash who ∷ past) j d new
held_crash who old new others here past j d so q h = grind (arith, at_row, contains-empty, nat_tests)

-- ==== a walk over the entries for the deliveries of a group

module _ (r : Recording) (candidates : List OpenDelivery) (start : ℕ) (buffers : WalkBuffers) (t : ℕ) (e : Entry) (own new_ones : FinSet nat_cmp) (followed : IsWalkState r candidates start t buffers) (formed : IsWellFormed r) (below : t < length r.past)
    (next : instant r.past (t + 1) ≡ e ∷ instant r.past t) (new : ReachSets) (is_own : ArePlacesAt candidates t own) (sees : AppliesEntry e t own buffers.reach new new_ones) where
  -- the step's facts hold for each delivery
  pub sees_each : (j : ℕ) (d : Det) → j < length candidates → det_at r.past (position_at candidates j) ≡ Some d
      → IsReach (e ∷ instant r.past t) (position_at candidates j) j new × AreNewlyReached (instant r.past t) e (position_at candidates j) j new_ones
  sees_each j d low at =
      let k = position_at candidates j in
      sees r.processes (instant r.past t) k j d formed.count.1 (accepted_next r formed t e below next) (instant_length r.past t (omega (arith, below)))
      (λ here. ap (λ past. det_at past k) (sym next) ∙ det_then r.past (t + 1) k (omega (arith, here)) (omega (arith, below)) ∙ at) (λ h. ((is_own j).0 h).1, λ here. (is_own j).1 (low, here)) (followed.told j d low at)

  -- the rows show the deliveries that reach the entries so far
  pub told_after : (j : ℕ) (d : Det) → j < length candidates → det_at r.past (position_at candidates j) ≡ Some d → IsReach (instant r.past (t + 1)) (position_at candidates j) j new
  told_after j d low at = subst (λ past. IsReach past (position_at candidates j) j new) (sym next) (sees_each j d low at).0

-- the receiver of a delivery logs the determinants of the places in its row
pub held_then : (e : Entry) (past : List Entry) (rows : List (FinSet nat_cmp)) (places : FinSet nat_cmp) (j : ℕ) (d : Det) → IsHeldBy e rows places → RowsAreHeld past j d rows → contains places j ≡ true → IsDeliveredTo e past d
held_then e past rows places j d by so h = grind (arith, none_in)

-- the row of an entry contains the places whose determinants it mentions
mentions_here : (x : Entry) (j : ℕ) (here places : FinSet nat_cmp) (d : Det) → AreMentionedPlaces x here places → (message_sent x ≡ None → contains here j ≡ list_has (mentioned_dets x) d) → contains places j ≡ list_has (mentioned_dets x) d
mentions_here e j here places d told marked = grind (arith, contains-empty)

-- rows that are marked from t on remain so from t + 1 on, if only the row of t changes
pub marked_next : (past : List Entry) (start : ℕ) (candidates : List OpenDelivery) (t : ℕ) (old new : Sets) → length new ≡ length old → ((i : ℕ) → t < start + i → row new i ≡ row old i) → AreMarked past start t candidates (length candidates) old
    → AreMarked past start (t + 1) candidates (length candidates) new
marked_next past start candidates t old new count later marked j low i d e late inside at there none = grind arith

-- the facts of a step
pub is_step : (r : Recording) (candidates : List OpenDelivery) (start : ℕ) (buffers : WalkBuffers) (s : WalkStep) → IsWalkState r candidates start s.t buffers → IsWellFormed r → s.t < length r.past → instant r.past (s.t + 1) ≡ s.entry.now ∷ instant r.past s.t
    → ((j : ℕ) (d : Det) → j < length candidates → det_at r.past (position_at candidates j) ≡ Some d → AreNewlyReached (instant r.past s.t) s.entry.now (position_at candidates j) j s.newly)
    → length r.past ≤ max_entries → HasRow start buffers.reach.rows s.t → AreMentionedPlaces s.entry.now (row_of start buffers.reach.rows s.t) s.mentioned → entry_at r.past s.t ≡ Some s.entry.now
    → ((j : ℕ) → j < length candidates → IsDeliveryAt r.past (position_at candidates j)) → IsWalkStep r candidates s
is_step r candidates start buffers s followed formed below next newly short inside told there made = grind (arith, mentions_here)

-- ---- the deliveries that are still open

-- a delivery that is closed has no orphan
pub none_over : (r : Recording) (f t : ℕ) (candidates : List OpenDelivery) (j : ℕ) → j < length candidates → All (IsOpenDelivery r f (t + 1)) candidates → HaveNoOrphans r f candidates t → (opened_at candidates j).until ≤ t + 1
    → HasNoOrphanBy r f (position_at candidates j) (t + 1)
none_over r f t candidates j low later none over u within list_has = grind (arith, cases_lt t u, later j zero low u, none j low u)

-- it is removed from the set
pub asked_less : (candidates : List OpenDelivery) (t place : ℕ) (unresolved : FinSet nat_cmp) → AreStillOpen candidates t unresolved → (opened_at candidates place).until ≤ t → AreStillOpen candidates t (remove unresolved place)
asked_less candidates t place unresolved are over = grind (arith, left_in, left_out)

-- the places after one more delivery
pub places_more : (places : FinSet nat_cmp) (place : ℕ) → ((j : ℕ) → (contains places j ≡ true) ↔ (j < place)) → (j : ℕ) → (contains (insert places place) j ≡ true) ↔ (j < place + 1)
places_more places place are j = grind (arith, inserted places place j, eqb-true)

-- ---- the places at a position

-- the deliveries from index `before` to below `passed` are at position t
pub record HavePassed (candidates : List OpenDelivery) (t before passed : ℕ) (own : FinSet nat_cmp) : Type 0 where
  pub from : before ≤ passed
  pub inside : passed ≤ length candidates
  pub own_are : (j : ℕ) → (contains own j ≡ true) ↔ ((before ≤ j) × (j < passed))
  pub stand : (j : ℕ) → before ≤ j → j < passed → position_at candidates j ≡ t

-- a further delivery at t is passed too
pub passed_more : (candidates : List OpenDelivery) (t before passed : ℕ) (own : FinSet nat_cmp) → HavePassed candidates t before passed own → passed < length candidates → position_at candidates passed ≡ t
    → HavePassed candidates t before (passed + 1) (insert own passed)
passed_more candidates t before passed own have low here = grind (arith, inserted, eqb-true)

-- if the other deliveries are later, these are all
module _ (candidates : List OpenDelivery) (t before passed : ℕ) (own : FinSet nat_cmp) (have : HavePassed candidates t before passed own) (are : CountsEarlier candidates t before) (later : (j : ℕ) → passed ≤ j → j < length candidates → t < position_at candidates j) where
  early : (j : ℕ) → j < length candidates → position_at candidates j ≤ t → j < passed
  early j low at = elim (cases_lt j passed) [ inl is ↦ is | inr beyond ↦ absurd (omega (arith, at, later j beyond low)) ]

  pub passed_all : CountsEarlier candidates (t + 1) passed
  passed_all = grind (arith, early)

  pub own_all : ArePlacesAt candidates t own
  own_all j = grind (arith, early)

-- ==== the entries of a walk that mention the determinants of a group

-- ---- one place in one row

-- a place that is inserted into a row is in that row, and the others are unchanged
pub put_in : (rows : Sets) (start place r position : ℕ) → start + r ≡ position → r < length rows → IsPlaceAdded start place position rows (set rows r (insert (row rows r) place))
put_in rows start place r position is inside i j low = grind (arith, get_or-set_same, inserted, eqb-true, eq-eqb, get_or-set_other)
