-- The state of a walk: by place, what is known of each delivery of the group.
use Rattle.std.specs.Prelude.{◌≡◌, ℕ, ◌+◌, ◌-◌, ◌<◌, ◌≤◌, ◌↔◌, ◌⊎◌, Bool, true, false, List, ◌∷◌, length, Option, Some, None, slice_index_or, Contains}
use Rattle.causal_audit.specs.Inside.Common.{nat_cmp, FinSet, contains, empty, Det, Entry, det_at, list_has, logs, is_stable, is_down, instant, entry_at, message_sent, Pid, Send, AreLegalEntries, Recording, IsWellFormed, actor, Reaches, Depends, Deliver, Restart, Forget, max_entries}
pub use Rattle.causal_audit.specs.Inside.Group.Rows.{row}
use Rattle.causal_audit.specs.declared.group.reach.ReachSets.{ReachSets}
use Rattle.causal_audit.specs.declared.group.walk_input.OpenDelivery.{OpenDelivery}
use Rattle.causal_trace.specs.Past.{mentioned_dets}
use Rattle.causal_audit.specs.Inside.Among.{HasNoOrphanBy}
use Rattle.causal_audit.specs.Inside.Group.OpenDeliveries.{IsDeliveryAt}
use Rattle.causal_audit.specs.Inside.DeliveryStates.{BreachAt, HasExactly}
use Rattle.causal_audit.specs.Inside.SafetyScan.Persistence.{MentionsNone}
use Rattle.causal_audit.specs.declared.breach.Breach.{Breach}
use Rattle.causal_audit.specs.declared.group.buffers.WalkBuffers.{WalkBuffers}
use Rattle.causal_audit.specs.declared.group.suspects.WalkStep.{WalkStep}
use Rattle.causal_audit.specs.declared.group.copies.DetCopies.{DetCopies}

-- in a walk from `start`, the row of the entry at position v
abbrev pub row_of : ℕ → List (FinSet nat_cmp) → ℕ → FinSet nat_cmp
row_of start rows v = row rows (v - start)

-- the entry at position v has a row
abbrev pub HasRow : ℕ → List (FinSet nat_cmp) → ℕ → Type 0
HasRow start rows v = (start ≤ v) × (v < start + length rows)

-- the delivery at a place; if there is none, one that is closed before the first instant
abbrev pub opened_at : List OpenDelivery → ℕ → OpenDelivery
opened_at candidates j = slice_index_or candidates j (record { position = 0; until = 0 })

-- the position of the delivery at a place
abbrev pub position_at : List OpenDelivery → ℕ → ℕ
position_at candidates j = (opened_at candidates j).position

-- the walk begins at `start`, at or before the delivery at k, whose place is j; the rows of the sends so far contain j
-- exactly if k reaches the send, and the row of a process exactly if its present lane depends on k
pub record RowsShowReach (past : List Entry) (start k j : ℕ) (rows present : List (FinSet nat_cmp)) : Type 0 where
  pub early : start ≤ k
  pub behind : (v : ℕ) (from to : Pid) (ssn : ℕ) → start ≤ v → entry_at past v ≡ Some (Send from to ssn)
      → (contains (row_of start rows v) j ≡ true) ↔ Reaches past k v
  pub depends : (p : ℕ) → (contains (row present p) j ≡ true) ↔ Depends past k p

-- the rows of `reach` show which sends and processes the delivery at k, whose place is j, reaches
abbrev pub IsReach : List Entry → ℕ → ℕ → ReachSets → Type 0
IsReach past k j reach = RowsShowReach past reach.start k j reach.rows reach.present.items

-- `new` is `old` with the place added to the row of the entry at this position, if it has a row
abbrev pub IsPlaceAdded : ℕ → ℕ → ℕ → List (FinSet nat_cmp) → List (FinSet nat_cmp) → Type 0
IsPlaceAdded start place position old new =
    (i j : ℕ) → i < length old
    → (contains (row new i) j ≡ true) ↔ ((contains (row old i) j ≡ true) ⊎ ((j ≡ place) × (start + i ≡ position)))

-- the set contains exactly the places of the deliveries at position t
abbrev pub ArePlacesAt : List OpenDelivery → ℕ → FinSet nat_cmp → Type 0
ArePlacesAt candidates t own = (j : ℕ) → (contains own j ≡ true) ↔ ((j < length candidates) × (position_at candidates j ≡ t))

-- exactly the first `passed` deliveries precede position t
pub record CountsEarlier (candidates : List OpenDelivery) (t passed : ℕ) : Type 0 where
  pub inside : passed ≤ length candidates
  pub earlier : (j : ℕ) → j < length candidates → (j < passed) ↔ (position_at candidates j < t)

-- the walk begins at position `first`, with a row for each entry from there to below `end`, and one for each process
pub record HasRows (first end : ℕ) (reach : ReachSets) : Type 0 where
  pub start : reach.start ≡ first
  pub rows : first + length reach.rows ≡ end
  pub present : length reach.present.items ≡ 256

-- there is a row for the entry at t, and one for each process
pub record HasRowOf (t : ℕ) (reach : ReachSets) : Type 0 where
  pub row : HasRow reach.start reach.rows t
  pub present : length reach.present.items ≡ 256

-- the set contains the places of the deliveries that reach the send at v
abbrev pub AreReachingPlaces : ReachSets → ℕ → FinSet nat_cmp → Type 0
AreReachingPlaces reach v told =
    (n : ℕ) (past : List Entry) (k j : ℕ) (from to : Pid) (ssn : ℕ) → AreLegalEntries n past → IsReach past k j reach
    → entry_at past v ≡ Some (Send from to ssn) → (contains told j ≡ true) ↔ Reaches past k v

-- the set contains the place only if k reaches the next entry; it contains it if k does, unless the process depended on
-- k
pub record AreNewlyReached (past : List Entry) (e : Entry) (k j : ℕ) (newly : FinSet nat_cmp) : Type 0 where
  pub sound : contains newly j ≡ true → Reaches (e ∷ past) k (length past)
  pub complete : (p : ℕ) → actor e ≡ Some p → Reaches (e ∷ past) k (length past) → (contains newly j ≡ true) ⊎ Depends past k p

-- `new` adds the entry at position t, and `newly` contains the deliveries that newly reach its process; `own` contains
-- the places of the deliveries at t
abbrev pub AppliesEntry : Entry → ℕ → FinSet nat_cmp → ReachSets → ReachSets → FinSet nat_cmp → Type 0
AppliesEntry e t own old new newly =
    (n : ℕ) (past : List Entry) (k j : ℕ) (d : Det) → n ≤ 256 → AreLegalEntries n (e ∷ past) → length past ≡ t
    → (k ≡ t → det_at (e ∷ past) k ≡ Some d) → (contains own j ≡ true) ↔ (k ≡ t)
    → IsReach past k j old → IsReach (e ∷ past) k j new × AreNewlyReached past e k j newly

-- the places whose determinants the entry mentions, by its row; none for a send
abbrev pub AreMentionedPlaces : Entry → FinSet nat_cmp → FinSet nat_cmp → Type 0
AreMentionedPlaces (Send from to ssn) places told = told ≡ empty
AreMentionedPlaces _ places told = told ≡ places

-- the rows contain only places below `count`
abbrev pub AreBelow : ℕ → List (FinSet nat_cmp) → Type 0
AreBelow count rows = (i j : ℕ) → i < length rows → contains (row rows i) j ≡ true → j < count

-- the places in the row of a delivery's receiver; none for another entry
abbrev pub IsHeldBy : Entry → List (FinSet nat_cmp) → FinSet nat_cmp → Type 0
IsHeldBy (Deliver to send rsn listed) rows places = places ≡ row rows to.0
IsHeldBy _ rows places = places ≡ empty

-- the entry delivers to a process that logs d
abbrev pub IsDeliveredTo : Entry → List Entry → Det → Type 0
IsDeliveredTo (Deliver to send rsn listed) past d = logs past to.0 d ≡ true
IsDeliveredTo _ past d = ⊥

-- each process whose row contains the place logs the determinant d
abbrev pub RowsAreHeld : List Entry → ℕ → Det → List (FinSet nat_cmp) → Type 0
RowsAreHeld past j d rows = (p : ℕ) → contains (row rows p) j ≡ true → logs past p d ≡ true

-- if that holds before one more entry, which mentions the determinants of these places, it holds after it
abbrev pub KeepsHeld : Entry → FinSet nat_cmp → List (FinSet nat_cmp) → List (FinSet nat_cmp) → Type 0
KeepsHeld e mentioned old new =
    (past : List Entry) (j : ℕ) (d : Det) → contains mentioned j ≡ list_has (mentioned_dets e) d
    → RowsAreHeld past j d old → RowsAreHeld (e ∷ past) j d new

-- neither the delivery nor a mention of its determinant is before this position
pub record IsUntouchedBefore (past : List Entry) (start : ℕ) (delivery : OpenDelivery) : Type 0 where
  pub made : start ≤ delivery.position
  pub unmentioned : (d : Det) → det_at past delivery.position ≡ Some d → MentionsNone past d 0 start

-- `new` is `old` with the place added to the rows of the entries at these positions
abbrev pub HaveMarked : ℕ → ℕ → List ℕ → List (FinSet nat_cmp) → List (FinSet nat_cmp) → Type 0
HaveMarked start place positions old new =
    (i j : ℕ) → i < length old
    → (contains (row new i) j ≡ true) ↔ ((contains (row old i) j ≡ true) ⊎ ((j ≡ place) × Contains positions (start + i)))

-- from an instant on, the row of each entry other than a send contains the place exactly if it mentions the determinant
-- of this delivery
abbrev pub IsMarked : List Entry → ℕ → ℕ → ℕ → OpenDelivery → List (FinSet nat_cmp) → Type 0
IsMarked past start t place delivery rows =
    (i : ℕ) (d : Det) (e : Entry) → t ≤ start + i → i < length rows → det_at past delivery.position ≡ Some d → entry_at past (start + i) ≡ Some e
    → message_sent e ≡ None → contains (row rows i) place ≡ list_has (mentioned_dets e) d

-- that holds for the first `count` places
abbrev pub AreMarked : List Entry → ℕ → ℕ → List OpenDelivery → ℕ → List (FinSet nat_cmp) → Type 0
AreMarked past start t candidates count rows = (j : ℕ) → j < count → IsMarked past start t j (opened_at candidates j) rows

-- the copies are those of the determinant d
pub record AreDetCopies (past : List Entry) (d : Det) (copies : DetCopies) : Type 0 where
  pub holders : HasExactly copies.holders (λ p. logs past p d)
  pub stable : copies.stable ≡ is_stable past d

-- if `before` are the copies of a determinant, `after` are those after one more entry; `mentioned_dets`: the entry mentions
-- it
abbrev pub AreCopiesAfter : Entry → Bool → DetCopies → DetCopies → Type 0
AreCopiesAfter e mentioned before after =
    (past : List Entry) (d : Det) → mentioned ≡ list_has (mentioned_dets e) d → AreDetCopies past d before → AreDetCopies (e ∷ past) d after

-- the copies of a determinant that is neither stable nor in a log
abbrev pub no_copies : DetCopies
no_copies = record { holders = empty; stable = false }

-- the copies at a place
abbrev pub copies_at : List DetCopies → ℕ → DetCopies
copies_at copies j = slice_index_or copies j no_copies

-- at each place are the copies of its delivery's determinant at the instant t
abbrev pub AreCopiesOfGroup : Recording → List OpenDelivery → ℕ → List DetCopies → Type 0
AreCopiesOfGroup r candidates t copies =
    (j : ℕ) (d : Det) → j < length candidates → det_at r.past (position_at candidates j) ≡ Some d → AreDetCopies (instant r.past t) d (copies_at copies j)

-- some process below n depends on the place and is not known to hold its determinant
abbrev pub IsLacked : List (FinSet nat_cmp) → List (FinSet nat_cmp) → ℕ → ℕ → Type 0
IsLacked present held n j = (p : ℕ) × (p < n) × (contains (row present p) j ≡ true) × (contains (row held p) j ≡ false)

-- the entry may newly orphan the place: it delivers to a process that newly depends on the place and is not known to
-- hold the determinant, or some process lacks the determinant after a restart that does not list it or a forgetting
-- that does
abbrev pub IsSuspect : Entry → FinSet nat_cmp → FinSet nat_cmp → List (FinSet nat_cmp) → List (FinSet nat_cmp) → ℕ → ℕ → Type 0
IsSuspect (Deliver to send rsn listed) newly mentioned present held n j = (contains newly j ≡ true) × (contains (row held to.0) j ≡ false)
IsSuspect (Restart who listed) newly mentioned present held n j = (contains mentioned j ≡ false) × IsLacked present held n j
IsSuspect (Forget who listed) newly mentioned present held n j = (contains mentioned j ≡ true) × IsLacked present held n j
IsSuspect _ newly mentioned present held n j = ⊥

-- the step has the entry at its position; for each delivery, `newly` shows whether it newly reaches the entry's
-- process, and `mentioned_dets` whether the entry mentions its determinant
pub record IsWalkStep (r : Recording) (candidates : List OpenDelivery) (s : WalkStep) : Type 0 where
  pub formed : IsWellFormed r
  pub short : length r.past ≤ max_entries
  pub below : s.t < length r.past
  pub next : instant r.past (s.t + 1) ≡ s.entry.now ∷ instant r.past s.t
  pub made : (j : ℕ) → j < length candidates → IsDeliveryAt r.past (position_at candidates j)
  pub newly : (j : ℕ) (d : Det) → j < length candidates → det_at r.past (position_at candidates j) ≡ Some d
      → AreNewlyReached (instant r.past s.t) s.entry.now (position_at candidates j) j s.newly
  pub mentioned : (j : ℕ) (d : Det) → j < length candidates → det_at r.past (position_at candidates j) ≡ Some d
      → contains s.mentioned j ≡ list_has (mentioned_dets s.entry.now) d

-- each process whose row contains the place of a delivery logs its determinant at the instant t
abbrev pub AreKnownHeld : Recording → List OpenDelivery → ℕ → List (FinSet nat_cmp) → Type 0
AreKnownHeld r candidates t rows =
    (j : ℕ) (d : Det) → j < length candidates → det_at r.past (position_at candidates j) ≡ Some d → RowsAreHeld (instant r.past t) j d rows

-- the entry of the step delivers to a process that logs the determinants of these places
abbrev pub AreHeldBefore : Recording → List OpenDelivery → WalkStep → FinSet nat_cmp → Type 0
AreHeldBefore r candidates s places =
    (j : ℕ) (d : Det) → j < length candidates → det_at r.past (position_at candidates j) ≡ Some d → contains places j ≡ true
    → IsDeliveredTo s.entry.now (instant r.past s.t) d

-- none of the deliveries has an orphan up to an instant
abbrev pub HaveNoOrphans : Recording → ℕ → List OpenDelivery → ℕ → Type 0
HaveNoOrphans r f candidates t = (j : ℕ) → j < length candidates → HasNoOrphanBy r f (position_at candidates j) t

-- the set contains places of the group, and each delivery whose place is not in it is closed at the instant t
pub record AreStillOpen (candidates : List OpenDelivery) (t : ℕ) (unresolved : FinSet nat_cmp) : Type 0 where
  pub places : (j : ℕ) → contains unresolved j ≡ true → j < length candidates
  pub over : (j : ℕ) → j < length candidates → contains unresolved j ≡ false → (opened_at candidates j).until ≤ t

-- the set contains exactly the places of the group
abbrev pub ArePlaces : List OpenDelivery → FinSet nat_cmp → Type 0
ArePlaces candidates all = (j : ℕ) → (contains all j ≡ true) ↔ (j < length candidates)

-- there is a row for each process, and there are copies at each place
pub record HasBuffers (buffers : WalkBuffers) : Type 0 where
  pub present : length buffers.reach.present.items ≡ 256
  pub copies : length buffers.copies.items ≡ 256

-- there is a row for each entry of a walk from `start` up to `end`, and there are copies at each place
pub record HasRowsFor (start end : ℕ) (buffers : WalkBuffers) : Type 0 where
  pub reach : HasRows start end buffers.reach
  pub copies : length buffers.copies.items ≡ 256

-- the buffers are the state at the instant t of a walk that began at `start`
pub record IsWalkState (r : Recording) (candidates : List OpenDelivery) (start t : ℕ) (buffers : WalkBuffers) : Type 0 where
  pub start_is : buffers.reach.start ≡ start
  pub told : (j : ℕ) (d : Det) → j < length candidates → det_at r.past (position_at candidates j) ≡ Some d
      → IsReach (instant r.past t) (position_at candidates j) j buffers.reach
  pub marked : AreMarked r.past start t candidates (length candidates) buffers.reach.rows
  pub copied : AreCopiesOfGroup r candidates t buffers.copies.items
  pub held : AreKnownHeld r candidates t buffers.held_places.items
  pub down : HasExactly buffers.down (λ p. is_down (instant r.past t) p)

-- the breach at the instant t of the delivery at a place, whose position is k, by buffers in the state of that instant
abbrev pub IsBreachOfPlace : WalkBuffers → ℕ → ℕ → ℕ → ℕ → Option Breach → Type 0
IsBreachOfPlace buffers f k place t found =
    (n : ℕ) (past : List Entry) (d : Det) → AreLegalEntries n past → length past ≡ t → (k < t → det_at past k ≡ Some d)
    → IsReach past k place buffers.reach → AreDetCopies past d (copies_at buffers.copies.items place) → HasExactly buffers.down (λ p. is_down past p)
    → BreachAt n f past k t found
