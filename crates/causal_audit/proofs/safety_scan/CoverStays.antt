-- Until when a process remains down or a holder of a determinant, and the determinant's safety until then.
use Rattle.causal_audit.proofs.Common.{ℕ, ◌≡◌, ◌+◌, ◌<◌, ◌≤◌, inl, inr, Bool, true, false, List, [], ◌∷◌, length, refl, sym, subst, ◌∙◌, arith, Some, None, ◌||◌, ◌&&◌, ◌==◌, not, or_right, same_det, Stable, ◌↔◌, Contains, cases_lt, false≢true, Det, count_below, count_below-within, members_counted, Entry, instant, is_down, is_stable, logs, list_has, entry_at, instant_length, det_then, accepted_then, nat_cmp_total, nat_cmp, FinSet, contains, difference, contains-difference, union, len, contains-union, AreLegalEntries, delivers_up, nat_tests}
use Rattle.causal_audit.specs.Laws.{down_or_holding}
use Rattle.causal_audit.specs.Inside.SafetyScan.Scans.{AreWatched, IsAtRiskAt, RulesOut, IsSafetyOf}
use Rattle.causal_audit.specs.NoRelease.{may_release, NoneReleasedFrom, RemainsSafe, OrphansEnd}
use Rattle.causal_audit.proofs.Lemmas.OrphansByCounts.{exposed, unexposed}
use Rattle.causal_audit.proofs.NoOrphanSoFar.{not_yet}
use Rattle.causal_trace.specs.Past.{mentioned_dets}
use Rattle.causal_audit.specs.Quiet.{SameDeliveryState, InstantsAgree, OrphansAgree}
use Rattle.causal_audit.specs.Inside.SafetyScan.Persistence.{DownOrHoldingPersists, HoldersPersist, MentionsNone, RestartsNone}
use Rattle.causal_audit.proofs.by_clock.Begun.{onward_to}
use Rattle.causal_audit.proofs.Between.{agree_back, exposed_agrees, next_entry, quiet_step}
use Rattle.causal_audit.specs.Inside.PositionLists.{HasNoneUntil, AreMentionsOf, HasMentions}
use Rattle.std.specs.FinSet.{is_subset-contains}
use Rattle.causal_audit.specs.Inside.Index.Reachability.{HasReached}
use Rattle.causal_audit.specs.Inside.Index.Departures.{process_at}
use Rattle.causal_audit.specs.Inside.DeliveryStates.{HasExactly}
use Rattle.causal_audit.specs.declared.safety_scan.det_safety.DetSafety.{DetSafety}
use Rattle.causal_audit.specs.declared.safety_scan.det_safety.DetSafety.TheVariants.{Safe, AtRisk, AtRiskWithoutReceiver}
use Rattle.causal_trace.proofs.Lemmas.RunProcesses.{down_inside, logs_inside}
use Rattle.causal_audit.proofs.Steps.{entry_cases}

-- ==== when a delivery has no orphan any more

-- ---- a stable determinant remains stable

pub stable_more : (e : Entry) (past : List Entry) (d : Det) → is_stable past d ≡ true → is_stable (e ∷ past) d ≡ true
stable_more (Stable det) past d h = or_right (same_det d det) (is_stable past d) h
stable_more e past d h = h

-- ---- a process remains down or a holder if none is released

pub gone_more : (e : Entry) (past : List Entry) (d : Det) (p : ℕ) → may_release e ≡ false → down_or_holding past d p ≡ true → down_or_holding (e ∷ past) d p ≡ true
gone_more e past d p departures h = grind (arith, nat_tests)

none_releases : (past : List Entry) (t : ℕ) → NoneReleasedFrom past t → (v : ℕ) (e : Entry) → t ≤ v → entry_at past v ≡ Some e → may_release e ≡ false
none_releases [] t none v e late at = absurd (let x : None ≡ Some e = at in cc)
none_releases (x ∷ past) t none v e late at = grind (arith, entry_cases x past v e at, none_releases past t none.0 v e late)

-- if none is released, a process that is down or holds d does so at each later instant
pub gone_lasts : (past : List Entry) (d : Det) (t u : ℕ) → NoneReleasedFrom past t → t ≤ u → u ≤ length past → (p : ℕ) → down_or_holding (instant past t) d p ≡ true → down_or_holding (instant past u) d p ≡ true
gone_lasts past d t u none up within p =
    onward_to (λ x. down_or_holding x d p ≡ true) past t u up within (λ v e above below at h. gone_more e (instant past v) d p (none_releases past t none v e above at) h)

-- ---- the instant from which it has no orphan

-- so such a determinant is stable, or more than f processes are down or hold it, at each later instant
pub over_then : (n f : ℕ) (past : List Entry) (d : Det) (t u : ℕ) → RemainsSafe n f past t d → t ≤ u → u ≤ length past → is_stable (instant past u) d ≡ false → count_below n (down_or_holding (instant past u) d) ≤ f → ⊥
over_then n f past d t u (inl stable) up within unstable few = false≢true (sym unstable ∙ onward_to (λ p. is_stable p d ≡ true) past t u up within (λ v e above below at h. stable_more e (instant past v) d h) stable)
over_then n f past d t u (inr many) up within unstable few = grind (arith, few, many.1, count_below-within, gone_lasts)

-- so no delivery with such a determinant has an orphan at a later instant
pub orphans_end : OrphansEnd
orphans_end n f past k d t u at over up within list_has =
    grind (arith, cases_lt k u, not_yet n f (instant past u) k, instant_length past u within, det_then past u k, exposed n f (instant past u) k d, over_then n f past d t u over up within, list_has)

-- ---- the position from which no process is released

-- no process is released after the last entry
pub none_beyond : (past : List Entry) (t : ℕ) → length past ≤ t → NoneReleasedFrom past t
none_beyond [] t above = tt
none_beyond (e ∷ past) t above = (none_beyond past t (omega (arith, above)), λ low. absurd (omega (arith, above, low)))

-- if none is released from a position on, none is from a later one on
pub none_later : (past : List Entry) (t u : ℕ) → t ≤ u → NoneReleasedFrom past t → NoneReleasedFrom past u
none_later [] t u up none = tt
none_later (e ∷ past) t u up none = (none_later past t u up none.0, λ late. none.1 (omega (arith, up, late)))

-- ==== until when a process remains down or a holder

-- ---- the processes that are down or hold it

pub gone_stay : DownOrHoldingPersists
gone_stay past d members t u p up within unmentioned unrestarted inside here =
    onward_to (λ x. down_or_holding x d p ≡ true) past t u up within
    (λ v e above below at h. grind (arith, nat_tests, unmentioned v e above below at, unrestarted v e above below at, inside, h)) here

-- ---- the processes that hold it

-- a process that holds a determinant is up
pub holder_up : (n : ℕ) (past : List Entry) (d : Det) (p : ℕ) → AreLegalEntries n past → logs past p d ≡ true → is_down past p ≡ false
holder_up n [] d p formed h = refl
holder_up n (e ∷ past) d p formed h = grind (arith, delivers_up n past, holder_up n past d p formed.0, nat_tests)

pub up_held : (held down : Bool) → (held ≡ true → down ≡ false) → held ≡ (held && not down)
up_held held down h = grind (arith, nat_tests)

pub holders_stay : HoldersPersist
holders_stay n past d members t u p formed up within unmentioned unrestarted inside =
    onward_to (λ x. logs x p d ≡ (logs (instant past t) p d && not (is_down x p))) past t u up within
    (λ v e above below at h. grind (arith, nat_tests, unmentioned v e above below at, unrestarted v e above below at, inside, h))
    (up_held (logs (instant past t) p d) (is_down (instant past t) p) (holder_up n (instant past t) d p (accepted_then n past t formed)))

-- the instant after an entry
pub entry_then : (past : List Entry) (v : ℕ) (e : Entry) → v < length past → entry_at past v ≡ Some e → instant past (v + 1) ≡ e ∷ instant past v
entry_then past v e below at = grind (arith, next_entry past v below)

-- two instants agree if each entry between them is quiet
pub instants_agree : InstantsAgree
instants_agree n past k d t u formed up within quiet =
    onward_to (λ x. SameDeliveryState (instant past t) x k d) past t u up within
    (λ v e above below at so_far.
    let legal : AreLegalEntries n (e ∷ instant past v) = subst (AreLegalEntries n) (entry_then past v e (omega (arith, below, within)) at) (accepted_then n past (v + 1) formed) in
    grind (arith, so_far, quiet_step n e (instant past v) k d legal (quiet v e above below at)))
    (record { down = λ p. refl; logged = λ p. refl; stable = refl; dependents = λ p. (λ x. x, λ x. x) })

-- so a delivery before both has an orphan at both or at neither
pub orphans_agree : OrphansAgree
orphans_agree n f past k d t u formed at made up within quiet = grind (arith, instants_agree n past k d t u formed up within quiet, agree_back, exposed_agrees, exposed, unexposed, det_then)

-- ==== a scan over the entries that may change who is down or holds a determinant, and its safety between them

-- ---- the set of processes that are down or hold a determinant

pub inside_run : (n : ℕ) (past : List Entry) (d : Det) → AreLegalEntries n past → (q : ℕ) → down_or_holding past d q ≡ true → q < n
inside_run n past d formed q h = grind (arith, down_inside, logs_inside)

module _ (n : ℕ) (past : List Entry) (d : Det) (formed : AreLegalEntries n past) (down holders : FinSet nat_cmp) (downs : HasExactly down (λ p. is_down past p)) (holds : HasExactly holders (λ p. logs past p d)) where
  pub gone_shown : (q : ℕ) → contains (union down holders) q ≡ down_or_holding past d q
  gone_shown q = contains-union nat_cmp_total down holders q ∙ (λ i. downs q i || holds q i)

  pub gone_many : len (union down holders) ≡ count_below n (down_or_holding past d)
  gone_many = members_counted n (union down holders) (down_or_holding past d) (record { process = λ q h. inside_run n past d formed q (sym (gone_shown q) ∙ h); member = λ q low. gone_shown q })

-- no determinant is at risk while processes that make it safe are down or hold it
kept_by : (n most : ℕ) (past : List Entry) → AreLegalEntries n past → (d : Det) (u : ℕ) (reached members : FinSet nat_cmp) → HasReached past d.dest.0 reached → IsSafetyOf Safe most d.dest.0 reached members
    → ((p : ℕ) → contains members p ≡ true → down_or_holding (instant past u) d p ≡ true) → IsAtRiskAt n most past d u → ⊥
kept_by n most past formed d u reached members has_reached (inl many) stay thin =
    let counted = members_counted n members (contains members) (record { process = λ q h. inside_run n (instant past u) d (accepted_then n past u formed) q (stay q h); member = λ q low. refl }) in
    omega (arith, thin.few, many, counted, count_below-within n (contains members) (down_or_holding (instant past u) d) (λ p low h. stay p h))
kept_by n most past formed d u reached members has_reached (inr all) stay thin =
    let q = process_at past thin.left_over.1 in
    false≢true (sym thin.left_over.4 ∙ stay q (is_subset-contains nat_cmp_total reached members all q (has_reached thin.left_over.0 thin.left_over.1 thin.left_over.2 thin.left_over.3)))

-- a safe determinant is not at risk while all of these processes remain down or holders
pub kept_still : (n most : ℕ) (past : List Entry) → AreLegalEntries n past → (d : Det) (t u : ℕ) (reached down holders : FinSet nat_cmp) → HasReached past d.dest.0 reached → HasExactly down (λ p. is_down (instant past t) p)
    → HasExactly holders (λ p. logs (instant past t) p d) → IsSafetyOf Safe most d.dest.0 reached (union down holders) → ((p : ℕ) → down_or_holding (instant past t) d p ≡ true → down_or_holding (instant past u) d p ≡ true) → IsAtRiskAt n most past d u → ⊥
kept_still n most past formed d t u reached down holders has_reached downs holds keep stay =
    kept_by n most past formed d u reached (union down holders) has_reached keep (λ p h. stay p (sym (gone_shown n (instant past t) d (accepted_then n past t formed) down holders downs holds p) ∙ h))

-- an entry mentions the determinant exactly if its position is in the list of mentions
pub mentioned_listed : (past : List Entry) (d : Det) (mentions : List ℕ) → HasMentions past d mentions → AreMentionsOf past d mentions → (v : ℕ) (e : Entry) → entry_at past v ≡ Some e → (told : Bool) → (told ≡ true) ↔ Contains mentions v → told ≡ list_has (mentioned_dets e) d
mentioned_listed past d mentions mentioned only v e there told same = grind (arith, only v, mentioned v e there)

-- up to the next mention, an entry mentions the determinant exactly if it is that mention
pub mentioned_next : (past : List Entry) (d : Det) (mentions : List ℕ) → HasMentions past d mentions → AreMentionsOf past d mentions → (t next : ℕ) → HasNoneUntil mentions t next
    → (v : ℕ) → t ≤ v → v ≤ next → (next ≡ v → Contains mentions v) → (e : Entry) → entry_at past v ≡ Some e → (next == v) ≡ list_has (mentioned_dets e) d
mentioned_next past d mentions mentioned only t next none v above low found e there = mentioned_listed past d mentions mentioned only v e there (next == v) (grind (arith, none v above))

-- ---- until an entry mentions it or restarts a watched process

module _ (n : ℕ) (past : List Entry) (formed : AreLegalEntries n past) (d : Det) (t next : ℕ) (within : next ≤ length past) (unmentioned : MentionsNone past d t next) where
  -- if no holder restarts, the holders that are not down then still hold it
  pub holds_until : (holders : FinSet nat_cmp) → HasExactly holders (λ p. logs (instant past t) p d) → RestartsNone past holders t next
      → (u : ℕ) → t ≤ u → u ≤ next → (fell : FinSet nat_cmp) → HasExactly fell (λ p. is_down (instant past u) p) → HasExactly (difference holders fell) (λ p. logs (instant past u) p d)
  holds_until holders holds unrestarted u up low fell falls p =
      contains-difference nat_cmp_total holders fell p ∙ (λ i. holds p i && not (falls p i))
      ∙ sym (holders_stay n past d holders t u p formed up (omega (arith, low, within))
      (λ v e above below. unmentioned v e above (omega (arith, below, low))) (λ v e above below. unrestarted v e above (omega (arith, below, low)))
      (λ held. holds p ∙ held))

  module _ (most : ℕ) (s : DetSafety) (reached down holders watched : FinSet nat_cmp) (watches : AreWatched s most d.dest.0 reached down holders watched) (unrestarted : RestartsNone past watched t next) (downs : HasExactly down (λ p. is_down (instant past t) p))
      (holds : HasExactly holders (λ p. logs (instant past t) p d)) where
    legal : (u : ℕ) → AreLegalEntries n (instant past u)
    legal u = accepted_then n past u formed

    -- no holder restarts
    pub holders_unrestarted : RestartsNone past holders t next
    holders_unrestarted v e above below at = grind (arith, watches.holding, unrestarted v e above below at)

    -- each watched process is still down or holds it
    gone_until : (u : ℕ) → t ≤ u → u ≤ next → (p : ℕ) → contains watched p ≡ true → down_or_holding (instant past u) d p ≡ true
    gone_until u up low p inside =
        gone_stay past d watched t u p up (omega (arith, low, within))
        (λ v e above below. unmentioned v e above (omega (arith, below, low))) (λ v e above below. unrestarted v e above (omega (arith, below, low)))
        inside (sym (gone_shown n (instant past t) d (legal t) down holders downs holds p) ∙ watches.gone p inside)

    stands_from : (r : DetSafety) → IsSafetyOf r most d.dest.0 reached watched → HasReached past d.dest.0 reached → (u : ℕ) → t ≤ u → u ≤ next → RulesOut r n most past d u
    stands_from Safe keep has_reached u up low = kept_by n most past formed d u reached watched has_reached keep (gone_until u up low)
    stands_from AtRisk here has_reached u up low = λ without_receiver. false≢true (sym without_receiver.receiver ∙ gone_until u up low d.dest.0 here)
    stands_from AtRiskWithoutReceiver here has_reached u up low = tt

    -- so its safety is unchanged
    pub stands_until : HasReached past d.dest.0 reached → (u : ℕ) → t ≤ u → u ≤ next → RulesOut s n most past d u
    stands_until = stands_from s watches.stands
