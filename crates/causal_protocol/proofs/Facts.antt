-- What the general invariant says of the memories of a run, in which nobody recovers while others go on.
use Rattle.std.proofs.Common.{ℕ, ◌≡◌, ◌<◌, inl, inr, true, false, List, length, slice_get, Some, is_none, refl, sym, ap, ◌∙◌, arith}
use Rattle.std.specs.Option.{option_map}
use Rattle.std.proofs.lemmas.Bool.{or_cases, or_left, or_right, and_from, eq-eqb}
use Rattle.causal_name.specs.declared.Det.{Det}
use Rattle.causal_holders.proofs.Lemmas.MemberCounts.{count_below-within, any_below-found, any_below-from}
use Rattle.causal_trace.specs.declared.entry.Entry.{Entry}
use Rattle.causal_trace.specs.Past.{is_down, logs, is_stable}
use Rattle.causal_trace.specs.Judgement.{IsSafeTrace}
use Rattle.causal_steps.specs.Recovery.{counts_as_holder, IsRecoverable, HasOrRecovers}
use Rattle.causal_steps.specs.Transit.{TransitParcel, IsInTransit, Survives}
use Rattle.causal_steps.specs.Invariant.{StepInvariant}
use Rattle.causal_trace.specs.Survivors.{IsFollowed}
use Rattle.causal_steps.proofs.Lemmas.Reachable.{reachable_safe}
use Rattle.causal_steps.proofs.Lemmas.Followed.{reachable_followed}
use Rattle.causal_protocol.specs.Memory.{SentMessage, Memories, present_at}
use Rattle.causal_protocol.specs.MemoryQueries.{messages, parcel_of, volatile_of}
use Rattle.causal_protocol.specs.Invariant.{survives, logs_or_stable, down_or_holding, IsSafeDet, HoldsOrIsDown, FewAreDown, KnownHoldersAreTrue, CarriedHoldersAreTrue, MarksAreTrue, DependentsLog, MessagesCarry, ReceiversHaveSurvivors, SendersHaveCarried, SlotsAreSingle, SurvivorsAreDelivered}
use Rattle.causal_protocol.specs.Runs.{IsInvariantState}
use Rattle.causal_protocol.proofs.Places.{at_within}
use Rattle.std.specs.Prelude.{◌⊎◌}

-- what survives is stable or in the log of some process
pub survives_found : (n : ℕ) (past : List Entry) (d : Det) → survives n past d ≡ true → (is_stable past d ≡ true) ⊎ ((p : ℕ) × (p < n) × (logs past p d ≡ true))
survives_found n past d h = elim (or_cases _ _ h) [ inl k ↦ inl k | inr k ↦ inr (any_below-found n (λ p. logs past p d) k) ]

-- what a process logs survives
pub survives_log : (n : ℕ) (past : List Entry) (p : ℕ) (d : Det) → p < n → logs past p d ≡ true → survives n past d ≡ true
survives_log n past p d below h = or_right _ _ (any_below-from n (λ q. logs past q d) p below h)

-- what is stable survives
pub survives_stable : (n : ℕ) (past : List Entry) (d : Det) → is_stable past d ≡ true → survives n past d ≡ true
survives_stable n past d h = or_left _ _ h

-- what a process finds survives
pub finds_survive : (n : ℕ) (past : List Entry) (p : ℕ) (d : Det) → p < n → logs_or_stable past p d ≡ true → survives n past d ≡ true
finds_survive n past p d below h = elim (or_cases (logs past p d) (is_stable past d) h) [ inl held ↦ survives_log n past p d below held | inr stable ↦ survives_stable n past d stable ]

-- a parcel in transit is a message in a memory
pub message_of_parcel : (ms : Memories) (t : TransitParcel) → IsInTransit (volatile_of ms) t → (p ssn : ℕ) × (k : SentMessage) × (slice_get (messages ms p) ssn ≡ Some k) × (t ≡ parcel_of p k)
message_of_parcel ms t (p, ssn, at_it) = grind (arith, at_it)

-- and a message in a memory is in transit
pub parcel_of_message : (ms : Memories) (p ssn : ℕ) (k : SentMessage) → slice_get (messages ms p) ssn ≡ Some k → IsInTransit (volatile_of ms) (parcel_of p k)
parcel_of_message ms p ssn k h = (p, ssn, ap (option_map (parcel_of p)) h)

-- a process that keeps a message is one of the processes
pub keeps_within : (ms : Memories) (p ssn : ℕ) (k : SentMessage) → slice_get (messages ms p) ssn ≡ Some k → p < length ms
unfolding messages
keeps_within ms p ssn k h = grind (arith, at_within ms p)

-- and it is up
no_messages : (ms : Memories) (p ssn : ℕ) (k : SentMessage) → slice_get (messages ms p) ssn ≡ Some k → is_none (present_at ms p) ≡ false
unfolding messages
no_messages ms p ssn k h = grind arith

module _ (n f : ℕ) (past : List Entry) (ms : Memories) (s : IsInvariantState n f past ms) where
  pub invariant : StepInvariant n f past (volatile_of ms)
  invariant = (reachable_safe n f past (volatile_of ms) s.reached).facts

  pub safe : IsSafeTrace (record { processes = n; past = past }) f
  safe = (reachable_safe n f past (volatile_of ms) s.reached).safe

  pub followed : IsFollowed (record { processes = n; past = past })
  followed = reachable_followed n f past (volatile_of ms) s.reached

  -- a process that is up has nothing to recover
  pub found_up : (p : ℕ) (d : Det) → is_down past p ≡ false → HasOrRecovers past d p → logs_or_stable past p d ≡ true
  found_up p d up found = grind (arith, found, invariant.recovering_are_down p d)

  counted : (d : Det) (q : ℕ) → counts_as_holder past d q ≡ true → down_or_holding past d q ≡ true
  counted d q holds = grind (arith, or_cases, invariant.recovering_are_down q d)

  true_of : (d : Det) (q : ℕ) → HasOrRecovers past d q → HoldsOrIsDown past d q
  true_of d q found = grind (arith, found, counted d q)

  spread : (d : Det) → IsRecoverable n f past d → IsSafeDet n f past d
  spread d found = grind (arith, found, count_below-within n (counts_as_holder past d) (down_or_holding past d) (λ p low h. counted d p h))

  alive : (d : Det) → survives n past d ≡ true → Survives n past (volatile_of ms) d
  alive d h = elim (survives_found n past d h) [ inl stable ↦ inl stable | inr held ↦ inr (inl held) ]

  pub few_down : FewAreDown n f past ms
  few_down = invariant.few_down

  pub known_holders_true : KnownHoldersAreTrue n f past ms
  known_holders_true p d q low h = true_of d q (invariant.known_holders_true p d q low h)

  pub carried_holders_true : CarriedHoldersAreTrue n f past ms
  carried_holders_true p k d q low keeps h = true_of d q (invariant.carried_holders_true (parcel_of p k) d q (parcel_of_message ms p keeps.0 k keeps.1) (or_left _ _ h))

  pub marks_true : MarksAreTrue n f past ms
  marks_true p d low h = invariant.known_stable_true p d low h

  pub dependents_log : DependentsLog n f past ms
  dependents_log i p d low at_it depends = elim (invariant.dependents_log i p d low at_it depends) [ inl has_d ↦ inl has_d | inr many ↦ inr (spread d many) ]

  pub messages_carry : MessagesCarry n f past ms
  messages_carry i p k d low at_it keeps reaches = elim (invariant.messages_carry i k.send (parcel_of p k) d at_it (parcel_of_message ms p keeps.0 k keeps.1) refl reaches) [ inl goes ↦ inl goes | inr many ↦ inr (spread d many) ]

  pub receivers_have_survivors : ReceiversHaveSurvivors n f past ms
  receivers_have_survivors d low up h = found_up d.dest.0 d up (invariant.receivers_have_survivors d (alive d h))

  pub senders_have_carried : SendersHaveCarried n f past ms
  senders_have_carried p k d low keeps h =
      let up : is_down past p ≡ false = sym (s.fit.state p low) ∙ no_messages ms p keeps.0 k keeps.1 in
      found_up p d up (invariant.carried_holders_true (parcel_of p k) d p (parcel_of_message ms p keeps.0 k keeps.1) (or_right _ _ (and_from _ _ h (eq-eqb p p refl))))

  pub single_slots : SlotsAreSingle n past
  single_slots a b ha hb dest rsn = invariant.no_slot_shared a b (alive a ha) (alive b hb) dest rsn

  pub survivors_delivered : SurvivorsAreDelivered n past
  survivors_delivered d h = invariant.survivors_delivered d (alive d h)
