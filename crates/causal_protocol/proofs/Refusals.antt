-- What follows if a request has no refusal row that holds.
use Rattle.std.proofs.Common.{ℕ, zero, suc, ◌≡◌, ◌+◌, ◌<◌, Bool, true, false, cond, List, [], ◌∷◌, length, slice_get, count_by, Option, Some, None, is_some, is_none, refl, sym, ap, ◌∙◌, arith}
use Rattle.std.specs.Prelude.{◌==◌, ◌⊎◌}
use Rattle.std.specs.FinMap as fin
use Rattle.std.proofs.lemmas.Bool.{and_parts, eqb-true}
use Rattle.std.proofs.lemmas.List.Sums.{sum_by-cons}
use Rattle.causal_name.specs.declared.Pid.{Pid}
use Rattle.causal_name.specs.declared.MsgName.{MsgName}
use Rattle.causal_name.specs.declared.Det.{Det}
use Rattle.causal_name.specs.Names.{same_pid, message_of}
use Rattle.causal_name.specs.Sets.{count_below}
use Rattle.causal_trace.specs.declared.entry.Entry.{Entry}
use Rattle.causal_trace.specs.Past.{list_has, is_down, logs, is_stable}
use Rattle.causal_holders.proofs.Lemmas.MemberCounts.{count_below-same}
use Rattle.causal_log.specs.Slots.{is_of_slot, first_of_slot}
use Rattle.causal_log.specs.Stores.{dets_in}
use Rattle.causal_protocol.specs.declared.request.CoreFault.{CoreFault}
use Rattle.causal_protocol.specs.Memory.{SentMessage, Memory, Memories, present_at, sent_message_of}
use Rattle.causal_protocol.specs.Gathering.{stable_set}
use Rattle.causal_protocol.specs.Naming.{min_det, next_det, named_for, sent_message_for}
use Rattle.causal_protocol.specs.Refusals.{fault_unless_named, first_fault_in}
use Rattle.causal_protocol.specs.MemoryQueries.{messages}
use Rattle.causal_protocol.specs.Invariant.{logs_or_stable}
use Rattle.causal_protocol.specs.Runs.{IsInvariantState}
use Rattle.causal_protocol.proofs.Places.{log_here}
use Rattle.causal_protocol.proofs.LearnedLogs.{keys_have, stored_have}
use Rattle.causal_protocol.proofs.Choices.{first_passes, first_there, stable_has}
use Rattle.causal_protocol.proofs.Facts.{finds_survive, single_slots}

-- if no row gives a fault, neither does the third
pub third_none : (x y z : Option CoreFault) (rest : List (Option CoreFault)) → first_fault_in (x ∷ y ∷ z ∷ rest) ≡ None → z ≡ None
third_none x y z rest h = grind arith

-- an option that is not `None` has a value
pub is_there : {X : Type 0} (o : Option X) → is_none o ≡ false → (x : X) × (o ≡ Some x)
is_there o h = grind arith

-- a message sent to a process is in its sender's memory
pub kept_for-is : (ms : Memories) (q : Pid) (asked : MsgName) (k : SentMessage) → sent_message_for ms q asked ≡ Some k → sent_message_of ms asked ≡ Some k
kept_for-is ms q asked k h = grind arith

-- a message in its sender's memory is at its number
pub kept_message : (ms : Memories) (asked : MsgName) (k : SentMessage) → sent_message_of ms asked ≡ Some k → slice_get (messages ms asked.source.0) asked.ssn ≡ Some k
unfolding messages
kept_message ms asked k h = grind arith

-- the least determinant of two sources is one of them
lesser_from : (a b : Option Det) (d : Det) → min_det a b ≡ Some d → (a ≡ Some d) ⊎ (b ≡ Some d)
lesser_from a b d h = grind arith

slot_is : (q : Pid) (rsn : ℕ) (d : Det) → is_of_slot q rsn d ≡ true → (d.dest ≡ q) × (d.rsn ≡ rsn)
slot_is q rsn d h = grind (arith, and_parts (same_pid d.dest q) (d.rsn == rsn) h, eqb-true)

module _ (n f : ℕ) (past : List Entry) (ms : Memories) (q : Pid) (m : Memory) (here : present_at ms q.0 ≡ Some m) (low : q.0 < n) (s : IsInvariantState n f past ms) where
  keys_logs : (d : Det) → list_has (fin.keys m.log) d ≡ logs past q.0 d
  keys_logs d = keys_have m.log d ∙ ap (λ log. is_some (fin.get log d)) (sym (log_here ms q.0 m here)) ∙ s.fit.logged q.0 d low

  dets_stable : (d : Det) → list_has (dets_in (stable_set past)) d ≡ is_stable past d
  dets_stable d = stored_have (stable_set past) d ∙ stable_has past d

  next_found : (d : Det) → next_det (stable_set past) q m ≡ Some d → (logs_or_stable past q.0 d ≡ true) × (d.dest ≡ q) × (d.rsn ≡ length m.received)
  next_found d h =
      let first = first_of_slot q (length m.received) in
      let found = lesser_from (first (fin.keys m.log)) (first (dets_in (stable_set past))) d h in
      grind (arith, found, first_passes, slot_is, keys_logs d, dets_stable d)

  next_some : (d : Det) → logs_or_stable past q.0 d ≡ true → d.dest ≡ q → d.rsn ≡ length m.received → (x : Det) × (next_det (stable_set past) q m ≡ Some x)
  next_some d found dest place = is_there (next_det (stable_set past) q m) (grind (arith, first_there, keys_logs d, dets_stable d))

  -- if no other message is named for the next delivery, what the process finds for it names the requested one
  pub only_named : (asked : MsgName) → fault_unless_named asked (named_for ms (stable_set past) q) ≡ None → (d : Det) → logs_or_stable past q.0 d ≡ true → d.dest ≡ q → d.rsn ≡ length m.received → message_of d ≡ asked
  only_named asked none d found dest place =
      let some = next_some d found dest place in
      let next = next_found some.0 some.1 in
      let alive = finds_survive n past q.0 some.0 low next.0 in
      grind (arith, next, alive, some.1, single_slots n f past ms s some.0 d, finds_survive n past q.0 d low found, eqb-true, and_parts)

-- how many processes are down
count_front : (n : ℕ) (test : ℕ → Bool) → count_below (suc n) test ≡ cond (test 0) 1 0 + count_below n (λ p. test (suc p))
count_front zero test = omega arith
count_front (suc n) test = omega (arith, count_front n test)

count_list : {X : Type 0} (xs : List (Option X)) → count_by is_none xs ≡ count_below (length xs) (λ p. is_none (present_at xs p))
count_list [] = refl
count_list (x ∷ xs) = grind (arith, sum_by-cons (λ o. cond (is_none o) 1 0) x xs, count_list xs, count_front (length xs) (λ p. is_none (present_at (x ∷ xs) p)))

-- if exactly the down processes have no memory, as many memories are missing as processes are down
pub down_counted : (n : ℕ) (past : List Entry) (ms : Memories) → length ms ≡ n → ((p : ℕ) → p < n → is_none (present_at ms p) ≡ is_down past p) → count_by is_none ms ≡ count_below n (is_down past)
down_counted n past ms count state = count_list ms ∙ ap (λ l. count_below l (λ p. is_none (present_at ms p))) count ∙ count_below-same n (λ p. is_none (present_at ms p)) (is_down past) state
