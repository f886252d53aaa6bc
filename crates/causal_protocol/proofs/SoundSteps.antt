-- Each kind of entry, with what it does to the memories, is a legal step of the general protocol, and the memories
-- match it again.
use Rattle.std.proofs.Common.{ℕ, ◌≡◌, ◌<◌, inl, inr, Bool, true, false, ◌||◌, List, [], ◌∷◌, length, slice_get, slice_set, Option, Some, None, is_none, refl, sym, ap, subst, ◌∙◌, arith}
use Rattle.std.specs.Prelude.{◌==◌, ◌⊎◌}
use Rattle.std.specs.Option.{option_map, option_and_then}
use Rattle.std.specs.FinMap as fin
use Rattle.std.specs.FinSet as set
use Rattle.std.proofs.lemmas.List.{length-set}
use Rattle.std.proofs.lemmas.Bool.{false≢true, both_ways, or_cases, or_right, and_from, and_parts, eqb-true, eq-eqb}
use Rattle.causal_name.specs.declared.Pid.{Pid}
use Rattle.causal_name.specs.declared.MsgName.{MsgName}
use Rattle.causal_name.specs.declared.Det.{Det}
use Rattle.causal_name.specs.Names.{same_det, message_of}
use Rattle.causal_name.proofs.Lemmas.DetOrder.{same_itself}
use Rattle.causal_name.specs.Sets.{count_below}
use Rattle.causal_trace.specs.declared.entry.Entry.{Entry}
use Rattle.causal_trace.specs.declared.entry.Entry.TheVariants.{Send, Deliver, Stable, Crash, Restart, Forget}
use Rattle.causal_trace.specs.Past.{list_has, is_down, entry_at, message_sent, message_at, det_from, logs, is_stable}
use Rattle.causal_holders.proofs.Lemmas.MemberCounts.{len_counted}
use Rattle.causal_log.specs.Logs.{LogMap, known_of, batch_items, after_mark}
use Rattle.causal_steps.specs.Transit.{TransitParcel, IsInTransit, IsCarried}
use Rattle.causal_steps.specs.Steps.{IsStep, HasNothingNew, sends, delivers, crashes, restarts, writes, forgets}
use Rattle.causal_steps.specs.Reachable.{next_state}
use Rattle.causal_steps.proofs.Lemmas.Positions.{at_newest, at_older, message_below}
use Rattle.causal_protocol.specs.Memory.{SentMessage, Memory, Memories, present_at, update_at, new_memory, with_sent, with_received, with_log}
use Rattle.causal_protocol.specs.Gathering.{stable_set, restart_log, without_dets}
use Rattle.causal_protocol.specs.MemoryQueries.{log_at, messages, has_entry, log_knows_holder, log_knows_stable, memory_logs, knows_stable, has_item, parcel_of, volatile_of}
use Rattle.causal_protocol.specs.Invariant.{survives, logs_or_stable}
use Rattle.causal_protocol.specs.Runs.{MemoriesMatchEntries, IsInvariantState}
use Rattle.causal_protocol.proofs.Places.{set_cases, changed_cases, changed_state, at_set, kept_more, log_here}
use Rattle.causal_protocol.proofs.LearnedLogs
use Rattle.causal_protocol.proofs.Choices
use Rattle.causal_protocol.proofs.Facts.{survives_log, survives_stable, survives_found, message_of_parcel, parcel_of_message, keeps_within, invariant, found_up, senders_have_carried}
use Rattle.causal_protocol.proofs.Lemmas.LogMembers.{none_holds, none_stable, none_entry, entry_of_holder}

-- if all messages in memories were there before, nothing new is in transit
none_new : (ms next : Memories) → ((p ssn : ℕ) (k : SentMessage) → slice_get (messages next p) ssn ≡ Some k → slice_get (messages ms p) ssn ≡ Some k) → (t : TransitParcel) → IsInTransit (volatile_of next) t → IsInTransit (volatile_of ms) t
none_new ms next old t there =
    let found = message_of_parcel next t there in
    (found.0, found.1, ap (option_map (parcel_of found.0)) (old found.0 found.1 found.2 found.3) ∙ ap Some (sym found.4))

-- the message at an older position is unchanged, and the newest entry's is at the newest one
message_older : (e : Entry) (past : List Entry) (send : ℕ) (x : MsgName) → message_at past send ≡ Some x → message_at (e ∷ past) send ≡ Some x
message_older e past send x h = ap (λ o. option_and_then message_sent o) (at_older send (length past) (Some e) (entry_at past send) (message_below past send x h)) ∙ h

message_newest : (e : Entry) (past : List Entry) (send : ℕ) → send ≡ length past → message_at (e ∷ past) send ≡ message_sent e
message_newest e past send is = ap (λ o. option_and_then message_sent o) (at_newest send (length past) (Some e) (entry_at past send) is)

-- so a legal step that sets one memory, and adds no message, leads to a sound state if the memory's process is up
-- accordingly and the logs are those that the entry gives
quiet_sound : (n f : ℕ) (e : Entry) (past : List Entry) (ms : Memories) (w : ℕ) (x : Option Memory) → IsInvariantState n f past ms
    → (HasNothingNew (volatile_of ms) (volatile_of (slice_set ms w x)) → IsStep n f past (volatile_of ms) (e ∷ past) (volatile_of (slice_set ms w x)))
    → ((p : ℕ) → p < n → is_none (present_at (slice_set ms w x) p) ≡ is_down (e ∷ past) p)
    → ((p ssn : ℕ) (k : SentMessage) → slice_get (messages (slice_set ms w x) p) ssn ≡ Some k → slice_get (messages ms p) ssn ≡ Some k)
    → ((p : ℕ) (d : Det) → p < n → memory_logs (slice_set ms w x) p d ≡ logs (e ∷ past) p d) → IsInvariantState n f (e ∷ past) (slice_set ms w x)
quiet_sound n f e past ms w x s step state kept logged =
    record {
      fit = record {
        count = length-set ms w x ∙ s.fit.count;
        state = state;
        placed = λ p ssn k h. message_older e past k.send _ (s.fit.placed p ssn k (kept p ssn k h));
        logged = logged;
      };
      reached = next_state past (e ∷ past) (volatile_of ms) (volatile_of (slice_set ms w x)) s.reached (step (none_new ms (slice_set ms w x) kept));
    }

is_up : (n : ℕ) (past : List Entry) (ms : Memories) (p : ℕ) (m : Memory) → MemoriesMatchEntries n past ms → p < n → present_at ms p ≡ Some m → is_down past p ≡ false
is_up n past ms p m fit low here = sym (fit.state p low) ∙ ap is_none here

-- a send
module _ (n f : ℕ) (past : List Entry) (ms : Memories) (from to : Pid) (m : Memory) (here : present_at ms from.0 ≡ Some m) (low : from.0 < n) (s : IsInvariantState n f past ms) where
  abbrev sent_to : Memory → Memory
  sent_to = with_sent f to (length past)

  abbrev sent_memories : Memories
  sent_memories = update_at sent_to ms from.0

  abbrev new_message : SentMessage
  new_message = record { to = to; send = length past; batch = batch_items f m.log }

  there : log_at ms from.0 ≡ m.log
  there = log_here ms from.0 m here

  sender_logs : (d : Det) → has_item d (batch_items f m.log) ≡ true → logs past from.0 d ≡ true
  sender_logs d h = sym (s.fit.logged from.0 d low) ∙ ap (has_entry d) there ∙ Choices.chosen_logged f m.log d h

  -- the state after a send is sound
  pub send_sound : IsInvariantState n f (Send from to (length m.sent) ∷ past) (update_at (with_sent f to (length past)) ms from.0)
  send_sound =
      record {
        fit = record {
          count = length-set ms from.0 (option_map sent_to (present_at ms from.0)) ∙ s.fit.count;
          state = λ p small. changed_state sent_to ms from.0 m here p ∙ s.fit.state p small;
          placed = λ p ssn k h. grind (arith, changed_cases sent_to ms from.0 m here p, kept_more, message_older (Send from to (length m.sent)) past k.send, s.fit.placed p ssn k, message_newest (Send from to (length m.sent)) past k.send);
          logged = λ p d small. grind (arith, changed_cases sent_to ms from.0 m here p, s.fit.logged p d small);
        };
        reached = next_state past (Send from to (length m.sent) ∷ past) (volatile_of ms) (volatile_of sent_memories) s.reached (sends from to (length m.sent) (parcel_of from.0 new_message) (record {
          of_log = record {
            process = low;
            up = is_up n past ms from.0 m s.fit low here;
            from = refl;
            logged = sender_logs;
            known_holders = λ d q h.
                grind (arith, there, or_cases, Choices.chosen_known f m.log d q, LearnedLogs.item_of_holder d q, and_parts, eqb-true, sender_logs d, (invariant n f past ms s).knows_itself from.0 d low);
            known_stable = λ d h. absurd (false≢true h);
            names_sender = λ d h. or_right _ _ (and_from _ _ h (eq-eqb from.0 from.0 refl));
          };
          position = refl;
          left_out = λ d h. elim (Choices.chosen_left f m.log d (ap (has_entry d) (sym there) ∙ s.fit.logged from.0 d low ∙ h)) [
            | inl goes ↦ inl goes
            | inr (inl mark) ↦ inr (inl (ap (log_knows_stable d) there ∙ mark))
            | inr (inr many) ↦ inr (inr (subst (λ x. f < x) (len_counted n (known_of (log_at ms from.0) d).holders (λ q known. ((invariant n f past ms s).known_logged from.0 d q low known).0)) (subst (λ log. f < set.len (known_of log d).holders) (sym there) many)))
          ];
          same_knowledge = record { holders = λ p d q. grind (arith, changed_cases sent_to ms from.0 m here p); stable = λ p d h. grind (arith, changed_cases sent_to ms from.0 m here p) };
          one_new = λ t in_transit.
              let found = message_of_parcel sent_memories t in_transit in
              grind (arith, found.3, found.4, changed_cases sent_to ms from.0 m here found.0, kept_more, parcel_of_message ms found.0 found.1 found.2);
        }));
      }

-- a delivery
module _ (n f : ℕ) (past : List Entry) (ms : Memories) (to : Pid) (rsn : ℕ) (asked : MsgName) (m : Memory) (k : SentMessage) (listed : List Det) (here : present_at ms to.0 ≡ Some m) (low : to.0 < n) (source : asked.source.0 < n)
    (found : slice_get (messages ms asked.source.0) asked.ssn ≡ Some k)
    (only : (d : Det) → logs_or_stable past to.0 d ≡ true → d.dest ≡ to → d.rsn ≡ rsn → message_of d ≡ asked)
    (lists : (d : Det) → list_has listed d ≡ (same_det d (det_from to rsn asked) || has_item d k.batch)) (s : IsInvariantState n f past ms) where
  abbrev own : Det
  own = det_from to rsn asked

  abbrev receiving : Memory → Memory
  receiving = with_received k.batch own

  -- the message was sent at the position in its sender's memory
  pub was_sent : message_at past k.send ≡ Some asked
  was_sent = s.fit.placed asked.source.0 asked.ssn k found

  -- the state after a delivery is sound
  pub delivery_sound : IsInvariantState n f (Deliver to k.send rsn listed ∷ past) (update_at (with_received k.batch (det_from to rsn asked)) ms to.0)
  delivery_sound =
      quiet_sound n f (Deliver to k.send rsn listed) past ms to.0 (option_map receiving (present_at ms to.0)) s
      (λ quiet. delivers to k.send rsn listed (record {
        process = low;
        up = is_up n past ms to.0 m s.fit low here;
        message = asked;
        sent = was_sent;
        delivered = parcel_of asked.source.0 k;
        in_transit = (asked.source.0, asked.ssn, ap (option_map (parcel_of asked.source.0)) found);
        position = refl;
        only = λ d has_d. only d (found_up n f past ms s to.0 d (is_up n past ms to.0 m s.fit low here) has_d);
        lists = lists;
        new_holders = λ p d q h.
            grind (arith, changed_cases receiving ms to.0 m here p, LearnedLogs.gained_holder k.batch own m.log d q, LearnedLogs.item_of_holder d q k.batch, lists d, same_itself d, eq-eqb q asked.source.0);
        knows_itself = λ d h. grind (arith, changed_cases, LearnedLogs.gained_new, both_ways, eq-eqb to.0 to.0 refl);
        keeps_holders = λ p d q h. grind (arith, changed_cases receiving ms to.0 m here p, LearnedLogs.gained_known k.batch own m.log d q);
        new_stable = λ p d h. grind (arith, changed_cases receiving ms to.0 m here p, LearnedLogs.gained_mark);
        nothing_new = quiet;
      }))
      (λ p small. changed_state receiving ms to.0 m here p ∙ s.fit.state p small) (λ p ssn x h. grind (arith, changed_cases receiving ms to.0 m here p))
      (λ p d small. grind (arith, changed_cases receiving ms to.0 m here p, LearnedLogs.gained_entry k.batch own m.log d, lists d, s.fit.logged p d small))

-- a stable entry
module _ (n f : ℕ) (past : List Entry) (ms : Memories) (p : Pid) (m : Memory) (det : Det) (here : present_at ms p.0 ≡ Some m) (low : p.0 < n) (logged : memory_logs ms p.0 det ≡ true) (s : IsInvariantState n f past ms) where
  abbrev marking : Memory → Memory
  marking = with_log (λ log. after_mark log det)

  -- the state after a stable entry is sound
  pub stable_sound : IsInvariantState n f (Stable det ∷ past) (update_at (with_log (λ log. after_mark log det)) ms p.0)
  stable_sound =
      quiet_sound n f (Stable det) past ms p.0 (option_map marking (present_at ms p.0)) s
      (λ quiet. writes det (record {
        survived = inr (inl (p.0, low, sym (s.fit.logged p.0 det low) ∙ logged));
        same_holders = λ x d q. grind (arith, changed_cases marking ms p.0 m here x, Choices.marked_holder m.log det d q);
        new_stable = λ x d h. grind (arith, changed_cases marking ms p.0 m here x, Choices.marked_stable m.log det d);
        nothing_new = quiet;
      }))
      (λ x small. changed_state marking ms p.0 m here x ∙ s.fit.state x small) (λ x ssn k h. grind (arith, changed_cases marking ms p.0 m here x))
      (λ x d small. grind (arith, changed_cases marking ms p.0 m here x, Choices.marked_entry m.log det d, s.fit.logged x d small))

-- a forgetting
module _ (n f : ℕ) (past : List Entry) (ms : Memories) (p : Pid) (m : Memory) (listed : List Det) (here : present_at ms p.0 ≡ Some m) (low : p.0 < n) (known : (d : Det) → list_has listed d ≡ true → knows_stable ms p.0 d ≡ true) (s : IsInvariantState n f past ms) where
  abbrev forgetting : Memory → Memory
  forgetting = with_log (without_dets listed)

  -- the state after a forgetting is sound
  pub forget_sound : IsInvariantState n f (Forget p listed ∷ past) (update_at (with_log (without_dets listed)) ms p.0)
  forget_sound =
      quiet_sound n f (Forget p listed) past ms p.0 (option_map forgetting (present_at ms p.0)) s
      (λ quiet. forgets p listed (record {
        process = low;
        known_stable = known;
        holders = λ x d q. grind (arith, changed_cases forgetting ms p.0 m here x, Choices.without_holder listed m.log d q);
        new_stable = λ x d h. grind (arith, changed_cases forgetting ms p.0 m here x, Choices.without_stable listed m.log d);
        nothing_new = quiet;
      }))
      (λ x small. changed_state forgetting ms p.0 m here x ∙ s.fit.state x small) (λ x ssn k h. grind (arith, changed_cases forgetting ms p.0 m here x))
      (λ x d small. grind (arith, changed_cases forgetting ms p.0 m here x, Choices.without_entry listed m.log d, s.fit.logged x d small))

-- a crash
module _ (n f : ℕ) (past : List Entry) (ms : Memories) (who : Pid) (low : who.0 < n) (few : count_below n (is_down past) < f) (s : IsInvariantState n f past ms) where
  after : (p : ℕ) → (((who.0 == p) ≡ true) × (who.0 ≡ p) × (log_at (slice_set ms who.0 None) p ≡ fin.empty) × (messages (slice_set ms who.0 None) p ≡ [])) ⊎ (((who.0 == p) ≡ false) × (log_at (slice_set ms who.0 None) p ≡ log_at ms p) × (messages (slice_set ms who.0 None) p ≡ messages ms p))
  after p = set_cases ms who.0 None p (omega (arith, low, s.fit.count))

  -- the state after a crash is sound
  pub crash_sound : IsInvariantState n f (Crash who ∷ past) (slice_set ms who.0 None)
  crash_sound =
      quiet_sound n f (Crash who) past ms who.0 None s
      (λ quiet. crashes who (record {
        few = few;
        holders = λ p d q. grind (arith, after p, none_holds d q);
        new_stable = λ p d h. grind (arith, after p, none_stable d, false≢true);
        nothing_new = quiet;
      }))
      (λ p small. grind (arith, at_set ms who.0 None p (omega (arith, low, s.fit.count)), s.fit.state p small)) (λ p ssn k h. grind (arith, after p))
      (λ p d small. grind (arith, after p, none_entry d, s.fit.logged p d small))

-- a restart gathers what survives
module _ (n f : ℕ) (past : List Entry) (ms : Memories) (who : Pid) (s : IsInvariantState n f past ms) where
  under : (r : ℕ) → r < length ms → r < n
  under r h = omega (arith, h, s.fit.count)

  -- a restart gathers exactly what survives
  pub gathered_survivors : (d : Det) → has_entry d (restart_log ms (stable_set past) who) ≡ survives n past d
  gathered_survivors d =
      let all = LearnedLogs.gathered_entry ms (stable_set past) who d in
      let found = LearnedLogs.together_entry ms (stable_set past) who d in
      let held = LearnedLogs.together_each ms (stable_set past) who d in
      grind (arith, all, found, held, survives_stable n past d, Choices.stable_has past d, survives_log n past, under, survives_found n past d, s.fit.logged)

-- a restart
module _ (n f : ℕ) (past : List Entry) (ms : Memories) (who : Pid) (listed : List Det) (low : who.0 < n) (down : present_at ms who.0 ≡ None) (lists : (d : Det) → list_has listed d ≡ has_entry d (restart_log ms (stable_set past) who)) (s : IsInvariantState n f past ms) where
  abbrev gathered : LogMap
  gathered = restart_log ms (stable_set past) who

  abbrev restarted : Memories
  restarted = slice_set ms who.0 (Some (new_memory gathered))

  bound : who.0 < length ms
  bound = omega (arith, low, s.fit.count)

  lists_survivors : (d : Det) → list_has listed d ≡ survives n past d
  lists_survivors d = lists d ∙ gathered_survivors n f past ms who s d

  nothing_there : (tells : LogMap → Bool) → tells fin.empty ≡ false → (p : ℕ) → who.0 ≡ p → tells (log_at ms p) ≡ false
  unfolding log_at
  nothing_there tells lacks p is = grind arith

  restarted_kept : (p ssn : ℕ) (x : SentMessage) → slice_get (messages restarted p) ssn ≡ Some x → slice_get (messages ms p) ssn ≡ Some x
  restarted_kept p ssn x h = grind (arith, set_cases ms who.0 (Some (new_memory gathered)) p bound, bound)

  -- whoever has sent what carries d logs it, so the restart lists it
  carried_listed : (d : Det) → IsCarried (volatile_of restarted) d → (list_has listed d ≡ true) ⊎ (is_stable past d ≡ true)
  carried_listed d (t, there, has_d) =
      let found = message_of_parcel ms t (none_new ms restarted restarted_kept t there) in
      let small : found.0 < n = under n f past ms who s found.0 (keeps_within ms found.0 found.1 found.2 found.3) in
      let goes : has_item d found.2.batch ≡ true = ap (λ (x : TransitParcel). x.carries d) (sym found.4) ∙ has_d in
      grind (arith, or_cases, senders_have_carried n f past ms s found.0 found.2 d small (found.1, found.3) goes, lists_survivors d, survives_log n past found.0 d small)

  -- the state after a restart is sound
  pub restart_sound : IsInvariantState n f (Restart who listed ∷ past) (slice_set ms who.0 (Some (new_memory (restart_log ms (stable_set past) who))))
  restart_sound =
      quiet_sound n f (Restart who listed) past ms who.0 (Some (new_memory gathered)) s
      (λ quiet. restarts who listed (record {
        process = low;
        down = sym (s.fit.state who.0 low) ∙ ap is_none down;
        lists_survivors = λ d h. elim (survives_found n past d (sym (lists_survivors d) ∙ h)) [ inl stable ↦ inl stable | inr held ↦ inr (inl held) ];
        recovers = λ d lost there. elim there [ inl held ↦ inl (lists_survivors d ∙ survives_log n past held.0 d held.1 held.2) | inr goes ↦ carried_listed d goes ];
        new_holders = λ p d q h.
            let held = LearnedLogs.gathered_holder ms (stable_set past) who d q in
            grind (arith, set_cases ms who.0 (Some (new_memory gathered)) p bound, lists d, entry_of_holder gathered d q, held, under n f past ms who s);
        knows_itself = λ d h. grind (arith, set_cases, bound, LearnedLogs.gathered_itself, lists d);
        keeps_holders = λ p d q h. grind (arith, set_cases ms who.0 (Some (new_memory gathered)) p bound, nothing_there (log_knows_holder d q) (none_holds d q) p);
        new_stable = λ p d h.
            let marked = LearnedLogs.gathered_mark ms (stable_set past) who d in
            grind (arith, set_cases ms who.0 (Some (new_memory gathered)) p bound, marked, Choices.stable_has past d, (invariant n f past ms s).known_stable_true, under n f past ms who s);
        nothing_new = quiet;
      }))
      (λ p small. grind (arith, at_set ms who.0 (Some (new_memory gathered)) p bound, s.fit.state p small)) restarted_kept
      (λ p d small. grind (arith, set_cases ms who.0 (Some (new_memory gathered)) p bound, lists d, nothing_there (has_entry d) (none_entry d) p, s.fit.logged p d small))
