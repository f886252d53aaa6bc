-- Each legal step preserves the invariant.
use Rattle.std.proofs.Common.{ℕ, zero, suc, ◌≡◌, ◌+◌, ◌<◌, true, not, ◌&&◌, ◌||◌, nat_lt, List, [], ◌∷◌, ◌++◌, length, map, take, drop, replicate, Option, Some, None, is_none, refl, sym, ap, subst, ◌∙◌, arith, ◌≤◌}
use Rattle.std.specs.List.{filter_map}
use Rattle.std.specs.Option.{option_map, option_map_or}
use Rattle.std.proofs.lemmas.List.{length_push, length-replicate}
use Rattle.std.proofs.lemmas.Bool.{false≢true, or_left}
use Rattle.std.proofs.lemmas.Bool.Decides.{eqb_tells}
use Rattle.causal_name.specs.declared.Pid.{Pid}
use Rattle.causal_name.specs.declared.MsgName.{MsgName}
use Rattle.causal_name.specs.declared.Det.{Det}
use Rattle.causal_name.specs.Names.{same_det, message_of}
use Rattle.causal_name.proofs.Lemmas.DetOrder.{same_itself}
use Rattle.causal_trace.specs.declared.entry.Entry.{Entry}
use Rattle.causal_trace.specs.declared.entry.Entry.TheVariants.{Send, Stable, Crash, Restart}
use Rattle.causal_trace.specs.Past.{list_has}
use Rattle.causal_log.specs.Logs.{after_mark, dets_of}
use Rattle.causal_protocol.specs.declared.request.CoreFault.{CoreFault}
use Rattle.causal_protocol.specs.declared.request.CoreFault.TheVariants as Faults
use Rattle.causal_protocol.specs.declared.request.Request.{Request}
use Rattle.causal_protocol.specs.declared.request.Request.TheVariants as Requests
use Rattle.causal_protocol.specs.declared.request.Reply.{Reply}
use Rattle.causal_protocol.specs.declared.request.Reply.TheVariants as Replies
use Rattle.causal_protocol.specs.Memory.{SentMessage, Memory, Memories, present_at, update_at, new_memory, with_sent, with_received, with_log, sent_message_of, batch_of}
use Rattle.causal_protocol.specs.Gathering.{stable_set, restart_log}
use Rattle.causal_protocol.specs.Run.{Run, memories, memories_of, stable_of}
use Rattle.causal_protocol.specs.Naming.{message_name, named_for, sent_message_for, next_rsn, next_ssn, next_own_det, listed_for}
use Rattle.causal_protocol.specs.Refusals.{fault_if, fault_unless_named, request_refusals, request_fault, restart_list, dets_to_flush, dets_to_forget}
use Rattle.causal_protocol.specs.Steps.{append_all, extend_run, receiver_of, sends_of, AreSends, delivery_entry, forget_entries, LegalStep, flush_reason_of}
use Rattle.causal_protocol.specs.MemoryQueries.{memory_logs, knows_stable, has_item, volatile_of}
use Rattle.causal_protocol.specs.Invariant.{logs_or_stable}
use Rattle.causal_protocol.specs.Runs.{IsInvariantState, SatisfiesInvariant, RequestsPreserveInvariant, RefusalsChangeNothing, HaveBegunBelow, IsReachable, opened, stepped, StartSatisfiesInvariant}
use Rattle.causal_protocol.proofs.Facts.{few_down, known_holders_true, carried_holders_true, marks_true, dependents_log, messages_carry, receivers_have_survivors, senders_have_carried}
use Rattle.causal_protocol.proofs.Places.{at_set, log_here, set_elsewhere, changed_here, beginners, at_first, log_first, messages_first}
use Rattle.causal_protocol.proofs.LearnedLogs.{keys_have}
use Rattle.causal_protocol.proofs.Choices.{unstable_logged, stable_have, marked_entry}
use Rattle.causal_protocol.proofs.Lemmas.LogMembers.{own_have, items_have, none_entry, none_holds, none_stable}
use Rattle.causal_protocol.proofs.Refusals.{third_none, is_there, kept_for-is, kept_message, only_named, down_counted}
use Rattle.causal_protocol.proofs.SoundSteps.{send_sound, was_sent, delivery_sound, stable_sound, forget_sound, crash_sound, restart_sound}
use Rattle.std.specs.FinMap as fin
use Rattle.causal_steps.specs.Reachable.{initial}

-- the invariant of a state, with the memories that the run makes
abbrev pub IsKept : ℕ → ℕ → List Pid → List Entry → Type 0
IsKept n f writers past = IsInvariantState n f past (memories n f writers past)

-- the sends of an up process preserve it, one after the other
sends_kept : (n f : ℕ) (writers : List Pid) (past : List Entry) (q : Pid) (ssn : ℕ) (tos : List Pid) (m : Memory) → present_at (memories n f writers past) q.0 ≡ Some m → q.0 < n → ssn ≡ length m.sent → IsKept n f writers past
    → IsKept n f writers (append_all (sends_of q ssn tos) past) × ((p : ℕ) → (q.0 ≡ p → ⊥) → present_at (memories n f writers (append_all (sends_of q ssn tos) past)) p ≡ present_at (memories n f writers past) p)
unfolding memories sends_of
sends_kept n f writers past q ssn [] m here low is s = (s, λ p away. refl)
sends_kept n f writers past q ssn (to ∷ tos) m here low is s =
    let ms = memories n f writers past in
    let next : IsInvariantState n f (Send q to ssn ∷ past) (update_at (with_sent f to (length past)) ms q.0) = subst (λ x. IsInvariantState n f (Send q to x ∷ past) (update_at (with_sent f to (length past)) ms q.0)) (sym is) (send_sound n f past ms q to m here low s) in
    let there : present_at (update_at (with_sent f to (length past)) ms q.0) q.0 ≡ Some (with_sent f to (length past) m) = changed_here (with_sent f to (length past)) ms q.0 q.0 refl ∙ ap (option_map (with_sent f to (length past))) here in
    let rest = sends_kept n f writers (Send q to ssn ∷ past) q (ssn + 1) tos (with_sent f to (length past) m) there low (ap (λ x. x + 1) is ∙ sym (length_push m.sent _)) next in
    (rest.0, λ p away. rest.1 p away ∙ set_elsewhere ms q.0 (option_map (with_sent f to (length past)) (present_at ms q.0)) p away)

-- the sends of a step preserve it
pub are_sends_kept : (n f : ℕ) (writers : List Pid) (past : List Entry) (q : Pid) (ssn number : ℕ) (entries : List Entry) (m : Memory) → AreSends n q ssn number entries → present_at (memories n f writers past) q.0 ≡ Some m → q.0 < n → ssn ≡ length m.sent → IsKept n f writers past
    → IsKept n f writers (append_all entries past) × ((p : ℕ) → (q.0 ≡ p → ⊥) → present_at (memories n f writers (append_all entries past)) p ≡ present_at (memories n f writers past) p)
are_sends_kept n f writers past q ssn number entries m sends here low is s =
    subst (λ es. IsKept n f writers (append_all es past) × ((p : ℕ) → (q.0 ≡ p → ⊥) → present_at (memories n f writers (append_all es past)) p ≡ present_at (memories n f writers past) p)) (sym sends.sends) (sends_kept n f writers past q ssn (filter_map receiver_of entries) m here low is s)

-- the stable entries of a flush preserve it, one after the other
flush_kept : (n f : ℕ) (writers : List Pid) (past : List Entry) (p : Pid) (ds : List Det) (m : Memory) → present_at (memories n f writers past) p.0 ≡ Some m → p.0 < n → ((d : Det) → list_has ds d ≡ true → memory_logs (memories n f writers past) p.0 d ≡ true) → IsKept n f writers past
    → IsKept n f (replicate (length (map Stable ds)) p ++ writers) (append_all (map Stable ds) past)
unfolding memories
flush_kept n f writers past p [] m here low logged s = s
flush_kept n f writers past p (d ∷ ds) m here low logged s =
    let ms = memories n f writers past in
    let next : IsKept n f (p ∷ writers) (Stable d ∷ past) = stable_sound n f past ms p m d here low (logged d (or_left _ _ (same_itself d))) s in
    let there : present_at (memories n f (p ∷ writers) (Stable d ∷ past)) p.0 ≡ Some (with_log (λ log. after_mark log d) m) = changed_here (with_log (λ log. after_mark log d)) ms p.0 p.0 refl ∙ ap (option_map (with_log (λ log. after_mark log d))) here in
    let still : (x : Det) → list_has ds x ≡ true → memory_logs (memories n f (p ∷ writers) (Stable d ∷ past)) p.0 x ≡ true = λ x h.
    let new = log_here (memories n f (p ∷ writers) (Stable d ∷ past)) p.0 (with_log (λ log. after_mark log d) m) there in
    grind (arith, new, log_here ms p.0 m here, marked_entry m.log d x, logged x) in
    subst (λ ws. IsKept n f ws (append_all (map Stable ds) (Stable d ∷ past))) (slide (length (map Stable ds)) p writers) (flush_kept n f (p ∷ writers) (Stable d ∷ past) p ds (with_log (λ log. after_mark log d) m) there low still next)
  where
    slide : (k : ℕ) (p : Pid) (ws : List Pid) → replicate k p ++ (p ∷ ws) ≡ p ∷ (replicate k p ++ ws)
    slide zero p ws = refl
    slide (suc k) p ws = ap (λ xs. p ∷ xs) (slide k p ws)

has_taken : (k : ℕ) (ds : List Det) (d : Det) → list_has (take k ds) d ≡ true → list_has ds d ≡ true
has_taken zero ds d h = absurd (false≢true h)
has_taken (suc k) [] d h = absurd (false≢true h)
has_taken (suc k) (x ∷ ds) d h = grind (arith, has_taken k ds d)

module _ (r : Run) (s : SatisfiesInvariant r) where
  abbrev n : ℕ
  n = r.recording.processes

  abbrev past : List Entry
  past = r.recording.past

  abbrev ms : Memories
  ms = memories_of r

  delivers : (q source : Pid) (ssn first : ℕ) (det : Det) (number : ℕ) (appended : List Entry) → request_fault r (Requests.Deliver q source ssn) ≡ None → appended ≡ delivery_entry r q (message_name source ssn) ∷ drop 1 appended → AreSends n q (next_ssn ms q) number (drop 1 appended) → SatisfiesInvariant (extend_run r (Requests.Deliver q source ssn) appended)
  unfolding request_refusals memories
  delivers q source ssn first det number appended none is sends =
      let low : (q.0 < n) × (source.0 < n) = grind arith in
      let up = is_there (present_at ms q.0) (grind arith) in
      let kept = is_there (sent_message_for ms q (message_name source ssn)) (grind arith) in
      let by = kept_for-is ms q (message_name source ssn) kept.0 kept.1 in
      let only = third_none (fault_if (not (nat_lt q.0 n && nat_lt source.0 n)) Faults.NoProcess) (fault_if (is_none (present_at ms q.0)) Faults.Down) (fault_unless_named (message_name source ssn) (named_for ms (stable_of r) q)) _ none in
      subst (λ es. IsKept n r.faults r.writers (append_all es past)) (sym is) (then_sends up.0 kept.0 low.0 low.1 up.1 by only)
    where
      then_sends : (m : Memory) (k : SentMessage) → q.0 < n → source.0 < n → present_at ms q.0 ≡ Some m → sent_message_of ms (message_name source ssn) ≡ Some k → fault_unless_named (message_name source ssn) (named_for ms (stable_of r) q) ≡ None → IsKept n r.faults r.writers (append_all (drop 1 appended) (delivery_entry r q (message_name source ssn) ∷ past))
      then_sends m k low from here by only =
          let asked : MsgName = message_name source ssn in
          let found = kept_message ms asked k by in
          let place : next_rsn ms q ≡ length m.received = ap (λ o. option_map_or (λ m. length m.received) o 0) here in
          let named : (d : Det) → logs_or_stable past q.0 d ≡ true → d.dest ≡ q → d.rsn ≡ next_rsn ms q → message_of d ≡ asked = λ d found dest rsn. only_named n r.faults past ms q m here low s asked only d found dest (rsn ∙ place) in
          let lists : (d : Det) → list_has (listed_for ms q asked) d ≡ (same_det d (next_own_det ms q asked) || has_item d k.batch) = λ d.
          grind (arith, own_have (next_own_det ms q asked) (dets_of (batch_of ms asked)) d, items_have (batch_of ms asked) d) in
          let sound = delivery_sound n r.faults past ms q (next_rsn ms q) asked m k (listed_for ms q asked) here low from found named lists s in
          let sent = was_sent n r.faults past ms q (next_rsn ms q) asked m k (listed_for ms q asked) here low from found named lists s in
          let next : IsKept n r.faults r.writers (delivery_entry r q asked ∷ past) = grind (arith, sent, sound) in
          let there : present_at (memories n r.faults r.writers (delivery_entry r q asked ∷ past)) q.0 ≡ Some (with_received k.batch (next_own_det ms q asked) m) =
          grind (arith, sent, changed_here (with_received k.batch (next_own_det ms q asked)) ms q.0 q.0 refl) in
          (are_sends_kept n r.faults r.writers (delivery_entry r q asked ∷ past) q (next_ssn ms q) number (drop 1 appended) (with_received k.batch (next_own_det ms q asked) m) sends there low (ap (λ o. option_map_or (λ m. length m.sent) o 0) here) next).0

  crashes : (p : Pid) (appended : List Entry) → request_fault r (Requests.Crash p) ≡ None → appended ≡ Crash p ∷ [] → SatisfiesInvariant (extend_run r (Requests.Crash p) appended)
  unfolding request_refusals memories
  crashes p appended none is = grind (arith, crash_sound n r.faults past ms p, down_counted n past ms s.fit.count s.fit.state)

  restarts_kept : (p : Pid) (number : ℕ) (appended : List Entry) → request_fault r (Requests.Restart p) ≡ None → appended ≡ Restart p (restart_list r p) ∷ drop 1 appended → AreSends n p 0 number (drop 1 appended) → SatisfiesInvariant (extend_run r (Requests.Restart p) appended)
  unfolding request_refusals memories
  restarts_kept p number appended none is sends =
      let low : p.0 < n = grind arith in
      let down : present_at ms p.0 ≡ None = grind arith in
      let next : IsKept n r.faults r.writers (Restart p (restart_list r p) ∷ past) = restart_sound n r.faults past ms p (restart_list r p) low down (λ d. keys_have (restart_log ms (stable_set past) p) d) s in
      let there : present_at (memories n r.faults r.writers (Restart p (restart_list r p) ∷ past)) p.0 ≡ Some (new_memory (restart_log ms (stable_set past) p)) = grind (arith, at_set ms p.0 (Some (new_memory (restart_log ms (stable_set past) p))) p.0 (omega (arith, low, s.fit.count)), eqb_tells p.0 p.0) in
      subst (λ es. IsKept n r.faults r.writers (append_all es past)) (sym is) (are_sends_kept n r.faults r.writers (Restart p (restart_list r p) ∷ past) p 0 number (drop 1 appended) (new_memory (restart_log ms (stable_set past) p)) sends there low refl next).0

  flushes : (p : Pid) (ds : List Det) (appended : List Entry) → request_fault r (Requests.Flush p) ≡ None → ((d : Det) → list_has ds d ≡ true → list_has (dets_to_flush r p) d ≡ true) → appended ≡ map Stable ds → SatisfiesInvariant (extend_run r (Requests.Flush p) appended)
  unfolding request_refusals
  flushes p ds appended none within is =
      let low : p.0 < n = grind arith in
      let up = is_there (present_at ms p.0) (grind arith) in
      let logged : (d : Det) → list_has ds d ≡ true → memory_logs ms p.0 d ≡ true = λ d h.
      grind (arith, within d h, log_here ms p.0 up.0 up.1, unstable_logged up.0.log d) in
      subst (λ es. IsKept n r.faults (replicate (length es) p ++ r.writers) (append_all es past)) (sym is) (flush_kept n r.faults r.writers past p ds up.0 up.1 low logged s)

  forgets : (p : Pid) (appended : List Entry) → request_fault r (Requests.Forget p) ≡ None → appended ≡ forget_entries p (dets_to_forget r p) → SatisfiesInvariant (extend_run r (Requests.Forget p) appended)
  unfolding request_refusals memories
  forgets p appended none is =
      let low : p.0 < n = grind arith in
      let up = is_there (present_at ms p.0) (grind arith) in
      let known : (d : Det) → list_has (dets_to_forget r p) d ≡ true → knows_stable ms p.0 d ≡ true = λ d h.
      grind (arith, log_here ms p.0 up.0 up.1, stable_have up.0.log d) in
      let next = forget_sound n r.faults past ms p up.0 (dets_to_forget r p) up.1 low known s in
      grind (arith, next)

  nothing_appended : (request : Request) (appended : List Entry) → appended ≡ [] → SatisfiesInvariant (extend_run r request appended)
  nothing_appended request appended is = grind arith

legal_kept : (r : Run) (request : Request) (reply : Reply) (appended : List Entry) → LegalStep r request reply appended → SatisfiesInvariant r → SatisfiesInvariant (extend_run r request appended)
unfolding LegalStep
legal_kept r (Requests.Deliver q source ssn) (Replies.Delivered d) appended h s = delivers r s q source ssn d.first d.det d.sends appended h.0 h.3 h.4
legal_kept r (Requests.Crash p) (Replies.Crashed first) appended h s = crashes r s p appended h.0 h.2
legal_kept r (Requests.Restart p) (Replies.Restarted d) appended h s = restarts_kept r s p d.sends appended h.0 h.3 h.4
legal_kept r (Requests.Flush p) (Replies.Flushed count) appended h s = flushes r s p (dets_to_flush r p) appended h.0 (λ d x. x) h.2
legal_kept r (Requests.Flush p) (Replies.FlushRefused f) appended h s = by (flush_reason_of f.fault) refl
  where
    by : (reason : Option CoreFault) → flush_reason_of f.fault ≡ reason → SatisfiesInvariant (extend_run r (Requests.Flush p) appended)
    by None is = flushes r s p (take f.done (dets_to_flush r p)) appended (h.0 ∙ is) (has_taken f.done (dets_to_flush r p)) h.2
    by (Some fault) is = nothing_appended r s (Requests.Flush p) appended (grind arith)
legal_kept r (Requests.Forget p) (Replies.Forgotten count) appended h s = forgets r s p appended h.0 h.2
legal_kept r request (Replies.Refused fault) appended h s = grind arith
legal_kept r request reply appended h s = absurd h

-- each legal step preserves the invariant of runs
pub steps_keep_runs : RequestsPreserveInvariant
steps_keep_runs old new request reply step s = subst SatisfiesInvariant (sym step.grown) (legal_kept old request reply step.appended step.legal s)

-- a refusal of a call other than a flush leaves the run unchanged
pub refusals_change_nothing : RefusalsChangeNothing
unfolding LegalStep
refusals_change_nothing old new request fault step = grind arith

-- so the eight facts of the invariant hold after each legal step
pub ruleset facts_after = (steps_keep_runs, few_down, known_holders_true, carried_holders_true, marks_true, dependents_log, messages_carry, receivers_have_survivors, senders_have_carried)

-- when all processes begin, nothing is known, and no message was sent
first_sound : (n f : ℕ) → IsInvariantState n f [] (beginners n)
first_sound n f = record {
  fit = grind (arith, length-replicate n (Some (new_memory fin.empty)), at_first n, messages_first n, log_first n, none_entry);
  reached = initial (volatile_of (beginners n)) (grind (arith, log_first n, messages_first n, none_holds, none_stable));
}

-- the invariant after the first processes have begun; the others have sent nothing
opens_kept : (n f p : ℕ) (past : List Entry) → p ≤ n → HaveBegunBelow n p past → IsKept n f [] past × ((q : ℕ) → p ≤ q → q < n → present_at (memories n f [] past) q ≡ Some (new_memory fin.empty))
unfolding memories
opens_kept n f zero past within h = grind (arith, first_sound n f, at_first)
opens_kept n f (suc p) past within h =
    let before = opens_kept n f p h.0 (omega (arith, within)) h.3 in
    let sent = are_sends_kept n f [] h.0 (record { 0 = p }) 0 h.1 h.2 (new_memory fin.empty) h.4 (before.1 p (omega arith) (omega (arith, within))) (omega (arith, within)) refl before.0 in
    subst (λ x. IsKept n f [] x × ((q : ℕ) → suc p ≤ q → q < n → present_at (memories n f [] x) q ≡ Some (new_memory fin.empty))) (sym h.5)
    (sent.0, λ q above low. sent.1 q (λ e. omega (arith, above, (let same : p ≡ q = e in same))) ∙ before.1 q (omega (arith, above)) low)

-- the initial state satisfies the invariant
pub openings_are_runs : StartSatisfiesInvariant
openings_are_runs r h none = subst (λ ws. IsKept r.recording.processes r.faults ws r.recording.past) (sym none) (opens_kept r.recording.processes r.faults r.recording.processes r.recording.past (omega arith) h).0

-- each reachable run satisfies the invariant
pub made_runs : (r : Run) → IsReachable r → SatisfiesInvariant r
made_runs r (opened _ h none) = openings_are_runs r h none
made_runs new (stepped old _ request reply made step) = steps_keep_runs old new request reply step (made_runs old made)
