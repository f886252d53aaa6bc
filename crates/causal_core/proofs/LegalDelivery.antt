-- A delivery that is not refused, and the memories after it and its sends.
use Rattle.std.proofs.Common.{ℕ, ◌≡◌, ◌==◌, cond, Bool, true, List, [], ◌∷◌, ◌++◌, Some, arith, length-append, ◌<◌, ◌≤◌, false, length, None, refl, ap, subst, ◌∙◌, slice_get, slice_set}
use Rattle.std.specs.List.{list_all, list_any}
use Rattle.std.specs.FinMap as fin
use Rattle.std.proofs.lemmas.List.Folds.{list_any-append}
use Rattle.causal_name.specs.declared.Pid.{Pid}
use Rattle.causal_name.specs.declared.MsgName.{MsgName}
use Rattle.causal_name.specs.declared.Det.{Det}
use Rattle.causal_name.proofs.Lemmas.DetOrder.{same_is}
use Rattle.causal_log.specs.declared.batch.Item.{Item}
use Rattle.causal_log.specs.Logs.{LogMap, after_absorb, batch_items, dets_of}
use Rattle.causal_log.specs.Knowledge.{held_by}
use Rattle.causal_log.proofs.Lemmas.KnowledgeGrows.{get_learned, absorbed_logged}
use Rattle.causal_log.proofs.Lemmas.LogLists.{keys_logged}
use Rattle.causal_log.proofs.Lemmas.MessageItems.{carried_dets}
use Rattle.causal_trace.specs.declared.entry.Entry.TheVariants.{Deliver}
use Rattle.causal_trace.specs.Past.{message_at, det_at, det_of, is_send_to, is_sent_to, is_det, is_delivered}
use Rattle.causal_trace.specs.Rows.{are_delivered}
use Rattle.causal_protocol.specs.Memory.{Memory, log_after_delivery, SentMessage, Memories, present_at, sent_message_of, batch_of}
use Rattle.causal_protocol.proofs.Lemmas.LogMembers.{items_have}
use Rattle.causal_trace.proofs.Lemmas.Instants.{det_more}
use Rattle.causal_trace.specs.declared.entry.Entry.{Entry}
use Rattle.causal_core.specs.Inside.MemoryInvariant.{MatchesEntries, IsSentAt, MatchesEntriesAt, IsRunData}
use Rattle.causal_core.proofs.MemoriesFit.{all_from, all_at, all_within, placed_more, all_more, there, kept_by, held_fit, delivered_more}
use Rattle.std.specs.Prelude.{◌||◌, is_some, unwrap_or}
use Rattle.std.specs.Option.{option_map_or}
use Rattle.std.proofs.lemmas.Bool.Decides.{nat_tests}
use Rattle.causal_name.specs.Names.{same_message, same_pid, is_ascending}
use Rattle.causal_trace.specs.Rows as Rows
use Rattle.causal_process.specs.declared.message.Outgoing.{Outgoing}
use Rattle.causal_protocol.specs.declared.request.Delivered.{Delivered}
use Rattle.causal_protocol.specs.declared.request.Request.TheVariants as Requests
use Rattle.causal_protocol.specs.declared.request.Reply.TheVariants as Replies
use Rattle.causal_protocol.specs.Run.{Run, memories_of, memories}
use Rattle.causal_protocol.specs.Naming.{message_name, if_addressed_to, sent_message_for, send_of, has_received, next_rsn, next_own_det, next_ssn, with_own, listed_for}
use Rattle.causal_protocol.specs.Refusals.{request_refusals, request_fault, exceeds_limits}
use Rattle.causal_protocol.specs.Steps.{LegalStep, Steps, append_all, delivery_entry, sends_of}
use Rattle.causal_memory.specs.declared.delivery_plan.DeliveryPlan.{DeliveryPlan}
use Rattle.causal_core.specs.View.{RunDataState, receivers, with_delivery}
use Rattle.causal_core.specs.Inside.DeliveryPlans.{IsDeliveryPlan}
use Rattle.causal_core.specs.Inside.Memories.{memory_at, log_at}
use Rattle.std.proofs.lemmas.List.{length-map}
use Rattle.std.proofs.lemmas.Option.{slice_get_cases}
use Rattle.causal_memory.proofs.Lemmas.ListInsert.{with_all, with_ascending, with_longer}
use Rattle.causal_core.proofs.Cells.{kept_found}
use Rattle.causal_core.proofs.RuntimeSend.{are_sends, memories_sends}
use Rattle.causal_core.specs.Inside.DeliveryRecords.{memories_after_step}

-- a test that each determinant of a log passes
module _ (P : Det → Bool) where
  -- the log after a delivery passes
  pub gained_all : (items : List Item) (own : Det) (log : LogMap) → list_all P (dets_of items) ≡ true → P own ≡ true → list_all P (fin.keys log) ≡ true → list_all P (fin.keys (log_after_delivery items own log)) ≡ true
  gained_all items own log pass is h =
      all_from P (fin.keys (log_after_delivery items own log))
      (λ d there. grind (arith, there, keys_logged, get_learned (after_absorb items own.source own.dest log) own (held_by own.dest) d, absorbed_logged items own.source own.dest log d, items_have, same_is d own, all_at P (dets_of items) d pass, all_at P (fin.keys log) d h))

  -- the batch that a log chooses passes
  pub chosen_all : (f : ℕ) (log : LogMap) → list_all P (fin.keys log) ≡ true → list_all P (dets_of (batch_items f log)) ≡ true
  chosen_all f log h = all_within P (fin.keys log) (dets_of (batch_items f log)) (λ d there. grind (arith, there, keys_logged, items_have, carried_dets)) h

-- q's memory with the received message matches the entries
pub received_fits : (past : List Entry) (q : Pid) (send rsn : ℕ) (name : MsgName) (listed : List Det) (log : LogMap) (m : Memory) → message_at past send ≡ Some name → MatchesEntries past q.0 m
    → are_delivered (Deliver q send rsn listed ∷ past) (fin.keys log) ≡ true → MatchesEntries (Deliver q send rsn listed ∷ past) q.0 (record { log = log; sent = m.sent; received = m.received ++ name ∷ [] })
received_fits past q send rsn name listed log m sent fit logged = grind (arith, length-append, list_any-append, placed_more)

-- the facts about the receiver, the sender and the message
pub record MayDeliver (r : Run) (q source : Pid) (ssn : ℕ) : Type 0 where
  pub process : q.0 < r.recording.processes
  pub memory : Memory
  pub memory_is : present_at (memories_of r) q.0 ≡ Some memory
  pub fits : MatchesEntries r.recording.past q.0 memory
  pub kept : SentMessage
  pub by : sent_message_of (memories_of r) (message_name source ssn) ≡ Some kept
  pub to : same_pid kept.to q ≡ true
  pub placed : IsSentAt r.recording.past source.0 ssn kept
  pub fresh : list_any (λ k. same_message k (message_name source ssn)) memory.received ≡ false
  pub long : exceeds_limits r 9 (length (listed_for (memories_of r) q (message_name source ssn))) ≡ false

-- if a delivery is not refused, sender and receiver are processes, the receiver is up, the message is kept and was not
-- received, and the list is within the limit
pub allowed : (r : Run) (q source : Pid) (ssn : ℕ) → request_fault r (Requests.Deliver q source ssn) ≡ None
    → (q.0 < r.recording.processes)
    × (source.0 < r.recording.processes)
    × (is_some (present_at (memories_of r) q.0) ≡ true)
    × (is_some (sent_message_for (memories_of r) q (message_name source ssn)) ≡ true)
    × (has_received (memories_of r) q (message_name source ssn) ≡ false)
    × (exceeds_limits r 9 (length (listed_for (memories_of r) q (message_name source ssn))) ≡ false)
    × (length (listed_for (memories_of r) q (message_name source ssn)) ≤ 268435456)
unfolding request_refusals
allowed r q source ssn none = grind (arith, nat_tests)

-- if a delivery is not refused, its receiver is up, and its message is kept and was not received
pub may_deliver : (r : Run) (ms : Memories) (q source : Pid) (ssn : ℕ) → IsRunData r ms → request_fault r (Requests.Deliver q source ssn) ≡ None → MayDeliver r q source ssn
may_deliver r held q source ssn run_data none =
    let may = allowed r q source ssn none in
    let ms = memories_of r in
    let fit = held_fit r held run_data in
    let m = there (present_at ms q.0) may.2 in
    let k = there (sent_message_for ms q (message_name source ssn)) may.3 in
    let f = kept_found q (sent_message_of ms (message_name source ssn)) k.0 k.1 in
    let s = kept_by ssn (present_at ms source.0) k.0 f.0 in
    let kept : MatchesEntries r.recording.past source.0 s.0 = subst (MatchesEntriesAt r.recording.past source.0) s.1 (fit.each source.0 may.1) in
    record {
      process = may.0;
      memory = m.0;
      memory_is = m.1;
      fits = subst (MatchesEntriesAt r.recording.past q.0) m.1 (fit.each q.0 may.0);
      kept = k.0;
      by = f.0;
      to = f.1;
      placed = kept.placed ssn k.0 s.2;
      fresh = grind (arith, m.1, may.4);
      long = may.5;
    }

-- a message that is kept for q is in its sender's memory
kept_within : (q : Pid) (sent : List SentMessage) (ssn : ℕ) → is_some (if_addressed_to q (slice_get sent ssn)) ≡ true → ssn < length sent
kept_within q sent ssn h = grind (arith, slice_get_cases sent ssn)

-- the sender of a message that is kept for q is up, and keeps more messages than this one's number
pub sender_keeps : (ms : Memories) (q source : Pid) (ssn : ℕ) → is_some (sent_message_for ms q (message_name source ssn)) ≡ true
    → (is_some (present_at ms source.0) ≡ true) × (ssn < length (memory_at ms source.0).sent)
sender_keeps ms q source ssn h = grind (arith, kept_within)

-- a delivery's list contains at least as many determinants as the message's piggyback
pub carried_listed : (d : RunDataState) (q : Pid) (m : MsgName) (g : DeliveryPlan) → IsDeliveryPlan d q m g → length g.piggyback ≤ length g.listed
carried_listed d q m g h = grind (arith, with_longer, length-map)

module _ (r : Run) (q source : Pid) (ssn : ℕ) (d : MayDeliver r q source ssn) where
  abbrev pub own : Det
  own = next_own_det (memories_of r) q (message_name source ssn)

  abbrev pub listed : List Det
  listed = listed_for (memories_of r) q (message_name source ssn)

  -- the numbers, the send and the batch, by the receiver's memory and the kept message
  pub rsn_is : next_rsn (memories_of r) q ≡ length d.memory.received
  rsn_is = ap (λ o. option_map_or (λ (x : Memory). length x.received) o 0) d.memory_is

  pub send_is : send_of (memories_of r) (message_name source ssn) ≡ d.kept.send
  send_is = ap (λ o. option_map_or (λ (x : SentMessage). x.send) o 0) d.by

  pub batch_is : batch_of (memories_of r) (message_name source ssn) ≡ d.kept.batch
  batch_is = ap (λ o. option_map_or (λ (x : SentMessage). x.batch) o []) d.by

  -- the message of its send entry
  pub sent_name : message_at r.recording.past (send_of (memories_of r) (message_name source ssn)) ≡ Some (message_name source ssn)
  sent_name = grind arith

  sent_to : is_sent_to r.recording.past (send_of (memories_of r) (message_name source ssn)) q.0 ≡ true
  sent_to = ap (λ k. is_sent_to r.recording.past k q.0) send_is ∙ ap (λ e. option_map_or (is_send_to q.0) e false) d.placed.sent ∙ d.to

  ascending : is_ascending listed ≡ true
  ascending = ap (λ b. is_ascending (with_own own (dets_of b))) batch_is ∙ with_ascending own (dets_of d.kept.batch) d.placed.ascending

  known : list_all (λ x. is_det (Some own) x || is_delivered r.recording.past x) listed ≡ true
  known = grind (arith, with_all, all_more)

  -- if the runtime does not refuse a delivery, its entry is legal in the trace
  pub legal : Rows.first_fault r.recording.processes r.recording.past (delivery_entry r q (message_name source ssn)) ≡ None
  unfolding Rows.rows_within
  legal = grind (arith, rsn_is, sent_to, ascending, known, d.long)

-- a delivery that is not refused, with its sends, is a legal step
pub delivery_steps : (r next : Run) (q source : Pid) (ssn : ℕ) (d : Delivered) (sends : List Outgoing) → request_fault r (Requests.Deliver q source ssn) ≡ None → d.first ≡ length r.recording.past → d.det ≡ next_own_det (memories_of r) q (message_name source ssn)
    → d.sends ≡ length (receivers r.recording.processes sends) → length sends ≤ 8 → next ≡ with_delivery r q (message_name source ssn) sends → Steps r (Requests.Deliver q source ssn) (Replies.Delivered d) next
unfolding LegalStep
delivery_steps r next q source ssn d sends none first own number few run = record {
  appended = delivery_entry r q (message_name source ssn) ∷ sends_of q (next_ssn (memories_of r) q) (receivers r.recording.processes sends);
  grown = run;
  legal = (none, first, own, refl, are_sends r.recording.processes q (next_ssn (memories_of r) q) d.sends sends number few);
}

module _ (r : Run) (q source : Pid) (ssn : ℕ) (d : MayDeliver r q source ssn) (count : length (memories_of r) ≡ r.recording.processes) where
  -- the receiver's log after the delivery
  abbrev pub log : LogMap
  log = log_after_delivery (batch_of (memories_of r) (message_name source ssn)) (next_own_det (memories_of r) q (message_name source ssn)) (log_at (memories_of r) q.0)

  -- the receiver's memory before the delivery, and after it
  pub memory_here : memory_at (memories_of r) q.0 ≡ d.memory
  memory_here = ap (λ o. unwrap_or o (memory_at [] 0)) d.memory_is

  abbrev pub next : Memory
  next = record { log = log; sent = (memory_at (memories_of r) q.0).sent; received = (memory_at (memories_of r) q.0).received ++ message_name source ssn ∷ [] }

  abbrev pub entry : Entry
  entry = delivery_entry r q (message_name source ssn)

  one : slice_set (memories_of r) q.0 (Some next) ≡ memories r.recording.processes r.faults r.writers (entry ∷ r.recording.past)
  unfolding memories
  one = grind arith

  -- every determinant of that log, and of the batch that it chooses, was delivered
  pub all_delivered : are_delivered (entry ∷ r.recording.past) (fin.keys log) ≡ true
  all_delivered =
      let passes = is_delivered (entry ∷ r.recording.past) in
      let m = memory_here in
      gained_all passes (batch_of (memories_of r) (message_name source ssn)) (own r q source ssn d) (log_at (memories_of r) q.0)
      (grind (arith, batch_is r q source ssn d, delivered_more entry r.recording.past (dets_of d.kept.batch) d.placed.delivered))
      (grind (arith, sent_name r q source ssn d))
      (grind (arith, m, delivered_more entry r.recording.past (fin.keys d.memory.log) d.fits.logged))

  pub chosen_delivered : are_delivered (entry ∷ r.recording.past) (dets_of (batch_items r.faults log)) ≡ true
  chosen_delivered = chosen_all (is_delivered (entry ∷ r.recording.past)) r.faults log all_delivered

  -- the memories that the code builds are those of the run
  pub same_memories : (s : RunDataState) (ms : Memories) (g : DeliveryPlan) (sends : List Outgoing) → s.run ≡ r → ms ≡ memories_of r → IsDeliveryPlan s q (message_name source ssn) g
      → memories_after_step r.recording q g sends ms ≡ memories_of (with_delivery r q (message_name source ssn) sends)
  same_memories s ms g sends run same plan =
      let process = d.process in
      grind (arith, memories_sends r.recording.processes r.faults r.writers (entry ∷ r.recording.past) q (length (memory_at (memories_of r) q.0).sent) (receivers r.recording.processes sends) (memories_of r) next one (omega (arith, process, count)))

-- the determinant at a position is unchanged by later entries
pub det_at-pushed : (es past : List Entry) (k : ℕ) → k < length past → det_at (append_all es past) k ≡ det_at past k
det_at-pushed [] past k lt = refl
det_at-pushed (e ∷ es) past k lt = det_at-pushed es (e ∷ past) k (omega (arith, lt)) ∙ det_more e past k lt

-- the determinant of the newest entry
pub det_at-newest : (e : Entry) (past : List Entry) → det_at (e ∷ past) (length past) ≡ det_of past e
det_at-newest e past = let here : (length past == length past) ≡ true = grind (arith, nat_tests) in ap (λ t. cond t (det_of past e) (det_at past (length past))) here
