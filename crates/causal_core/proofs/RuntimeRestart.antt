-- A restart of the runtime.
use Rattle.std.proofs.Common.{ℕ, suc, ◌≡◌, ◌+◌, ◌<◌, ◌≤◌, Bool, true, List, [], ◌∷◌, length, map, Some, None, refl, sym, ap, ◌∙◌, arith, slice_set}
use Rattle.std.specs.Prelude.{◌||◌, nat_le, is_some}
use Rattle.std.specs.List.{list_all}
use Rattle.std.specs.FinMap as fin
use Rattle.std.proofs.lemmas.List.{length-map, map-set}
use Rattle.causal_name.specs.declared.Pid.{Pid}
use Rattle.causal_name.specs.declared.Det.{Det}
use Rattle.causal_name.proofs.Lemmas.DetOrder.{dets_total}
use Rattle.causal_log.specs.Logs.{LogMap, batch_items}
use Rattle.causal_log.specs.Stores.{count_in}
use Rattle.causal_log.proofs.Lemmas.Ascents.{map_ascends}
use Rattle.causal_log.proofs.Lemmas.LogLists.{keys_logged}
use Rattle.causal_trace.specs.declared.entry.Entry.{Entry}
use Rattle.causal_trace.specs.declared.entry.Entry.TheVariants.{Restart}
use Rattle.causal_trace.specs.Past.{is_down, is_stable, is_delivered, listed_in, restarts}
use Rattle.causal_trace.specs.Rows as Rows
use Rattle.causal_trace.specs.Rows.{are_delivered, AreLegalEntries}
use Rattle.causal_process.specs.declared.message.Outgoing.{Outgoing}
use Rattle.causal_protocol.specs.declared.request.Restarted.{Restarted}
use Rattle.causal_protocol.specs.declared.request.Request.TheVariants as Requests
use Rattle.causal_protocol.specs.declared.request.Reply.TheVariants as Replies
use Rattle.causal_protocol.specs.declared.request.CoreFault.{CoreFault}
use Rattle.causal_protocol.specs.declared.request.CoreFault.TheVariants as Faults
use Rattle.causal_protocol.specs.Memory.{Memory, Memories, new_memory, present_at}
use Rattle.causal_protocol.specs.Gathering.{stable_set, restart_log}
use Rattle.causal_protocol.specs.Run.{Run, memories, memories_of, stable_of}
use Rattle.causal_protocol.specs.Refusals.{request_refusals, request_fault, exceeds_limits, fault_if, restart_list}
use Rattle.causal_protocol.specs.Steps.{LegalStep, Steps, extend_run, append_all, sends_of}
use Rattle.causal_core.specs.Inside.MemoryInvariant.{MatchesEntries, AllMatchEntries, IsRunData}
use Rattle.causal_core.specs.Inside.Gathers.{is_logged, listing_fault}
use Rattle.causal_core.specs.View.{gathering_fault, receivers, with_restart}
use Rattle.causal_core.specs.Inside.Memories.{keep_all}
use Rattle.causal_core.proofs.MemoriesFit.{all_from, all_at, held_fit}
use Rattle.causal_core.proofs.RuntimeSend.{memories_sends, are_sends}
use Rattle.causal_core.proofs.Cells.{up_within}
use Rattle.causal_core.proofs.RunAfterStep.{sends_up, has_stable, sends_unstable}
use Rattle.causal_core.proofs.RestartCounts.{gathered_has}

-- a test that each log passes is passed by each logged determinant
logged_pass : (P : Det → Bool) (ms : Memories) → ((p : ℕ) (m : Memory) → present_at ms p ≡ Some m → list_all P (fin.keys m.log) ≡ true) → (d : Det) → is_logged ms d ≡ true → P d ≡ true
logged_pass P [] each d there = grind arith
logged_pass P (None ∷ ms) each d there = logged_pass P ms (λ p m is. each (suc p) m is) d there
logged_pass P (Some k ∷ ms) each d there = grind (arith, there, logged_pass P ms (λ p m is. each (suc p) m is) d, all_at P (fin.keys k.log) d (each 0 k refl), keys_logged k.log d)

-- each stable determinant was delivered
stable_delivered : (n : ℕ) (past : List Entry) → AreLegalEntries n past → (d : Det) → is_stable past d ≡ true → is_delivered past d ≡ true
unfolding Rows.rows_within
stable_delivered n [] h d h2 = grind arith
stable_delivered n (each ∷ others) h d h2 = grind (arith, stable_delivered n others)

-- each determinant that a restart gathers was delivered
pub gathered_delivered : (n : ℕ) (past : List Entry) (ms : Memories) (p : Pid) → AreLegalEntries n past → AllMatchEntries n past ms → are_delivered past (fin.keys (restart_log ms (stable_set past) p)) ≡ true
gathered_delivered n past ms p accepted fit =
    let each : (q : ℕ) (m : Memory) → present_at ms q ≡ Some m → are_delivered past (fin.keys m.log) ≡ true = λ q m is. grind (arith, is, fit, up_within ms q (ap is_some is)) in
    all_from (is_delivered past) (fin.keys (restart_log ms (stable_set past) p))
    (λ d there. grind (arith, there, keys_logged, gathered_has ms (stable_set past) p d, has_stable past d, stable_delivered n past accepted d, logged_pass (is_delivered past) ms each d))

-- the facts about a restart that is not refused
pub record MayRestart (r : Run) (p : Pid) : Type 0 where
  pub process : p.0 < r.recording.processes
  pub down : is_down r.recording.past p.0 ≡ true
  pub long : length r.recording.past + 9 ≤ 16777216
  pub listed : listed_in r.recording.past + length (restart_list r p) ≤ 268435456
  pub lanes : restarts r.recording.past < 192
  pub delivered : are_delivered r.recording.past (restart_list r p) ≡ true

-- a restart that is not refused is of a down process, and the trace has capacity for it
pub may_restart : (r : Run) (ms : Memories) (p : Pid) → IsRunData r ms → request_fault r (Requests.Restart p) ≡ None → MayRestart r p
unfolding request_refusals
may_restart r ms p run_data none =
    let fit = held_fit r ms run_data in
    let delivered = gathered_delivered r.recording.processes r.recording.past (memories_of r) p run_data.formed.accepted fit in
    grind arith

-- then its entry is legal
pub restart_legal : (r : Run) (p : Pid) → MayRestart r p → Rows.first_fault r.recording.processes r.recording.past (Restart p (restart_list r p)) ≡ None
unfolding Rows.rows_within
restart_legal r p may = grind (arith, map_ascends, may.down, may.long)

-- the restarted process has sent and received nothing
pub restart_fits : (past : List Entry) (p : Pid) (listed : List Det) (log : LogMap) → are_delivered past (fin.keys log) ≡ true → MatchesEntries (Restart p listed ∷ past) p.0 (new_memory log)
restart_fits past p listed log delivered = grind arith

-- the memories after a restart and its sends
pub restart_memories : (r : Run) (p : Pid) (listed : List Det) (tos : List Pid) → p.0 < length (memories_of r)
    → slice_set (memories_of r) p.0 (Some (keep_all (length (Restart p listed ∷ r.recording.past)) (batch_items r.faults (restart_log (memories_of r) (stable_of r) p)) tos (new_memory (restart_log (memories_of r) (stable_of r) p))))
    ≡ memories r.recording.processes r.faults r.writers (append_all (sends_of p 0 tos) (Restart p listed ∷ r.recording.past))
unfolding memories
restart_memories r p listed tos inside =
    memories_sends r.recording.processes r.faults r.writers (Restart p listed ∷ r.recording.past) p 0 tos (memories_of r) (new_memory (restart_log (memories_of r) (stable_of r) p)) refl inside

-- there are no more stable determinants than entries
pub few_stable : (past : List Entry) → count_in (stable_set past) ≤ length past
unfolding stable_set
few_stable [] = grind (arith, fin.len-empty)
few_stable (each ∷ others) = grind (arith, few_stable others, fin.len-insert, dets_total)

-- the first refusal of a restart is that of a restart with the length of the gathered list
pub restart_lists : (r : Run) (p : Pid) (listed : ℕ) → listed ≡ length (restart_list r p) → listing_fault r p listed ≡ request_fault r (Requests.Restart p)
unfolding request_refusals
restart_lists r p listed is = ap (listing_fault r p) is

-- the length of the gathered log is that of the list
pub log_lists : (r : Run) (p : Pid) (log : LogMap) → log ≡ restart_log (memories_of r) (stable_of r) p → listing_fault r p (fin.len log) ≡ request_fault r (Requests.Restart p)
log_lists r p log is = restart_lists r p (fin.len log) (fin.len-entries log ∙ sym (length-map (fin.entries log) (λ e. e.0)) ∙ ap (λ m. length (fin.keys m)) is)

-- the refusal of a restart with an empty list is that of each restart
pub none_listed : (r : Run) (p : Pid) (fault : CoreFault) → listing_fault r p 0 ≡ Some fault → request_fault r (Requests.Restart p) ≡ Some fault
unfolding request_refusals
none_listed r p fault h = grind arith

-- if the gathering is not refused, a restart is refused exactly if the trace is full
pub listing_full : (r : Run) (p : Pid) (listed : ℕ) (test : Bool) → gathering_fault r p ≡ None → test ≡ (exceeds_limits r 9 listed || nat_le 192 (restarts r.recording.past)) → listing_fault r p listed ≡ fault_if test Faults.Full
listing_full r p listed test none is = grind arith

-- a refusal of the gathering is a refusal of the restart
pub gathering_told : (r : Run) (p : Pid) (listed : ℕ) (fault : CoreFault) → gathering_fault r p ≡ Some fault → listing_fault r p listed ≡ Some fault
gathering_told r p listed fault h = grind arith

-- if a restart is not refused, its process is one of the run
pub restart_below : (r : Run) (p : Pid) → request_fault r (Requests.Restart p) ≡ None → p.0 < r.recording.processes
unfolding request_refusals
restart_below r p none = grind arith

-- a restart that is not refused, with its sends, is a legal step
pub restart_steps : (r next : Run) (p : Pid) (d : Restarted) (sends : List Outgoing) → request_fault r (Requests.Restart p) ≡ None → d.first ≡ length r.recording.past → d.listed ≡ length (restart_list r p)
    → d.sends ≡ length (receivers r.recording.processes sends) → length sends ≤ 8 → next ≡ with_restart r p sends → Steps r (Requests.Restart p) (Replies.Restarted d) next
unfolding LegalStep
restart_steps r next p d sends none first listed number few run = record {
  appended = Restart p (restart_list r p) ∷ sends_of p 0 (receivers r.recording.processes sends);
  grown = run;
  legal = (none, first, listed, refl, are_sends r.recording.processes p 0 d.sends sends number few);
}

-- which processes are up after a restart, and what is stable
module _ (r mid next : Run) (p : Pid) (listed : List Det) (tos : List Pid) (same : mid ≡ r) (run : next ≡ extend_run mid (Requests.Restart p) (Restart p listed ∷ sends_of p 0 tos)) where
  pub restart_filled : map is_some (memories_of next) ≡ slice_set (map is_some (memories_of r)) p.0 true
  unfolding memories
  restart_filled = grind (arith, sends_up, map-set)

  pub restart_stable : (d : Det) → is_stable next.recording.past d ≡ is_stable r.recording.past d
  restart_stable d = grind (arith, sends_unstable)
