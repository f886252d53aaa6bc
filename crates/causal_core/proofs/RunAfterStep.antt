-- The run after a step: which processes are up, what is stable, and what a down process would gather.
use Rattle.std.proofs.Common.{arith, ℕ, zero, suc, ◌≡◌, ◌+◌, ◌∙◌, true, false, List, [], ◌∷◌, map, length, Option, Some, is_some, refl, length-set, sym, ◌<◌, None, ap, slice_set, set-set}
use Rattle.causal_name.specs.declared.Pid.{Pid}
use Rattle.causal_name.specs.declared.Det.{Det}
use Rattle.causal_trace.specs.declared.entry.Entry.{Entry}
use Rattle.causal_trace.specs.declared.entry.Entry.TheVariants.{Send, Deliver, Stable, Crash, Restart}
use Rattle.std.specs.FinMap as fin
use Rattle.std.proofs.lemmas.List.{length-replicate, map-set}
use Rattle.causal_protocol.specs.Memory.{Memory, Memories, new_memory, present_at, update_at, with_log}
use Rattle.causal_protocol.specs.Run.{memories, older_writers, Run, memories_of, stable_of}
use Rattle.causal_protocol.specs.Steps.{append_all, sends_of, LegalStep, Steps, extend_run, delivery_entry}
use Rattle.causal_core.specs.Inside.Slots.{HasBox}
use Rattle.causal_name.proofs.Lemmas.DetOrder.{dets_total, exact_dets}
use Rattle.causal_log.specs.Stores.{DetSet, set_has, with_det}
use Rattle.causal_log.proofs.Lemmas.StoreSets.{stored}
use Rattle.causal_trace.specs.Past.{is_stable}
use Rattle.causal_protocol.specs.Gathering.{stable_set, restart_log}
use Rattle.causal_name.specs.declared.MsgName.{MsgName}
use Rattle.causal_protocol.specs.declared.request.CoreFault.{CoreFault}
use Rattle.causal_protocol.specs.declared.request.Request.TheVariants as Requests
use Rattle.causal_protocol.specs.declared.request.Reply.TheVariants as Replies
use Rattle.causal_protocol.specs.Refusals.{request_refusals}
use Rattle.causal_log.specs.Logs.{after_mark, LogMap}
use Rattle.std.specs.Option.{IfSome}
use Rattle.causal_core.specs.declared.gather_cache.GatherCache.{GatherCache}
use Rattle.causal_core.specs.Inside.GatherCaches.{log_to_gather, ChangesOnlyMemoryOf, IsGatherCache}
use Rattle.causal_core.proofs.RuntimeSend.{set_same}

-- a change of an up process's memory does not change which processes are up
pub changed_up : (g : Memory → Memory) (ms : Memories) (p : ℕ) → map is_some (update_at g ms p) ≡ map is_some ms
changed_up g [] p = grind arith
changed_up g (each ∷ others) p = grind (arith, changed_up g others)

-- sends do not change which processes are up
pub sends_up : (n f : ℕ) (writers : List Pid) (q : Pid) (ssn : ℕ) (tos : List Pid) (past : List Entry) → map is_some (memories n f writers (append_all (sends_of q ssn tos) past)) ≡ map is_some (memories n f writers past)
unfolding memories sends_of
sends_up n f writers q ssn [] past = refl
sends_up n f writers q ssn (to ∷ tos) past = sends_up n f writers q (ssn + 1) tos (Send q to ssn ∷ past) ∙ changed_up _ (memories n f writers past) q.0

-- a delivery and its sends do not change which processes are up
pub delivery_up : (n f : ℕ) (writers : List Pid) (q : Pid) (ssn : ℕ) (tos : List Pid) (to : Pid) (send rsn : ℕ) (listed : List Det) (past : List Entry) → map is_some (memories n f writers (append_all (sends_of q ssn tos) (Deliver to send rsn listed ∷ past))) ≡ map is_some (memories n f writers past)
unfolding memories
delivery_up n f writers q ssn tos to send rsn listed past = grind (arith, sends_up, changed_up)

-- there are as many memories as processes
pub memories_count : (n f : ℕ) (writers : List Pid) (past : List Entry) → length (memories n f writers past) ≡ n
unfolding memories
memories_count n f writers [] = length-replicate n (Some (new_memory fin.empty))
memories_count n f writers (e ∷ past) = grind (arith, memories_count n f (older_writers e writers) past, length-set)

-- the slot of an up process contains a box
pub box_there : {B : Type 0} (slots : List (Option B)) (ms : Memories) (q : ℕ) → map is_some slots ≡ map is_some ms → is_some (present_at ms q) ≡ true → HasBox slots q
box_there [] [] q h up = absurd (let e : false ≡ true = up in cc)
box_there [] (m ∷ ms) q h up = absurd (let e : [] ≡ is_some m ∷ map is_some ms = h in cc)
box_there (s ∷ ss) [] q h up = absurd (let e : false ≡ true = up in cc)
box_there (s ∷ ss) (m ∷ ms) zero h up = grind arith
box_there (s ∷ ss) (m ∷ ms) (suc q) h up = box_there ss ms q (let e : is_some s ∷ map is_some ss ≡ is_some m ∷ map is_some ms = h in cc e) up

-- the set of the stable entries contains what is stable
pub has_stable : (past : List Entry) (d : Det) → set_has (stable_set past) d ≡ is_stable past d
unfolding stable_set
has_stable [] d = grind (arith, fin.get-empty)
has_stable (each ∷ others) d = grind (arith, has_stable others, stored)

pub same_unit : (a b : Option (Unit {0})) → is_some a ≡ is_some b → a ≡ b
same_unit a b h = grind arith

-- a store that contains exactly what is stable is that set
pub store_is : (s : DetSet) (past : List Entry) → ((d : Det) → set_has s d ≡ is_stable past d) → s ≡ stable_set past
store_is s past h = fin.same_map dets_total exact_dets s (stable_set past) (λ d. same_unit _ _ (h d ∙ sym (has_stable past d)))

-- sends make nothing stable
pub sends_unstable : (q : Pid) (ssn : ℕ) (tos : List Pid) (past : List Entry) (d : Det) → is_stable (append_all (sends_of q ssn tos) past) d ≡ is_stable past d
unfolding sends_of
sends_unstable q ssn [] past d = refl
sends_unstable q ssn (to ∷ tos) past d = sends_unstable q (Prim.Native.Nat.◌+◌ ssn 1) tos (Send q to ssn ∷ past) d

-- a refused crash does not change the run
pub crash_refused : (r next : Run) (p : Pid) (fault : CoreFault) → Steps r (Requests.Crash p) (Replies.Refused fault) next → next ≡ r
unfolding LegalStep
crash_refused r next p fault s = s.grown ∙ ap (extend_run r (Requests.Crash p)) s.legal.1

-- a crash appends its one entry
pub crash_done : (r next : Run) (p : Pid) (first : ℕ) → Steps r (Requests.Crash p) (Replies.Crashed first) next → next ≡ extend_run r (Requests.Crash p) (Crash p ∷ [])
unfolding LegalStep
crash_done r next p first s = s.grown ∙ ap (extend_run r (Requests.Crash p)) s.legal.2

-- a crashed process is a process of the run
pub crash_below : (r next : Run) (p : Pid) (first : ℕ) → Steps r (Requests.Crash p) (Replies.Crashed first) next → p.0 < r.recording.processes
unfolding LegalStep request_refusals
crash_below r next p first s = grind arith

-- it is down then, and the others are unchanged
pub crash_filled : (r next : Run) (p : Pid) (first : ℕ) → Steps r (Requests.Crash p) (Replies.Crashed first) next → map is_some (memories_of next) ≡ slice_set (map is_some (memories_of r)) p.0 false
unfolding memories
crash_filled r next p first s = ap (λ x. map is_some (memories_of x)) (crash_done r next p first s) ∙ map-set is_some (memories_of r) p.0 None

-- a crash does not change what is stable
pub crash_stable : (r next : Run) (p : Pid) (first : ℕ) → Steps r (Requests.Crash p) (Replies.Crashed first) next → (d : Det) → is_stable next.recording.past d ≡ is_stable r.recording.past d
crash_stable r next p first s d = ap (λ x. is_stable x.recording.past d) (crash_done r next p first s)

-- a flush that writes a determinant does not change which processes are up
pub stable_filled : (r next : Run) (p : Pid) (det : Det) → next ≡ extend_run r (Requests.Flush p) (Stable det ∷ []) → map is_some (memories_of next) ≡ map is_some (memories_of r)
unfolding memories
stable_filled r next p det run = ap (λ x. map is_some (memories_of x)) run ∙ changed_up (with_log (λ log. after_mark log det)) (memories_of r) p.0

-- a store that contains exactly what is stable still does after that determinant is stored
pub stable_stored : (r next : Run) (p : Pid) (det : Det) (old new : DetSet) → next ≡ extend_run r (Requests.Flush p) (Stable det ∷ []) → new ≡ with_det old det → ((d : Det) → set_has old d ≡ is_stable r.recording.past d) → (d : Det) → set_has new d ≡ is_stable next.recording.past d
stable_stored r next p det old new run put holds d = grind (arith, stored)

-- a delivery and its sends change neither which processes are up nor what is stable
module _ (r mid next : Run) (q source : Pid) (ssn : ℕ) (m : MsgName) (k : ℕ) (tos : List Pid) (same : mid ≡ r) (run : next ≡ extend_run mid (Requests.Deliver q source ssn) (delivery_entry mid q m ∷ sends_of q k tos)) where
  pub delivery_filled : map is_some (memories_of next) ≡ map is_some (memories_of r)
  delivery_filled = grind (arith, delivery_up)

  pub delivery_stable : (d : Det) → is_stable next.recording.past d ≡ is_stable r.recording.past d
  delivery_stable d = grind (arith, sends_unstable)

-- the log that a down process would gather is the gathered log of its restart
pub gathered_down : (r : Run) (p : Pid) → is_some (present_at (memories_of r) p.0) ≡ false → log_to_gather r p ≡ restart_log (memories_of r) (stable_of r) p
gathered_down r p h = ap (λ ms. restart_log ms (stable_of r) p) (set_same (memories_of r) p.0 None (grind arith))

sends_alone : (n f : ℕ) (writers : List Pid) (q : Pid) (ssn : ℕ) (tos : List Pid) (past : List Entry) → slice_set (memories n f writers (append_all (sends_of q ssn tos) past)) q.0 None ≡ slice_set (memories n f writers past) q.0 None
unfolding memories sends_of
sends_alone n f writers q ssn [] past = refl
sends_alone n f writers q ssn (to ∷ tos) past = sends_alone n f writers q (ssn + 1) tos (Send q to ssn ∷ past) ∙ set-set (memories n f writers past) q.0 _ None

sends_stored : (q : Pid) (ssn : ℕ) (tos : List Pid) (past : List Entry) → stable_set (append_all (sends_of q ssn tos) past) ≡ stable_set past
unfolding sends_of stable_set
sends_stored q ssn [] past = refl
sends_stored q ssn (to ∷ tos) past = sends_stored q (ssn + 1) tos (Send q to ssn ∷ past)

module _ (r mid next : Run) (q source : Pid) (ssn : ℕ) (m : MsgName) (k : ℕ) (tos : List Pid) (same : mid ≡ r) (run : next ≡ extend_run mid (Requests.Deliver q source ssn) (delivery_entry mid q m ∷ sends_of q k tos)) where
  -- a delivery and its sends change only the receiver's memory, and store nothing
  pub delivery_alone : ChangesOnlyMemoryOf q r next
  unfolding memories stable_set
  delivery_alone = grind (arith, sends_alone, sends_stored, set-set)

module _ (r mid next : Run) (p : Pid) (listed : List Det) (tos : List Pid) (same : mid ≡ r) (run : next ≡ extend_run mid (Requests.Restart p) (Restart p listed ∷ sends_of p 0 tos)) where
  -- a restart and its sends change only the restarted process's memory, and store nothing
  pub restarted_alone : ChangesOnlyMemoryOf p r next
  unfolding memories stable_set
  restarted_alone = grind (arith, sends_alone, sends_stored, set-set)

-- a crash changes only the memory of its process, and stores nothing
pub crash_alone : (r next : Run) (p : Pid) (first : ℕ) → Steps r (Requests.Crash p) (Replies.Crashed first) next → ChangesOnlyMemoryOf p r next
unfolding memories stable_set
crash_alone r next p first s = grind (arith, crash_done r next p first s, set-set)

-- the log gathered for a down process may be cached: it is what that process would gather
pub remembered_anew : (r : Run) (p : Pid) (log : LogMap) (gather_cache : Option GatherCache) → is_some (present_at (memories_of r) p.0) ≡ false → log ≡ restart_log (memories_of r) (stable_of r) p → IfSome gather_cache (λ l. (l.by ≡ p) × (l.log.map ≡ log)) → IsGatherCache r gather_cache
remembered_anew r p log gather_cache h h2 h3 = grind (arith, gathered_down)
