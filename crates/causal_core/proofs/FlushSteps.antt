-- The determinants that a flush writes, and that a flush is a legal step.
use Rattle.std.proofs.Common.{ℕ, ◌≡◌, ◌<◌, ◌≤◌, Bool, true, List, [], ◌∷◌, length, Option, None, is_some, arith, suc, ◌+◌, ◌∙◌, ◌++◌, length-append, take, map, replicate, get_or, Some, refl, ap}
use Rattle.causal_core.specs.Inside.Memories.{log_at, memory_at}
use Rattle.std.specs.List.{list_all}
use Rattle.std.specs.Option.{option_map, option_map_or}
use Rattle.std.specs.FinMap as fin
use Rattle.causal_name.specs.declared.Pid.{Pid}
use Rattle.causal_name.specs.declared.Det.{Det}
use Rattle.causal_log.specs.Logs.{LogMap, after_mark, unstable_in}
use Rattle.causal_log.proofs.Lemmas.LogLists.{keys_logged, get_marked, unstable_listed}
use Rattle.causal_trace.specs.declared.entry.Entry.{Entry}
use Rattle.causal_trace.specs.declared.entry.Entry.TheVariants.{Stable}
use Rattle.causal_trace.specs.Past.{listed_in, is_delivered}
use Rattle.causal_trace.specs.Rows as Rows
use Rattle.causal_trace.specs.Rows.{IsWellFormed}
use Rattle.causal_trace.proofs.Lemmas.WellFormed.{formed_push, formed_short}
use Rattle.causal_protocol.specs.declared.request.Request.TheVariants as Requests
use Rattle.causal_protocol.specs.Memory.{Memory, Memories, present_at, update_at, with_log}
use Rattle.causal_protocol.specs.Run.{Run, memories, memories_of}
use Rattle.causal_protocol.specs.Steps.{extend_run, LegalStep, Steps, reason_of, flush_reason_of, reply_of_flush}
use Rattle.causal_core.specs.Inside.MemoryInvariant.{MatchesEntries, MatchesEntriesAt, AllMatchEntries, IsRunData}
use Rattle.causal_core.proofs.MemoriesFit.{all_at, all_within, fits_other, all_fit_set, placed_more, all_from, all_more}
use Rattle.std.specs.Prelude.{unwrap_or, Result, IfOk, IfErr}
use Rattle.std.proofs.lemmas.List.{take_all, map_more}
use Rattle.causal_protocol.specs.declared.request.CoreFault.{CoreFault}
use Rattle.causal_protocol.specs.declared.request.CoreFault.TheVariants as Faults
use Rattle.causal_protocol.specs.declared.request.FlushFault.{FlushFault}
use Rattle.causal_protocol.specs.declared.request.Reply.TheVariants as Replies
use Rattle.causal_protocol.specs.Refusals.{request_refusals, request_fault, dets_to_flush}
use Rattle.causal_core.specs.Flushes.{HasUnflushed}
use Rattle.causal_core.specs.Inside.Stables.{written_count}
use Rattle.causal_core.proofs.RuntimeSend.{pushed_last}

-- a test that a whole log passes is passed with one more mark
pub marked_all : (P : Det → Bool) (log : LogMap) (d : Det) → list_all P (fin.keys log) ≡ true → list_all P (fin.keys (after_mark log d)) ≡ true
marked_all P log d all = all_within P (fin.keys log) (fin.keys (after_mark log d)) (λ x there. grind (arith, there, keys_logged, get_marked log d x)) all

-- p's memory with one more mark matches the entries
marked_fits : (past : List Entry) (p : ℕ) (det : Det) (m : Memory) → MatchesEntries past p m → MatchesEntries (Stable det ∷ past) p (with_log (λ log. after_mark log det) m)
marked_fits past p det m fit = grind (arith, marked_all, placed_more)

fits_option : (past : List Entry) (p : ℕ) (det : Det) (o : Option Memory) → MatchesEntriesAt past p o → MatchesEntriesAt (Stable det ∷ past) p (option_map (with_log (λ log. after_mark log det)) o)
fits_option past p det o h = grind (arith, marked_fits)

-- each determinant that p logs was delivered, so its stable entry is legal
pub stable_legal : (n : ℕ) (past : List Entry) (p : ℕ) (det : Det) (m : Memory) → MatchesEntries past p m → is_some (fin.get m.log det) ≡ true → length past < 16777216 → listed_in past ≤ 268435456 → Rows.first_fault n past (Stable det) ≡ None
unfolding Rows.rows_within
stable_legal n past p det m fit logged short within = grind (arith, all_at (is_delivered past) (fin.keys m.log) det, keys_logged)

-- the stable entry of a determinant that an up process of a run logs is legal
pub stable_may : (r : Run) (p : Pid) (det : Det) → AllMatchEntries r.recording.processes r.recording.past (memories_of r) → p.0 < r.recording.processes → is_some (present_at (memories_of r) p.0) ≡ true → is_some (fin.get (log_at (memories_of r) p.0) det) ≡ true → length r.recording.past < 16777216 → IsWellFormed r.recording
    → Rows.first_fault r.recording.processes r.recording.past (Stable det) ≡ None
stable_may r p det fit process up logged short formed = grind (arith, stable_legal, formed_short)

-- after p marked the determinant, the memories are those of the run with its stable entry
pub stable_held : (r : Run) (ms : Memories) (p : Pid) (det : Det) → IsRunData r ms → p.0 < r.recording.processes → Rows.first_fault r.recording.processes r.recording.past (Stable det) ≡ None → IsRunData (extend_run r (Requests.Flush p) (Stable det ∷ [])) (update_at (with_log (λ log. after_mark log det)) ms p.0)
unfolding memories
stable_held r ms p det run_data process next =
    grind (
      arith,
      all_fit_set r.recording.processes r.recording.past (Stable det ∷ r.recording.past) ms p.0,
      fits_other,
      fits_option,
      formed_push r.recording,
    )

-- one more entry of a flush
flushed_more : (r : Run) (p : Pid) (es : List Entry) (e : Entry) → extend_run (extend_run r (Requests.Flush p) es) (Requests.Flush p) (e ∷ []) ≡ extend_run r (Requests.Flush p) (es ++ e ∷ [])
flushed_more r p es e =
    let longer : length (es ++ e ∷ []) ≡ suc (length es) = omega (arith, length-append es (e ∷ [])) in
    let more : replicate (length (es ++ e ∷ [])) p ≡ p ∷ replicate (length es) p = ap (λ k. replicate k p) longer in
    grind (arith, pushed_last es e r.recording.past, more)

-- one more written determinant
pub flushed_one : (r mid next : Run) (p : Pid) (dets : List Det) (i : ℕ) (d det : Det) → i < length dets → det ≡ get_or dets i d → mid ≡ extend_run r (Requests.Flush p) (map Stable (take i dets)) → next ≡ extend_run mid (Requests.Flush p) (Stable det ∷ [])
    → next ≡ extend_run r (Requests.Flush p) (map Stable (take (i + 1) dets))
flushed_one r mid next p dets i d det h is before one = grind (arith, flushed_more, map_more Stable dets i d h)

pub at-changed : (g : Memory → Memory) (ms : Memories) (p : ℕ) → present_at (update_at g ms p) p ≡ option_map g (present_at ms p)
at-changed g [] p = grind arith
at-changed g (each ∷ others) p = grind (arith, at-changed g others)

-- whether a process logs all of these
abbrev logs_all : Option Memory → List Det → Bool
logs_all o ds = list_all (λ d. is_some (fin.get (unwrap_or o (memory_at [] 0)).log d)) ds

-- what is logged is still logged after one determinant is marked
all_marked_at : (o : Option Memory) (det : Det) (ds : List Det) → is_some o ≡ true → logs_all o ds ≡ true → logs_all (option_map (with_log (λ log. after_mark log det)) o) ds ≡ true
all_marked_at None det ds up h = grind arith
all_marked_at (Some m) det ds up h = all_more _ (λ d. is_some (fin.get (after_mark m.log det) d)) ds (λ d was. grind (arith, was, get_marked m.log det d)) h

-- after a determinant was written, the process is still up and logs everything that it logged
module _ (r next : Run) (p : Pid) (det : Det) (run : next ≡ extend_run r (Requests.Flush p) (Stable det ∷ [])) (up : is_some (present_at (memories_of r) p.0) ≡ true) where
  here : present_at (memories_of next) p.0 ≡ option_map (with_log (λ log. after_mark log det)) (present_at (memories_of r) p.0)
  unfolding memories
  here = ap (λ x. present_at (memories_of x) p.0) run ∙ at-changed (with_log (λ log. after_mark log det)) (memories_of r) p.0

  pub still_up : is_some (present_at (memories_of next) p.0) ≡ true
  still_up = grind (arith, here)

  pub still_logged : (ds : List Det) → list_all (λ d. is_some (fin.get (log_at (memories_of r) p.0) d)) ds ≡ true → list_all (λ d. is_some (fin.get (log_at (memories_of next) p.0) d)) ds ≡ true
  still_logged ds h = ap (λ o. logs_all o ds) here ∙ all_marked_at (present_at (memories_of r) p.0) det ds up h

unwritten_of : (o : Option Memory) → logs_all o (option_map_or (λ m. unstable_in m.log) o []) ≡ true
unwritten_of o = grind (arith, all_from, unstable_listed)

-- the determinants that a flush has to write are logged
pub unwritten_logged : (r : Run) (p : Pid) → list_all (λ d. is_some (fin.get (log_at (memories_of r) p.0) d)) (dets_to_flush r p) ≡ true
unwritten_logged r p = unwritten_of (present_at (memories_of r) p.0)

-- if a flush is not refused, its process is one of the run and up, and the trace has capacity for its entries
pub flush_may : (r : Run) (p : Pid) → request_fault r (Requests.Flush p) ≡ None → (p.0 < r.recording.processes) × (is_some (present_at (memories_of r) p.0) ≡ true) × (length r.recording.past + length (dets_to_flush r p) ≤ 16777216)
unfolding request_refusals
flush_may r p none = grind arith

-- a flush that is not refused is a legal step
pub flush_steps : (r mid next : Run) (p : Pid) (dets : List Det) (told : Result ℕ FlushFault) → mid ≡ r → request_fault r (Requests.Flush p) ≡ None → dets ≡ dets_to_flush r p → next ≡ extend_run mid (Requests.Flush p) (map Stable (take (written_count told) dets))
    → IfOk told (λ count. count ≡ length dets) → IfErr told (λ f. f.done < length dets) → IfErr told (λ f. flush_reason_of f.fault ≡ None) → Steps r (Requests.Flush p) (reply_of_flush told) next
unfolding LegalStep
flush_steps r mid next p dets told h h2 h3 h4 h5 h6 h7 = grind (arith, take_all)

-- a flush that is refused before it writes is not refused with a fault of the store
pub refusal_stores : (r : Run) (p : Pid) (fault : CoreFault) → request_fault r (Requests.Flush p) ≡ reason_of fault → fault ≡ Faults.StoreFault → ⊥
unfolding request_refusals
refusal_stores r p fault h is = grind arith

-- a refused flush is a legal step too
pub flush_refused : (r next : Run) (p : Pid) (fault : CoreFault) → next ≡ r → request_fault r (Requests.Flush p) ≡ reason_of fault → Steps r (Requests.Flush p) (Replies.FlushRefused (record { fault = fault; done = 0 })) next
unfolding LegalStep
flush_refused r next p fault same reason = grind (arith, refusal_stores)

-- a fault of the store before anything is written is a legal step too
pub store_fault_first : (r : Run) (p : Pid) → HasUnflushed r p → Steps r (Requests.Flush p) (Replies.FlushRefused (record { fault = Faults.StoreFault; done = 0 })) r
unfolding LegalStep
store_fault_first r p due = record { appended = []; grown = refl; legal = (due.legal, due.some, refl) }
