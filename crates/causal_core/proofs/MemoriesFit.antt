-- Memories match the entries after one more entry, and the facts about a request that is not refused.
use Rattle.std.proofs.Common.{ℕ, ◌≡◌, ◌≢◌, ◌<◌, Bool, true, false, ◌==◌, List, [], ◌∷◌, Option, Some, None, refl, arith, slice_set, length-set, subst, slice_get}
use Rattle.std.specs.List.{list_all}
use Rattle.std.specs.FinMap as fin
use Rattle.std.proofs.lemmas.Bool.{and_parts, or_right}
use Rattle.causal_name.specs.declared.Det.{Det}
use Rattle.causal_name.proofs.Lemmas.DetOrder.{same_itself}
use Rattle.causal_trace.specs.declared.entry.Entry.{Entry}
use Rattle.causal_trace.specs.declared.entry.Entry.TheVariants.{Send, Deliver, Stable, Crash, Restart, Forget}
use Rattle.causal_trace.specs.Past.{entry_at, is_delivered, det_of, is_det, list_has, is_down}
use Rattle.causal_trace.specs.Rows.{are_delivered, IsWellFormed}
use Rattle.causal_trace.proofs.Lemmas.Instants.{entry_beyond}
use Rattle.causal_protocol.specs.Memory.{SentMessage, Memory, Memories}
use Rattle.causal_core.proofs.Lemmas.Slices.{slice_get-set_same, slice_get-set_other}
use Rattle.causal_core.specs.Inside.MemoryInvariant.{IsSentAt, MatchesEntriesAt, AllMatchEntries, IsRunData}
use Rattle.std.specs.Prelude.{is_some, unwrap_or}
use Rattle.std.specs.Option.{option_and_then}
use Rattle.causal_name.specs.declared.Pid.{Pid}
use Rattle.causal_trace.specs.Rows as Rows
use Rattle.causal_trace.proofs.Lemmas.WellFormed.{formed_push, formed_short}
use Rattle.causal_protocol.specs.declared.request.CoreFault.{CoreFault}
use Rattle.causal_protocol.specs.declared.request.CoreFault.TheVariants as Faults
use Rattle.causal_protocol.specs.declared.request.Request.{Request}
use Rattle.causal_protocol.specs.declared.request.Request.TheVariants as Requests
use Rattle.causal_protocol.specs.Run.{Run, memories, memories_of}
use Rattle.causal_protocol.specs.Refusals.{request_refusals, request_fault}
use Rattle.causal_protocol.specs.Steps.{reason_of, extend_run}

-- whether an entry belongs to process p
abbrev pub is_of : ℕ → Entry → Bool
is_of p (Send from to ssn) = from.0 == p
is_of p (Deliver to send rsn listed) = to.0 == p
is_of p (Stable det) = false
is_of p (Crash who) = who.0 == p
is_of p (Restart who listed) = who.0 == p
is_of p (Forget who listed) = who.0 == p

-- a list of determinants passes a test if each of its members does
pub all_from : (P : Det → Bool) (ds : List Det) → ((d : Det) → list_has ds d ≡ true → P d ≡ true) → list_all P ds ≡ true
all_from P [] h = refl
all_from P (d ∷ ds) h = grind (arith, all_from P ds, same_itself)

-- and then each of its members passes
pub all_at : (P : Det → Bool) (ds : List Det) (d : Det) → list_all P ds ≡ true → list_has ds d ≡ true → P d ≡ true
all_at P [] d all there = grind arith
all_at P (x ∷ ds) d all there = grind (arith, all_at P ds d, and_parts)

-- so a list of some of them passes too
pub all_within : (P : Det → Bool) (ds some : List Det) → ((d : Det) → list_has some d ≡ true → list_has ds d ≡ true) → list_all P ds ≡ true → list_all P some ≡ true
all_within P ds some within all = all_from P some (λ d there. all_at P ds d all (within d there))

-- a list that passes a test passes each weaker test
pub all_more : {X : Type 0} (f g : X → Bool) (xs : List X) → ((x : X) → f x ≡ true → g x ≡ true) → list_all f xs ≡ true → list_all g xs ≡ true
all_more f g [] more h = refl
all_more f g (x ∷ xs) more h = grind (arith, all_more f g xs more (and_parts (f x) (list_all f xs) h).1)

module _ (e : Entry) (past : List Entry) where
  -- a determinant that was delivered is delivered after one more entry
  pub delivered_more : (ds : List Det) → are_delivered past ds ≡ true → are_delivered (e ∷ past) ds ≡ true
  delivered_more ds h = all_more (is_delivered past) (is_delivered (e ∷ past)) ds (λ d is. or_right (is_det (det_of past e) d) (is_delivered past d) is) h

  pub entry_older : (i : ℕ) (x : Entry) → entry_at past i ≡ Some x → entry_at (e ∷ past) i ≡ Some x
  entry_older i x h = grind (arith, entry_beyond)

  -- a kept message is still the one of its send entry
  pub placed_more : (p ssn : ℕ) (k : SentMessage) → IsSentAt past p ssn k → IsSentAt (e ∷ past) p ssn k
  placed_more p ssn k is = grind (arith, entry_older, delivered_more)

  -- the memory of each other process still matches
  pub fits_other : (p : ℕ) → is_of p e ≡ false → (m : Option Memory) → MatchesEntriesAt past p m → MatchesEntriesAt (e ∷ past) p m
  fits_other p apart None down = grind arith
  fits_other p apart (Some m) fits = grind (arith, delivered_more (fin.keys m.log), placed_more)

-- if only the memory of p changes, it is enough that p's new memory matches
pub all_fit_set : (n : ℕ) (old new : List Entry) (ms : Memories) (p : ℕ) (m : Option Memory) → p < n → AllMatchEntries n old ms → ((q : ℕ) (o : Option Memory) → q ≢ p → MatchesEntriesAt old q o → MatchesEntriesAt new q o) → MatchesEntriesAt new p m → AllMatchEntries n new (slice_set ms p m)
all_fit_set n old new ms p m inside fit others own = grind (arith, length-set, slice_get-set_same, slice_get-set_other)

-- a fault that is a refusal is not `NoMemory`
pub tells_reason : (r : Run) (request : Request) (fault : CoreFault) → request_fault r request ≡ Some fault → request_fault r request ≡ reason_of fault
unfolding request_refusals
tells_reason r request fault h = grind arith

-- the refusal that applies, or `NoMemory` if none does
pub reason_or : (r : Run) (request : Request) (o : Option CoreFault) → o ≡ request_fault r request → request_fault r request ≡ reason_of (unwrap_or o Faults.NoMemory)
reason_or r request o h = grind (arith, tells_reason)

-- the value of an option that has one
pub there : {X : Type 0} (o : Option X) → is_some o ≡ true → (x : X) × (o ≡ Some x)
there o h = grind arith

-- the sender of a message that is kept is up, and keeps it
pub kept_by : (ssn : ℕ) (o : Option Memory) (k : SentMessage) → option_and_then (λ m. slice_get m.sent ssn) o ≡ Some k → (m : Memory) × (o ≡ Some m) × (slice_get m.sent ssn ≡ Some k)
kept_by ssn None k h = absurd (let e : None ≡ Some k = h in cc)
kept_by ssn (Some m) k h = (m, refl, h)

-- the memories of a run match its entries if they are those of the run data
pub held_fit : (r : Run) (ms : Memories) → IsRunData r ms → AllMatchEntries r.recording.processes r.recording.past (memories_of r)
held_fit r ms run_data = subst (AllMatchEntries r.recording.processes r.recording.past) run_data.same run_data.fit

-- a process whose memory matches the entries is not down in them
pub fits_up : (past : List Entry) (p : ℕ) (m : Option Memory) → MatchesEntriesAt past p m → is_some m ≡ true → is_down past p ≡ false
fits_up past p m h h2 = grind arith

-- if the runtime does not refuse a crash, its entry is legal in the trace
pub crash_legal : (r : Run) (p : Pid) → AllMatchEntries r.recording.processes r.recording.past (memories_of r) → IsWellFormed r.recording → request_fault r (Requests.Crash p) ≡ None → (p.0 < r.recording.processes) × (Rows.first_fault r.recording.processes r.recording.past (Crash p) ≡ None)
unfolding request_refusals Rows.rows_within
crash_legal r p fit formed none = grind (arith, formed_short)

-- after p's memory was dropped, the memories are those of the run with the crash
pub crash_held : (r : Run) (ms : Memories) (p : Pid) → IsRunData r ms → p.0 < r.recording.processes → Rows.first_fault r.recording.processes r.recording.past (Crash p) ≡ None → IsRunData (extend_run r (Requests.Crash p) (Crash p ∷ [])) (slice_set ms p.0 None)
unfolding memories
crash_held r ms p run_data process next =
    grind (arith, all_fit_set r.recording.processes r.recording.past (Crash p ∷ r.recording.past) ms p.0, fits_other, formed_push r.recording)
