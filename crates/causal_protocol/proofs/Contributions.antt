-- An up process knows what its present lane contributed: a proof entry by entry.
use Rattle.std.proofs.Common.{arith, ℕ, zero, suc, ◌≡◌, inl, inr, Bool, true, false, ◌&&◌, ◌||◌, not, List, [], ◌∷◌, take, slice_get, slice_set, Option, Some, None, is_some, refl, sym, ap, subst, ◌∙◌}
use Rattle.std.specs.Prelude.{◌==◌, ◌⊎◌, ◌↔◌}
use Rattle.std.specs.List.{list_any}
use Rattle.std.specs.Option.{option_map}
use Rattle.std.specs.FinMap as fin
use Rattle.std.proofs.lemmas.Bool.{false≢true, both_ways}
use Rattle.std.proofs.lemmas.Bool.Decides.{eqb_tells}
use Rattle.causal_name.specs.declared.Pid.{Pid}
use Rattle.causal_name.specs.declared.MsgName.{MsgName}
use Rattle.causal_name.specs.declared.Det.{Det}
use Rattle.causal_trace.specs.declared.entry.Entry.{Entry}
use Rattle.causal_trace.specs.declared.entry.Entry.TheVariants.{Send, Deliver, Stable, Crash, Restart, Forget}
use Rattle.causal_trace.specs.Past.{list_has, message_at, det_from}
use Rattle.causal_log.specs.Logs.{LogMap, after_mark}
use Rattle.causal_protocol.specs.Memory.{Memory, Memories, present_at, new_memory, log_after_delivery, batch_of}
use Rattle.causal_protocol.specs.Gathering.{restart_log, without_dets}
use Rattle.causal_protocol.specs.Run.{Run, memories, memories_of, stable_of, memories_after, older_writers}
use Rattle.causal_protocol.specs.MemoryQueries.{log_at, log_knows_holder, log_knows_stable}
use Rattle.causal_protocol.specs.Contributions.{ContributesHolder, ContributesMark, HoldersAreContributed, IsContributed, MarksAreContributed, erases_knowledge, run_before, writers_before}
use Rattle.causal_protocol.proofs.Places.{log_first, log_here, set_elsewhere, put_here, changed_here}
use Rattle.causal_protocol.proofs.Lemmas.LogMembers.{none_holds, none_stable}
use Rattle.causal_protocol.proofs.LearnedLogs
use Rattle.causal_protocol.proofs.Choices

-- a fact in a log before and after an entry that contributes it or ends it
pub record Grows (Given : Type 0) (ended old new : Bool) : Type 0 where
  pub found : new ≡ true → Given ⊎ ((ended ≡ false) × (old ≡ true))
  pub fresh : Given → new ≡ true
  pub kept : ended ≡ false → old ≡ true → new ≡ true

steady : (Given : Type 0) (old new : Bool) → (Given → ⊥) → new ≡ old → Grows Given false old new
steady Given old new nothing same = record { found = λ h. inr (refl, sym same ∙ h); fresh = λ g. absurd (nothing g); kept = λ _ h. same ∙ h }

module _ (p : ℕ) (tells : LogMap → Bool) where
  -- the fact in p's log before and after an entry; p is up after it only if it was up before, or the entry ends the
  -- fact
  pub record Steps (Given : Type 0) (ended : Bool) (ms next : Memories) : Type 0 where
    pub up : ended ≡ false → is_some (present_at next p) ≡ true → is_some (present_at ms p) ≡ true
    pub log : is_some (present_at next p) ≡ true → Grows Given ended (tells (log_at ms p)) (tells (log_at next p))

  keeps : (Given : Type 0) (ended : Bool) (ms next : Memories) → (Given → ⊥) → ended ≡ false → present_at next p ≡ present_at ms p → Steps Given ended ms next
  unfolding log_at
  keeps Given ended ms next nothing is same = grind (arith, steady)

  loses : (Given : Type 0) (ended : Bool) (ms next : Memories) → present_at next p ≡ None → Steps Given ended ms next
  loses Given ended ms next none = grind (arith, false≢true)

  changes : (Given : Type 0) (ended : Bool) (g : Memory → Memory) (ms next : Memories) → present_at next p ≡ option_map g (present_at ms p) → ((m : Memory) → present_at ms p ≡ Some m → Grows Given ended (tells m.log) (tells ((g m).log))) → Steps Given ended ms next
  changes Given ended g ms next is grows = grind (arith, loses, log_here)

-- what the proof needs of each kind of entry
pub record Facts (p : ℕ) (d : Det) (tells : LogMap → Bool) (Gives : Run → Option Pid → Entry → Type 0) : Type 0 where
  pub lacks : tells fin.empty ≡ false
  pub sent : (r : Run) (by : Option Pid) (from to : Pid) (ssn : ℕ) → Gives r by (Send from to ssn) → ⊥
  pub crashed : (r : Run) (by : Option Pid) (who : Pid) → Gives r by (Crash who) → ⊥
  pub forgot : (r : Run) (by : Option Pid) (who : Pid) (listed : List Det) → Gives r by (Forget who listed) → ⊥
  pub receiver : (r : Run) (by : Option Pid) (to : Pid) (send rsn : ℕ) (listed : List Det) → Gives r by (Deliver to send rsn listed) → (to.0 ≡ p) × ((m : MsgName) × (message_at r.recording.past send ≡ Some m))
  pub writer : (r : Run) (by : Option Pid) (det : Det) → Gives r by (Stable det) → (w : Pid) × (by ≡ Some w) × (w.0 ≡ p)
  pub restarter : (r : Run) (by : Option Pid) (who : Pid) (listed : List Det) → Gives r by (Restart who listed) → who.0 ≡ p
  pub delivered : (r : Run) (by : Option Pid) (to : Pid) (send rsn : ℕ) (listed : List Det) (x : MsgName) (m : Memory) → to.0 ≡ p → message_at r.recording.past send ≡ Some x → Grows (Gives r by (Deliver to send rsn listed)) false (tells m.log) (tells (log_after_delivery (batch_of (memories_of r) x) (det_from to rsn x) m.log))
  pub written : (r : Run) (w : Pid) (det : Det) (m : Memory) → w.0 ≡ p → present_at (memories_of r) p ≡ Some m → Grows (Gives r (Some w) (Stable det)) false (tells m.log) (tells (after_mark m.log det))
  pub restarted : (r : Run) (by : Option Pid) (who : Pid) (listed : List Det) (old : Bool) → who.0 ≡ p → Grows (Gives r by (Restart who listed)) true old (tells (restart_log (memories_of r) (stable_of r) who))
  pub left : (listed : List Det) (log : LogMap) → tells (without_dets listed log) ≡ (not (list_has listed d) && tells log)

module _ (p : ℕ) (d : Det) (tells : LogMap → Bool) (Gives : Run → Option Pid → Entry → Type 0) (facts : Facts p d tells Gives) where
  abbrev Stepped : Run → Option Pid → Entry → Type 0
  Stepped r by e = Steps p tells (Gives r by e) (erases_knowledge p d e) (memories_of r) (memories_after r.faults by r.recording.past e (memories_of r))

  -- a delivery
  received : (r : Run) (by : Option Pid) (to : Pid) (send rsn : ℕ) (listed : List Det) (x : Option MsgName) → message_at r.recording.past send ≡ x → Stepped r by (Deliver to send rsn listed)
  received r by to send rsn listed None none = grind (arith, keeps)
  received r by to send rsn listed (Some x) sent =
      grind (arith, sent, eqb_tells to.0 p, changes, changed_here, keeps, set_elsewhere, facts.receiver r by to send rsn listed, facts.delivered r by to send rsn listed x)

  -- a restart of p
  returned : (r : Run) (by : Option Pid) (who : Pid) (listed : List Det) → (who.0 == p) ≡ true → who.0 ≡ p → Stepped r by (Restart who listed)
  returned r by who listed ended is =
      let ms = memories_of r in
      let log = restart_log ms (stable_of r) who in
      let next = slice_set ms who.0 (Some (new_memory log)) in
      elim (put_here ms who.0 (Some (new_memory log))) [
        | inl none ↦ loses p tells _ _ ms _ (subst (λ x. present_at next x ≡ None) is none.0)
        | inr some ↦
            let here = log_here next p (new_memory log) (subst (λ x. present_at next x ≡ Some (new_memory log)) is some) in
            let grows = facts.restarted r by who listed (tells (log_at ms p)) is in
            record { up = grind (arith, both_ways); log = λ _. rw (ended, here) grows }
      ]

  step : (r : Run) (by : Option Pid) (e : Entry) → Stepped r by e
  step r by (Send from to ssn) = grind (arith, eqb_tells from.0 p, changes, changed_here, steady, keeps, set_elsewhere, facts.sent)
  step r by (Deliver to send rsn listed) = received r by to send rsn listed (message_at r.recording.past send) refl
  step r None (Stable det) = grind (arith, keeps)
  step r (Some w) (Stable det) = grind (arith, eqb_tells w.0 p, changes, changed_here, keeps, set_elsewhere, facts.writer r (Some w) det, facts.written r w det)
  step r by (Crash who) = grind (arith, eqb_tells who.0 p, loses, put_here, keeps, set_elsewhere)
  step r by (Restart who listed) = grind (arith, eqb_tells who.0 p, returned, keeps, set_elsewhere)
  step r by (Forget who listed) = grind (arith, eqb_tells who.0 p, changes, changed_here, steady, keeps, set_elsewhere, facts.forgot, facts.left listed)

  abbrev run : ℕ → ℕ → List Pid → List Entry → Run
  run n f writers past = record { recording = record { processes = n; past = past }; faults = f; writers = writers }

  -- what was contributed stays contributed if the newest entry does not end it
  later : (n f : ℕ) (writers : List Pid) (e : Entry) (past : List Entry) → erases_knowledge p d e ≡ false → IsContributed Gives p d (run n f (older_writers e writers) past) → IsContributed Gives p d (run n f writers (e ∷ past))
  unfolding writers_before
  later n f writers e past lives c = record {
    since = suc c.since;
    entry = c.entry;
    at_since = c.at_since;
    gives = c.gives;
    lasts = ap (λ b. b || list_any (erases_knowledge p d) (take c.since past)) lives ∙ c.lasts;
  }

  pub known_contributed : (n f : ℕ) (writers : List Pid) (past : List Entry) → is_some (present_at (memories n f writers past) p) ≡ true → tells (log_at (memories n f writers past) p) ≡ true → IsContributed Gives p d (run n f writers past)
  unfolding memories writers_before
  known_contributed n f writers [] up h = absurd (both_ways _ (ap tells (log_first n p) ∙ facts.lacks) h)
  known_contributed n f writers (e ∷ past) up h =
      let s = step (run n f (older_writers e writers) past) (slice_get writers 0) e in
      elim ((s.log up).found h) [
        | inl given ↦ record { since = 0; entry = e; at_since = refl; gives = given; lasts = refl }
        | inr old ↦ later n f writers e past old.0 (known_contributed n f (older_writers e writers) past (s.up old.0 up) old.1)
      ]

  given_known : (n f : ℕ) (writers : List Pid) (past : List Entry) (k : ℕ) (entry : Entry) → is_some (present_at (memories n f writers past) p) ≡ true → slice_get past k ≡ Some entry
      → Gives (run_before (suc k) (run n f writers past)) (slice_get (writers_before k past writers) 0) entry → list_any (erases_knowledge p d) (take k past) ≡ false → tells (log_at (memories n f writers past) p) ≡ true
  unfolding memories writers_before
  given_known n f writers [] k entry up is given lasts = absurd (let no : None ≡ Some entry = is in cc)
  given_known n f writers (e ∷ past) zero entry up is given lasts = grind (arith, step (run n f (older_writers e writers) past) (slice_get writers 0) e)
  given_known n f writers (e ∷ past) (suc k) entry up is given lasts =
      grind (arith, step (run n f (older_writers e writers) past) (slice_get writers 0) e, given_known n f (older_writers e writers) past k entry)

  -- an up process knows exactly what was contributed
  pub known_exactly : (r : Run) → is_some (present_at (memories_of r) p) ≡ true → (tells (log_at (memories_of r) p) ≡ true) ↔ IsContributed Gives p d r
  known_exactly r up = (
    known_contributed r.recording.processes r.faults r.writers r.recording.past up,
    λ c. given_known r.recording.processes r.faults r.writers r.recording.past c.since c.entry up c.at_since c.gives c.lasts,
  )

-- the facts for holders
holder_facts : (p : ℕ) (d : Det) (q : ℕ) → Facts p d (log_knows_holder d q) (ContributesHolder p d q)
holder_facts p d q = grind (arith, steady, none_holds, LearnedLogs.told_holders_of, Choices.marked_holder, Choices.without_holder)

-- an up process knows exactly the holders that its present lane contributed
pub holders_are_contributed : HoldersAreContributed
holders_are_contributed r p d q up = known_exactly p d (log_knows_holder d q) (ContributesHolder p d q) (holder_facts p d q) r up

-- the facts for marks
mark_facts : (p : ℕ) (d : Det) → Facts p d (log_knows_stable d) (ContributesMark p d)
mark_facts p d = record {
  lacks = none_stable d;
  sent = λ r by from to ssn g. g;
  crashed = λ r by who g. g;
  forgot = λ r by who listed g. g;
  receiver = λ r by to send rsn listed g. absurd g;
  writer = λ r by det g. g.0;
  restarter = λ r by who listed g. g.0;
  delivered = λ r by to send rsn listed x m is sent. grind (arith, LearnedLogs.gained_mark);
  written = λ r w det m is here. grind (arith, log_here (memories_of r) p m here, Choices.marked_stable m.log det d);
  restarted = λ r by who listed old is. grind (arith, LearnedLogs.told_marks_of, Choices.stable_has r.recording.past d);
  left = λ listed log. Choices.without_stable listed log d;
}

-- an up process knows to be stable exactly what its present lane contributed as stable
pub marks_are_contributed : MarksAreContributed
marks_are_contributed r p d up = known_exactly p d (log_knows_stable d) (ContributesMark p d) (mark_facts p d) r up
