-- What an up process knows of holders and marks, in closed form.
-- It is all that its present lane (incarnation) contributed by deliveries, its restart and flushes, since the process
-- last forgot the determinant.
use Rattle.std.specs.Prelude.{◌≡◌, ◌↔◌, ◌⊎◌, ℕ, zero, suc, Bool, true, false, ◌&&◌, ◌==◌, List, [], ◌∷◌, Option, Some, drop, take, slice_get, is_some}
use Rattle.std.specs.List.{list_any}
use Rattle.causal_name.specs.declared.Pid.{Pid}
use Rattle.causal_name.specs.declared.MsgName.{MsgName}
use Rattle.causal_name.specs.declared.Det.{Det}
use Rattle.causal_name.specs.Names.{same_det}
use Rattle.causal_trace.specs.declared.entry.Entry.{Entry}
use Rattle.causal_trace.specs.declared.entry.Entry.TheVariants.{Deliver, Stable, Crash, Restart, Forget}
use Rattle.causal_trace.specs.Past.{list_has, is_stable, message_at, det_from}
use Rattle.causal_log.specs.declared.batch.Item.{Item}
use Rattle.causal_protocol.specs.Memory.{present_at, batch_of}
use Rattle.causal_protocol.specs.Run.{Run, memories_of, older_writers}
use Rattle.causal_protocol.specs.Refusals.{restart_list}
use Rattle.causal_protocol.specs.MemoryQueries.{memory_logs, knows_holder, knows_stable, has_item, item_holder}

-- the writers of the stable entries older than the k newest entries
unfoldable pub writers_before : ℕ → List Entry → List Pid → List Pid
writers_before zero past writers = writers
writers_before (suc k) [] writers = writers
writers_before (suc k) (e ∷ past) writers = writers_before k past (older_writers e writers)

-- the run before its k newest entries
abbrev pub run_before : ℕ → Run → Run
run_before k r = record r {
  recording = record { processes = r.recording.processes; past = drop k r.recording.past };
  writers = writers_before k r.recording.past r.writers;
}

-- the run before the entry that `since` newer ones follow
abbrev pub before : ℕ → Run → Run
before since r = run_before (suc since) r

-- who wrote the newest stable entry up to that entry
abbrev pub writer_at : ℕ → Run → Option Pid
writer_at since r = slice_get (writers_before since r.recording.past r.writers) 0

-- some up process knows that q holds d; some up process knows that d is stable
abbrev pub IsKnownHolder : Run → Det → ℕ → Type 0
IsKnownHolder r d q = (s : ℕ) × (knows_holder (memories_of r) s d q ≡ true)

abbrev pub IsKnownStable : Run → Det → Type 0
IsKnownStable r d = (s : ℕ) × (knows_stable (memories_of r) s d ≡ true)

-- a message with these items, delivered with determinant `own`, makes q a known holder of d: an item of d names q; or
-- an item is of d, and q is the sender or the receiver; or d is `own`, and q is the receiver
abbrev pub MessageImpliesHolder : List Item → Det → Det → ℕ → Type 0
MessageImpliesHolder items own d q =
    (item_holder d q items ≡ true)
    ⊎ (((has_item d items ≡ true) × ((q ≡ own.source.0) ⊎ (q ≡ own.dest.0))) ⊎ ((d ≡ own) × (q ≡ own.dest.0)))

-- the next entry contributes that q holds d to what p knows: a delivery to p whose message makes q a known holder; or
-- a restart of p, if it lists d and q is p, or if an up process knew it
abbrev pub ContributesHolder : ℕ → Det → ℕ → Run → Option Pid → Entry → Type 0
ContributesHolder p d q r by (Deliver to send rsn listed) =
    (to.0 ≡ p)
    × ((m : MsgName) × (message_at r.recording.past send ≡ Some m) × MessageImpliesHolder (batch_of (memories_of r) m) (det_from to rsn m) d q)
ContributesHolder p d q r by (Restart who listed) = (who.0 ≡ p) × (((list_has (restart_list r who) d ≡ true) × (q ≡ p)) ⊎ IsKnownHolder r d q)
ContributesHolder p d q r by _ = ⊥

-- the next entry contributes to what p knows that d is stable: p's flush wrote d, which p logs; or p restarts, and an
-- up process knew it or stable storage has d
abbrev pub ContributesMark : ℕ → Det → Run → Option Pid → Entry → Type 0
ContributesMark p d r by (Stable det) =
    ((w : Pid) × (by ≡ Some w) × (w.0 ≡ p)) × ((same_det d det ≡ true) × (memory_logs (memories_of r) p d ≡ true))
ContributesMark p d r by (Restart who listed) = (who.0 ≡ p) × ((is_stable r.recording.past d ≡ true) ⊎ IsKnownStable r d)
ContributesMark p d r by _ = ⊥

-- whether an entry erases what p knows of d: p crashes, restarts, or forgets d
abbrev pub erases_knowledge : ℕ → Det → Entry → Bool
erases_knowledge p d (Crash who) = who.0 == p
erases_knowledge p d (Restart who listed) = who.0 == p
erases_knowledge p d (Forget who listed) = who.0 == p && list_has listed d
erases_knowledge p d _ = false

-- an entry contributed to what p knows of d, and no later entry erased it
pub record IsContributed (Gives : Run → Option Pid → Entry → Type 0) (p : ℕ) (d : Det) (r : Run) : Type 0 where
  pub since : ℕ
  pub entry : Entry
  pub at_since : slice_get r.recording.past since ≡ Some entry
  pub gives : Gives (before since r) (writer_at since r) entry
  pub lasts : list_any (erases_knowledge p d) (take since r.recording.past) ≡ false

-- an up process knows exactly the holders that its lane contributed
abbrev pub HoldersAreContributed : Type 0
HoldersAreContributed =
    (r : Run) (p : ℕ) (d : Det) (q : ℕ) → is_some (present_at (memories_of r) p) ≡ true
    → (knows_holder (memories_of r) p d q ≡ true) ↔ IsContributed (ContributesHolder p d q) p d r

-- an up process knows to be stable exactly what its lane contributed as stable
abbrev pub MarksAreContributed : Type 0
MarksAreContributed =
    (r : Run) (p : ℕ) (d : Det) → is_some (present_at (memories_of r) p) ≡ true
    → (knows_stable (memories_of r) p d ≡ true) ↔ IsContributed (ContributesMark p d) p d r
