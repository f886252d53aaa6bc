-- The processes of a core begin, one after the other.
use Rattle.std.specs.Prelude.{◌≡◌, ◌≢◌, ◌<◌, ◌≤◌, ◌+◌, ◌-◌, ◌*◌, ℕ, List, [], ◌∷◌, ◌++◌, length, map, replicate, Option, Some, slice_set}
use Rattle.std.specs.FinMap as fin
use Rattle.causal_process.specs.declared.message.Input.{Input}
use Rattle.causal_process.specs.declared.message.Input.TheVariants.{Begin}
use Rattle.causal_process.specs.declared.message.Outgoing.{Outgoing}
use Rattle.causal_protocol.specs.Memory.{new_memory, present_at}
use Rattle.causal_protocol.specs.Run.{Run, memories_of}
use Rattle.causal_protocol.specs.Runs.{HaveBegunBelow}
use Rattle.causal_core.specs.Boxes.{BoxesBegan, prepend_answer, box_answers}
use Rattle.causal_core.specs.View.{RunDataState, sent_bodies}
use Rattle.causal_core.specs.Starts.{with_beginning, with_beginnings, opening}
use Rattle.causal_trace.specs.Limits.{max_entries, max_processes}

-- the run after process p begins with these sends
abbrev pub run_after_begin : Run → ℕ → List Outgoing → Run
run_after_begin r p sends = record r { recording = record { processes = r.recording.processes; past = with_beginning r.recording.processes p sends r.recording.past } }

-- the next process, p, can begin: it has done nothing yet, and the entries are far enough from their limit for its
-- sends
pub record CanBegin (p : ℕ) (r : Run) : Type 0 where
  pub process : p < r.recording.processes
  pub number : r.recording.processes ≤ max_processes
  pub fresh_yet : present_at (memories_of r) p ≡ Some (new_memory fin.empty)
  pub short : length r.recording.past + 8 ≤ max_entries

-- process p has begun with these sends, and no other memory has changed
pub record BeginsWithSends (p : ℕ) (sends : List Outgoing) (old new : RunDataState) : Type 0 where
  pub run : new.run ≡ run_after_begin old.run p sends
  pub bodies : new.bodies ≡ slice_set old.bodies p (sent_bodies old.run.recording.processes sends)
  pub others : (q : ℕ) → q ≢ p → present_at (memories_of new.run) q ≡ present_at (memories_of old.run) q

module _ {B : Type 0} (answers : B → List Input → List (List Outgoing)) where
  -- a box begins as the next process, and is in the next slot
  pub record Begins (b : B) (old new : List (Option B)) (was is : RunDataState) : Type 0 where
    pub sends : List Outgoing
    pub few : length sends ≤ 8
    pub slot : Option B
    pub slots : new ≡ old ++ slot ∷ []
    pub box : (inputs : List Input) → Some (answers b (Begin ∷ inputs)) ≡ prepend_answer sends (box_answers answers slot inputs)
    pub told : BeginsWithSends (length old) sends was is

  -- these boxes have begun, and the other processes of n have not
  pub record HaveBegun (n f : ℕ) (boxes : List B) (slots : List (Option B)) (d : RunDataState) : Type 0 where
    pub sends : List (List Outgoing)
    pub began : BoxesBegan answers boxes sends slots
    pub run : d.run ≡ opening n f (with_beginnings n 0 sends [])
    pub bodies : d.bodies ≡ map (sent_bodies n) sends ++ replicate (n - length boxes) []
    pub fresh_yet : (q : ℕ) → length boxes ≤ q → q < n → present_at (memories_of d.run) q ≡ Some (new_memory fin.empty)
    pub short : length d.run.recording.past ≤ length boxes * 8
    pub opens : HaveBegunBelow n (length boxes) d.run.recording.past

  -- these boxes have begun, and they are all
  abbrev pub HaveAllBegun : ℕ → List B → List (Option B) → RunDataState → Type 0
  HaveAllBegun f boxes slots d = HaveBegun (length boxes) f boxes slots d
