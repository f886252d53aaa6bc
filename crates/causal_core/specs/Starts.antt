-- The start of a core: when it is refused, and what it records.
use Rattle.std.specs.Prelude.{◌≡◌, ◌+◌, ℕ, nat_lt, not, if◌then◌else◌, List, [], ◌∷◌, length, map, Option, Some, None}
use Rattle.causal_process.specs.declared.message.Input.{Input}
use Rattle.causal_process.specs.declared.message.Outgoing.{Outgoing}
use Rattle.causal_log.specs.Stores.{DetSet, count_in}
use Rattle.causal_trace.specs.declared.entry.Entry.{Entry}
use Rattle.causal_trace.specs.Limits.{is_process_count}
use Rattle.causal_protocol.specs.Run.{Run}
use Rattle.causal_protocol.specs.Runs.{HaveBegunBelow}
use Rattle.causal_protocol.specs.Steps.{append_all, sends_of}
use Rattle.causal_core.specs.declared.start.StartFault.{StartFault}
use Rattle.causal_core.specs.declared.start.StartFault.TheVariants as Why
use Rattle.causal_core.specs.Boxes.{BoxesBegan}
use Rattle.causal_core.specs.View.{receivers, sent_bodies}
use Rattle.causal_core.specs.CoreView.{CoreState}

-- the first refusal that applies to a start of n processes over a store with these members
abbrev pub start_fault : ℕ → DetSet → Option StartFault
start_fault n stored = if not (is_process_count n) then Some Why.Processes else if nat_lt 0 (count_in stored) then Some Why.StoreNotEmpty else None

-- the refusal that a fault means: none for `NoMemory`, which requires that none applies
abbrev pub start_reason_of : StartFault → Option StartFault
start_reason_of Why.NoMemory = None
start_reason_of fault = Some fault

-- the fault of a refused start is the first refusal that applies, or `NoMemory` if none does
abbrev pub IsStartReason : ℕ → DetSet → StartFault → Type 0
IsStartReason n stored fault = start_fault n stored ≡ start_reason_of fault

-- each of n processes has begun, in order, and nothing else is recorded
abbrev pub IsOpening : ℕ → List Entry → Type 0
IsOpening n past = HaveBegunBelow n n past

-- the entries after process p of a run of n processes begins and sends these
abbrev pub with_beginning : ℕ → ℕ → List Outgoing → List Entry → List Entry
with_beginning n p sends past = append_all (sends_of (record { 0 = p }) 0 (receivers n sends)) past

-- the entries after each of the processes from p on begins, in order, with its sends
unfoldable pub with_beginnings : ℕ → ℕ → List (List Outgoing) → List Entry → List Entry
with_beginnings n p [] past = past
with_beginnings n p (sends ∷ rest) past = with_beginnings n (p + 1) rest (with_beginning n p sends past)

-- a run of n processes with the bound f that has these entries and no stable ones
abbrev pub opening : ℕ → ℕ → List Entry → Run
opening n f past = record { recording = record { processes = n; past = past }; faults = f; writers = [] }

module _ {B : Type 0} (answers : B → List Input → List (List Outgoing)) where
  -- each box has begun, in order of number, and is in its slot; its sends are its first answer; those to processes are
  -- recorded, and their bodies kept
  pub record Starts (f : ℕ) (boxes : List B) (core : CoreState B) : Type 0 where
    pub sends : List (List Outgoing)
    pub began : BoxesBegan answers boxes sends core.slots
    pub run : core.run ≡ opening (length boxes) f (with_beginnings (length boxes) 0 sends [])
    pub bodies : core.bodies ≡ map (sent_bodies (length boxes)) sends
