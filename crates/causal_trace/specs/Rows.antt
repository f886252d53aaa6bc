-- Legal entries, the errors of others in order, and well-formed recordings.
use Rattle.std.specs.Prelude.{◌≡◌, ℕ, ◌+◌, ◌≤◌, Bool, false, not, ◌==◌, ◌&&◌, ◌||◌, nat_lt, nat_le, if◌then◌else◌, List, [], ◌∷◌, length, Option, Some, None, MatchBool, unwrap_or}
use Rattle.std.specs.List.{list_all}
use Rattle.std.specs.Option.{option_map, option_map_or}
use Rattle.causal_name.specs.declared.Det.{Det}
use Rattle.causal_trace.specs.declared.entry.Entry.{Entry}
use Rattle.causal_trace.specs.declared.entry.Entry.TheVariants.{Send, Deliver, Stable, Crash, Restart, Forget}
use Rattle.causal_trace.specs.declared.fault.TraceFault.{TraceFault}
use Rattle.causal_trace.specs.declared.fault.TraceFault.TheVariants.{Processes, NoMemory, TooLong, NoProcess, NotUp, NotDown, Lanes, WrongSsn, NoSend, WrongRsn, Doubled, Unsorted, NoDelivery}
use Rattle.causal_trace.specs.Limits.{max_entries, max_listed, max_restarts, default_entries, listed_limit, restart_limit, is_process_count, IsProcessCount}
use Rattle.causal_name.specs.Names.{is_ascending}
use Rattle.causal_trace.specs.Past.{is_down, sends, deliveries, message_at, is_sent_to, det_of, is_det, is_delivered, has_delivered, listed_by, listed_in, restarts}

-- whether one more entry with this many listed determinants would exceed a limit of any trace
abbrev pub exceeds_any_limit : List Entry → ℕ → Bool
exceeds_any_limit past listed = nat_lt max_entries (length past + 1) || nat_lt max_listed (listed_in past + listed)

-- whether one more entry would exceed a limit of a trace of at most `entries` entries
abbrev pub exceeds : ℕ → List Entry → ℕ → Bool
exceeds entries past listed = nat_lt entries (length past + 1) || nat_lt (listed_limit entries) (listed_in past + listed)

-- whether each determinant is that of a delivery
abbrev pub are_delivered : List Entry → List Det → Bool
are_delivered past listed = list_all (is_delivered past) listed

-- whether each determinant is that of a delivery, or `own`
abbrev pub are_delivered_with : List Entry → Option Det → List Det → Bool
are_delivered_with past own listed = list_all (λ d. is_det own d || is_delivered past d) listed

-- The refusal rows of an entry that follows this past in a run of n processes with at most `most` restarts. A row is a
-- test and the error if it holds; the rows are checked in this order.
unfoldable pub rows_within : ℕ → ℕ → List Entry → Entry → List (Bool × TraceFault)
rows_within most n past (Send from to ssn) =
    (exceeds_any_limit past 0, TooLong)
    ∷ (not (nat_lt from.0 n && nat_lt to.0 n), NoProcess)
    ∷ (is_down past from.0, NotUp)
    ∷ (not (ssn == sends past from.0), WrongSsn)
    ∷ []
rows_within most n past (Deliver to send rsn listed) =
    (exceeds_any_limit past (length listed), TooLong)
    ∷ (not (nat_lt to.0 n), NoProcess)
    ∷ (is_down past to.0, NotUp)
    ∷ (not (is_sent_to past send to.0), NoSend)
    ∷ (not (rsn == deliveries past to.0), WrongRsn)
    ∷ (option_map_or (has_delivered past to.0) (message_at past send) false, Doubled)
    ∷ (not (is_ascending listed), Unsorted)
    ∷ (not (are_delivered_with past (det_of past (Deliver to send rsn listed)) listed), NoDelivery)
    ∷ []
rows_within most n past (Stable det) =
    (exceeds_any_limit past 0, TooLong)
    ∷ (not (is_delivered past det), NoDelivery)
    ∷ []
rows_within most n past (Crash who) =
    (exceeds_any_limit past 0, TooLong)
    ∷ (not (nat_lt who.0 n), NoProcess)
    ∷ (is_down past who.0, NotUp)
    ∷ []
rows_within most n past (Restart who listed) =
    (exceeds_any_limit past (length listed), TooLong)
    ∷ (not (nat_lt who.0 n), NoProcess)
    ∷ (not (is_down past who.0), NotDown)
    ∷ (nat_le most (restarts past), Lanes)
    ∷ (not (is_ascending listed), Unsorted)
    ∷ (not (are_delivered past listed), NoDelivery)
    ∷ []
rows_within most n past (Forget who listed) =
    (exceeds_any_limit past (length listed), TooLong)
    ∷ (not (nat_lt who.0 n), NoProcess)
    ∷ (is_down past who.0, NotUp)
    ∷ (not (is_ascending listed), Unsorted)
    ∷ (not (are_delivered past listed), NoDelivery)
    ∷ []

-- the refusal rows of any trace
abbrev pub refusal_rows : ℕ → List Entry → Entry → List (Bool × TraceFault)
refusal_rows n past e = rows_within max_restarts n past e

-- the error of the first row that holds
abbrev pub first_refusal : List (Bool × TraceFault) → Option TraceFault
first_refusal [] = None
first_refusal (row ∷ rest) = if row.0 then Some row.1 else first_refusal rest

-- the first error of an entry; None if the entry is legal
abbrev pub first_fault : ℕ → List Entry → Entry → Option TraceFault
first_fault n past e = first_refusal (refusal_rows n past e)

-- the error of a refused start of n processes: `NoMemory` if n is in range, otherwise `Processes`
abbrev pub IsNewRefusal : ℕ → TraceFault → Type 0
IsNewRefusal n fault = MatchBool (is_process_count n) (fault ≡ NoMemory) (fault ≡ Processes)

-- each entry is legal after the entries before it
abbrev pub AreLegalEntries : ℕ → List Entry → Type 0
AreLegalEntries n [] = Unit {0}
AreLegalEntries n (e ∷ past) = AreLegalEntries n past × (first_fault n past e ≡ None)

-- a recorded run: the number of processes, and the entries, newest first
pub record Recording : Type 0 where
  pub processes : ℕ
  pub past : List Entry

-- the number of processes is in range, and each entry is legal where it is
pub record IsWellFormed (r : Recording) : Type 0 where
  pub count : IsProcessCount r.processes
  pub accepted : AreLegalEntries r.processes r.past

-- the first error of an entry that follows a recording, under the limits of any trace; None if it is legal
abbrev pub fault_by_refusal_rows : Recording → Entry → Option TraceFault
fault_by_refusal_rows r e = first_fault r.processes r.past e

-- the first error under a limit of restarts, and the other limits of any trace
abbrev pub fault_by_rows_within : ℕ → Recording → Entry → Option TraceFault
fault_by_rows_within most r e = first_refusal (rows_within most r.processes r.past e)

-- the first error under the limits of at most `entries` entries; those of entries and lists are checked before the rows
abbrev pub fault_within : ℕ → Recording → Entry → Option TraceFault
fault_within entries r e = if exceeds entries r.past (length (listed_by e)) then Some TooLong else fault_by_rows_within (restart_limit entries) r e

-- the error of a refused entry: its first error, or `NoMemory` if it is legal
abbrev pub refusal_within : ℕ → Recording → Entry → TraceFault
refusal_within entries r e = unwrap_or (fault_within entries r e) NoMemory

-- the entry that comes back with a refusal: the entry itself if it has a first error, None if memory was refused
abbrev pub returned_entry : ℕ → Recording → Entry → Option Entry
returned_entry entries r e = option_map (λ _. e) (fault_within entries r e)

-- the first error under the default limits
abbrev pub fault_next : Recording → Entry → Option TraceFault
fault_next r e = fault_within default_entries r e

-- the error of a refused entry under the default limits
abbrev pub refusal_next : Recording → Entry → TraceFault
refusal_next r e = refusal_within default_entries r e

-- a recording of at most `entries` entries, with at most the listed determinants and the restarts that this limit allows
pub record FitsLimits (entries : ℕ) (r : Recording) : Type 0 where
  pub few : length r.past ≤ entries
  pub listed : listed_in r.past ≤ listed_limit entries
  pub restarted : restarts r.past ≤ restart_limit entries
