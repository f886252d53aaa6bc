-- Well-formed recordings, and one more entry.
use Rattle.std.proofs.Common.{ℕ, ◌≡◌, ◌+◌, ◌≤◌, true, false, cond, List, [], ◌∷◌, length, Some, None, arith}
use Rattle.std.specs.Prelude.{nat_lt, nat_le, ◌||◌, ◌/◌, min}
use Rattle.std.proofs.Math.Nat.{min-le_left}
use Rattle.causal_trace.specs.declared.entry.Entry.{Entry}
use Rattle.causal_trace.specs.declared.fault.TraceFault.TheVariants.{NoMemory}
use Rattle.causal_trace.specs.Past.{listed_in, listed_by, restarts}
use Rattle.causal_trace.specs.Rows.{Recording, rows_within, first_refusal, first_fault, fault_by_refusal_rows, fault_within, exceeds_any_limit, AreLegalEntries, IsWellFormed, FitsLimits}
use Rattle.causal_trace.specs.Limits.{default_entries, restart_limit}
use Rattle.causal_trace.specs.State.{with_entry}
use Rattle.causal_trace.specs.Bounds.{IsBounded}

-- an entry within the limits
pub within_limits : (n : ℕ) (past : List Entry) (e : Entry) → first_fault n past e ≡ None → exceeds_any_limit past (length (listed_by e)) ≡ false
unfolding rows_within
within_limits n past e h = grind arith

-- the limits of a run as inequalities
pub limits : (n a b : ℕ) → (nat_lt 16777216 (n + 1) || nat_lt 268435456 (a + b)) ≡ false → (n + 1 ≤ 16777216) × (a + b ≤ 268435456)
limits n a b h = grind arith

-- the restarts of a trace within limits are those of any trace
limit_below : (entries : ℕ) → restart_limit entries ≤ 65536
unfolding restart_limit
limit_below entries = elim (nat_le entries default_entries) as (λ b. cond b 192 (min 65536 (entries / 256)) ≤ 65536) [ true ↦ omega arith | false ↦ min-le_left 65536 (entries / 256) ]

-- an entry that is legal with this many restarts leaves a run within them
restarts_next : (most n : ℕ) (past : List Entry) (e : Entry) → restarts past ≤ most → first_refusal (rows_within most n past e) ≡ None → restarts (e ∷ past) ≤ most
unfolding rows_within
restarts_next most n past e few h = grind arith

-- a past has no more restarts before an entry than after it
pub restarts_before : (most : ℕ) (past : List Entry) (e : Entry) → restarts (e ∷ past) ≤ most → restarts past ≤ most
restarts_before most past e few = grind arith

-- an entry that no row of any trace refuses is legal if the run with it has at most this many restarts
next_restarts : (most n : ℕ) (past : List Entry) (e : Entry) → restarts (e ∷ past) ≤ most → first_fault n past e ≡ None → first_refusal (rows_within most n past e) ≡ None
unfolding rows_within
next_restarts most n past e few h = grind arith

-- an entry that is legal within limits is legal by the rows
pub rows_next : (entries : ℕ) (r : Recording) (e : Entry) → fault_within entries r e ≡ None → fault_by_refusal_rows r e ≡ None
unfolding rows_within
rows_next entries r e h = grind (arith, limit_below entries)

-- an entry that is legal within limits leaves a run within them
pub within_next : (entries : ℕ) (r : Recording) (e : Entry) → FitsLimits entries r → fault_within entries r e ≡ None → FitsLimits entries (with_entry r e)
within_next entries r e w h = grind (arith, restarts_next)

-- if a run with one more entry is within limits, it was before, and the entry exceeds none
pub within_before : (entries : ℕ) (r : Recording) (e : Entry) → FitsLimits entries (with_entry r e) → FitsLimits entries r
within_before entries r e w = record { few = omega (arith, w.few); listed = omega (arith, w.listed); restarted = restarts_before (restart_limit entries) r.past e w.restarted }

-- an entry is legal if no row refuses it and the run with it is within its limits
pub next_within : (entries : ℕ) (r : Recording) (e : Entry) → FitsLimits entries (with_entry r e) → fault_by_refusal_rows r e ≡ None → fault_within entries r e ≡ None
next_within entries r e w next = grind (arith, next_restarts)

-- the check of the limits does not return `NoMemory` either
pub no_memory_within : (entries : ℕ) (r : Recording) (e : Entry) → fault_within entries r e ≡ Some NoMemory → ⊥
unfolding rows_within
no_memory_within entries r e h = grind arith

-- a well-formed recording with a legal entry is well formed
pub formed_push : (r : Recording) (e : Entry) → IsWellFormed r → first_fault r.processes r.past e ≡ None → IsWellFormed (with_entry r e)
formed_push r e formed next = record { count = formed.count; accepted = (formed.accepted, next) }

-- a trace's invariant after one more entry
pub kept_push : (r : Recording) (e : Entry) (listed : ℕ) → IsBounded r listed → first_fault r.processes r.past e ≡ None → IsBounded (with_entry r e) (listed + length (listed_by e))
kept_push r e listed kept next = grind (arith, limits, within_limits)

-- the limits, entry by entry
pub record IsShort (past : List Entry) : Type 0 where
  -- at most the maximum number of entries
  pub entries : length past ≤ 16777216
  -- at most the maximum number of listed determinants
  pub listed : listed_in past ≤ 268435456

-- a legal entry leaves a past within the limits
pub short_next : (n : ℕ) (past : List Entry) (e : Entry) → first_fault n past e ≡ None → IsShort (e ∷ past)
short_next n past e next = grind (arith, within_limits)

-- a past of legal entries is within the limits
pub accepted_short : (n : ℕ) (past : List Entry) → AreLegalEntries n past → IsShort past
accepted_short n [] h = record { entries = omega arith; listed = omega arith }
accepted_short n (e ∷ past) h = short_next n past e h.1

-- a well-formed recording is within the limits
pub formed_short : (r : Recording) → IsWellFormed r → IsShort r.past
formed_short r formed = accepted_short r.processes r.past formed.accepted
