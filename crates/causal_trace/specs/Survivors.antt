-- Determinants that survive, and recordings in which no recovery strays from them.
use Rattle.std.specs.Prelude.{◌≡◌, ℕ, ◌≤◌, Bool, true, ◌||◌, List, length}
use Rattle.causal_name.specs.declared.Det.{Det}
use Rattle.causal_name.specs.Sets.{any_below}
use Rattle.causal_trace.specs.declared.entry.Entry.{Entry}
use Rattle.causal_trace.specs.Past.{instant, logs, is_stable}
use Rattle.causal_trace.specs.Rows.{Recording}

-- whether d survives: it is stable, or in the log of one of n processes
abbrev pub survives : ℕ → List Entry → Det → Bool
survives n past d = is_stable past d || any_below n (λ p. logs past p d)

-- no two surviving determinants fill one slot, so they name at most one message for each delivery of a receiver
abbrev pub SlotsAreSingle : ℕ → List Entry → Type 0
SlotsAreSingle n past = (a b : Det) → survives n past a ≡ true → survives n past b ≡ true → a.dest ≡ b.dest → a.rsn ≡ b.rsn → a ≡ b

-- no delivery strays from what survives: at each instant each slot has at most one surviving determinant
abbrev pub IsFollowed : Recording → Type 0
IsFollowed r = (t : ℕ) → t ≤ length r.past → SlotsAreSingle r.processes (instant r.past t)
