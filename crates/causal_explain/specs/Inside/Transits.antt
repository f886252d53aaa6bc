-- The marks of the messages in transit.
use Rattle.std.specs.Prelude.{◌≡◌, ℕ, Bool, false, List, slice_index_or}
use Rattle.causal_name.specs.declared.Det.{Det}
use Rattle.causal_trace.specs.declared.entry.Entry.{Entry}
use Rattle.causal_explain.specs.Underway.{is_in_transit}

-- a mark for each entry: whether it is a send by a process whose volatile log then has d, and its message is in transit
abbrev pub AreInTransit : List Entry → Det → List Bool → Type 0
AreInTransit past d marks = (k : ℕ) → slice_index_or marks k false ≡ is_in_transit past d k
