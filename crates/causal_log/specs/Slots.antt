-- The slot (dest, rsn) of a determinant, and the first determinant of a slot in a list.
use Rattle.std.specs.Prelude.{◌==◌, ◌&&◌, ℕ, Bool, List, Option, find}
use Rattle.causal_name.specs.declared.Det.{Det}
use Rattle.causal_name.specs.declared.Pid.{Pid}
use Rattle.causal_name.specs.Names.{same_pid}

-- whether a determinant fills this slot
abbrev pub is_of_slot : Pid → ℕ → Det → Bool
is_of_slot dest rsn det = same_pid det.dest dest && det.rsn == rsn

-- the first determinant of a list that fills the slot; the least one if the list ascends
abbrev pub first_of_slot : Pid → ℕ → List Det → Option Det
first_of_slot dest rsn dets = find (is_of_slot dest rsn) dets
