-- Stable storage as contracts see it: a finite set of determinants.
-- The set is a map with the unit value at each member.
use Rattle.std.specs.Prelude.{◌≡◌, ℕ, Bool, true, List, map}
use Rattle.std.specs.FinMap as fin
use Rattle.causal_name.specs.declared.Det.{Det}
use Rattle.causal_name.specs.Names.{det_cmp}

abbrev pub DetSet : Type 0
DetSet = fin.FinMap det_cmp (Unit {0})

-- the set of a list's determinants
abbrev pub set_of : List Det → DetSet
set_of dets = fin.from_entries (map (λ d. (d, tt)) dets)

-- the set with one determinant added; adding a member changes nothing
abbrev pub with_det : DetSet → Det → DetSet
with_det s det = fin.insert s det tt

-- whether a determinant is a member
abbrev pub set_has : DetSet → Det → Bool
set_has s det = fin.contains_key s det

-- if a determinant is a member, the set and the count of device faults are unchanged
abbrev pub KeepsMember : Det → DetSet → DetSet → ℕ → ℕ → Type 0
KeepsMember det before after faults later = set_has before det ≡ true → (after ≡ before) × (later ≡ faults)

-- how many members there are
abbrev pub count_in : DetSet → ℕ
count_in s = fin.len s

-- the members, ascending
abbrev pub dets_in : DetSet → List Det
dets_in s = fin.keys s
