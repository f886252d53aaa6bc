use Rattle.std.proofs.lemmas.Grind.{common_steps}
use Rattle.std.proofs.Common.{◌≡◌, ◌<◌, [], ◌∷◌, ◌++◌, length, get_or, map, get_or-set_same, get_or-set_other, Vec, Global, ◌≤◌, arith, ℕ}
use Rattle.std.proofs.Math.ListN.{set, length-set}
use Rattle.std.proofs.lemmas.Bool.Decides.{eqb_tells}
use Rattle.std.proofs.lemmas.List.{length-map}
use Rattle.causal_clock.specs.declared.Rise.{Rise}
use Rattle.causal_clock.specs.declared.lane.LaneColumns.{LaneColumns}
use Rattle.causal_clock.specs.Rises.{count_at}
use Rattle.causal_clock.specs.Inside.Columns.{column_in}
use Rattle.causal_clock.specs.Inside.Lanes.{rises_in}
use Rattle.causal_clock.proofs.Columns.{raised_more, read, told_risen}
use Rattle.causal_clock.proofs.Lanes.{told_here, told_elsewhere, told_was}
use Rattle.causal_clock.proofs.lane.LaneColumns.append_count.Goals as goal

-- the column before it is raised
column_read : (x : LaneColumns) (source : ℕ) (v : Vec Rise Global) → source < length (rises_in x) → v ≡ get_or x.columns.items source v → column_in (rises_in x) source ≡ v.items
column_read x source v there is = told_was (λ v. v.items) x.columns.items source v v [] (omega (arith, there, length-map x.columns.items (λ v. v.items))) is

-- the column after it is raised
column_pushed : (x : LaneColumns) (source : ℕ) (v y : Vec Rise Global) (r : Rise) → source < length (rises_in x) → v ≡ get_or x.columns.items source v → y.items ≡ v.items ++ r ∷ [] → column_in (map (λ v. v.items) (set x.columns.items source y)) source ≡ column_in (rises_in x) source ++ r ∷ []
column_pushed x source v y r there is pushed = grind (arith, told_here, column_read x source v there is)

-- the count is greater than the last count of the column
is_news : (x : LaneColumns) (source count known : ℕ) → source < length x.row.items → known ≡ get_or x.row.items source known → known < count → (place : ℕ) → x.last ≤ place → count_at (column_in (rises_in x) source) place < count
is_news x source count known there is less place le = omega (arith, read x.row.items source known there is, x.kept.told source place le, less)

pub returns-then-index-count : goal.returns-then-index-count
returns-then-index-count c =
    grind (arith, common_steps, is_news, length-map, set, length-set, told_elsewhere, get_or-set_other, column_pushed, raised_more)

pub invariant_of-self : goal.invariant_of-self
invariant_of-self c = grind (arith, common_steps, column_pushed, read, eqb_tells, told_risen, set, get_or-set_same, told_elsewhere, get_or-set_other)
