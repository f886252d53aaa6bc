-- Lists of positions, one after the other in one list.
use Rattle.std.specs.Prelude.{◌≡◌, ℕ, ◌+◌, ◌-◌, ◌==◌, ◌<◌, ◌≤◌, List, [], ◌∷◌, length, slice_index_or, count_by}
use Rattle.std.specs.List.{slice_range}
use Rattle.causal_audit.specs.Inside.Common.{All}
use Rattle.causal_audit.specs.Inside.Index.Lists.{list_at}
use Rattle.causal_audit.specs.declared.index.packed_lists.ListSpan.{ListSpan}

-- the positions of a span
abbrev pub list_in : List ℕ → ListSpan → List ℕ
list_in positions s = slice_range positions s.begin s.end

-- a span lies within the first `size` positions
pub record IsSpan (size : ℕ) (s : ListSpan) : Type 0 where
  pub order : s.begin ≤ s.end
  pub within : s.end ≤ size

-- each span lies within the positions, and ends before the later spans begin
pub record ArePacked (size : ℕ) (spans : List ListSpan) : Type 0 where
  pub each : All (IsSpan size) spans
  pub apart : (i j : ℕ) (s : ListSpan) → i < j → j < length spans → (slice_index_or spans i s).end ≤ (slice_index_or spans j s).begin

-- where the list before these spans ends at the latest: at the start of the next list; after the last at `size`
abbrev pub limit_before : ℕ → List ListSpan → ℕ
limit_before size [] = size
limit_before size (next ∷ _) = next.begin

-- the capacity of each list: from its start to that of the next list; of the last list to `size`
abbrev pub list_capacities : ℕ → List ListSpan → List ℕ
list_capacities size [] = []
list_capacities size (s ∷ rest) = (limit_before size rest - s.begin) ∷ list_capacities size rest

-- numbered lists, and the number of positions that each may contain
pub record ListsWithCapacities : Type 0 where
  pub lists : List (List ℕ)
  pub capacities : List ℕ

-- the list of a number is there and is not full
pub record HasSpareCapacity (packing : ListsWithCapacities) (number : ℕ) : Type 0 where
  pub there : number < length packing.lists
  pub spare : length (list_at packing.lists number) < slice_index_or packing.capacities number 0

-- each list has spare capacity for as many positions as its number occurs
abbrev pub HaveCapacityFor : ListsWithCapacities → List ℕ → Type 0
HaveCapacityFor packing numbers = (m : ℕ) → m < length packing.lists → length (list_at packing.lists m) + count_by (λ number. number == m) numbers ≤ slice_index_or packing.capacities m 0

-- for each number below their length, these counts say how often it occurs
abbrev pub AreOccurrences : List ℕ → List ℕ → Type 0
AreOccurrences counts numbers = (m : ℕ) → m < length counts → slice_index_or counts m 0 ≡ count_by (λ number. number == m) numbers
