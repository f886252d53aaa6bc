-- The copies of all determinants in a state: which processes log each, and whether it is stable, by number.
use Rattle.std.specs.Prelude.{◌≡◌, ℕ, Bool, true, false, List, [], ◌∷◌, Option, Some, slice_index_or, vec_len, ◌⊎◌}
use Rattle.causal_name.specs.declared.Det.{Det}
use Rattle.causal_trace.specs.declared.entry.Entry.{Entry}
use Rattle.causal_trace.specs.declared.entry.Entry.TheVariants.{Deliver, Stable, Restart}
use Rattle.std.specs.Option.{IsSome}
use Rattle.causal_trace.specs.Past.{logs, is_stable, deliveries_in}
use Rattle.causal_trace.specs.Numbers.{delivered_dets, number_of}
use Rattle.causal_replays.specs.declared.copies.CopyTable.{CopyTable}
use Rattle.causal_replays.specs.Inside.Holdings.{holds, AreLogged}

-- the number of a determinant: that of the newest delivery with it in the whole run
abbrev pub number_in : List Entry → Det → Option ℕ
number_in whole d = number_of (deliveries_in whole) (delivered_dets whole) d

-- a determinant has a number: some delivery has it
abbrev pub HasNumber : List Entry → Det → Type 0
HasNumber whole d = IsSome (number_in whole d)

-- whether the determinant with number i is stable
abbrev pub is_stored : List Bool → ℕ → Bool
is_stored stable i = slice_index_or stable i false

-- there are a set of holders and a mark for each number, and a log for each process
pub record AreSized (count : ℕ) (c : CopyTable) : Type 0 where
  pub holders : vec_len c.holders ≡ count
  pub stable : vec_len c.stable ≡ count
  pub logs : vec_len c.logs ≡ 256
  pub logged : AreLogged c.holders.items c.logs.items

-- the copies are those of this state, by the numbers of a run
pub record IsCopyTable (whole past : List Entry) (c : CopyTable) : Type 0 where
  pub held : (d : Det) (i p : ℕ) → number_in whole d ≡ Some i → holds c.holders.items i p ≡ logs past p d
  pub stored : (d : Det) (i : ℕ) → number_in whole d ≡ Some i → is_stored c.stable.items i ≡ is_stable past d

-- the determinant with number i is stable, or some process holds it
abbrev pub HasCopy : CopyTable → ℕ → Type 0
HasCopy c i = (is_stored c.stable.items i ≡ true) ⊎ ((p : ℕ) × (holds c.holders.items i p ≡ true))

-- the determinants of which an entry makes copies
abbrev pub copied_by : Entry → List Det
copied_by (Deliver to send rsn listed) = listed
copied_by (Restart who listed) = listed
copied_by (Stable det) = det ∷ []
copied_by _ = []
