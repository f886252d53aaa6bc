-- The entries that a picture shows: one range, or two ranges with a cut between them.
use Rattle.std.specs.Prelude.{◌≡◌, ℕ, ◌+◌, ◌-◌, ◌<◌, ◌≤◌, nat_le, nat_lt, ◌&&◌, ◌||◌, Bool, true, min, max, if◌then◌else◌, List, length, fold, Option, Some, None}
use Rattle.std.specs.Ordering.{nat_cmp}
use Rattle.std.specs.FinSet.{FinSet}
use Rattle.causal_trace.specs.Rows.{Recording}
use Rattle.causal_picture.specs.declared.focus.Focus.{Focus}
use Rattle.causal_picture.specs.declared.entry_range.Grid.{Grid}
use Rattle.causal_picture.specs.declared.entry_range.EntryRange.{EntryRange}
use Rattle.causal_picture.specs.declared.selection.Selection.{Selection}
use Rattle.causal_picture.specs.Rows.{shown_processes}
use Rattle.causal_picture.specs.declared.entry_range.TheConstants.{MAX_SHOWN, AFTER_INSTANT, EARLY_SHOWN, BEFORE_CHAIN, BEFORE_SELECTED}

-- the minimum of some positions and the number of entries
abbrev pub least_of : ℕ → List ℕ → ℕ
least_of entries chain = fold min entries chain

-- the instant of a focus; the last instant if the focus's is later
abbrev pub instant_of : ℕ → Focus → ℕ
instant_of entries f = min f.instant entries

-- The first shown entry around an instant, if there is one range. The range ends at the instant, or up to 10 entries
-- later if that hides no entry of the chain.
abbrev pub first_around : ℕ → ℕ → ℕ → ℕ
first_around entries least t = max (t - MAX_SHOWN) (min least (min entries (t + AFTER_INSTANT) - MAX_SHOWN))

-- the first shown entry around a position
abbrev pub first_near : ℕ → ℕ → ℕ
first_near entries position = min (position - BEFORE_SELECTED) (entries - MAX_SHOWN)

-- one range of at most 200 entries, from `first` on
abbrev pub one_range_grid : ℕ → ℕ → FinSet nat_cmp → ℕ → Grid
one_range_grid entries n shown first =
    record {
      early = record { first = first; count = min MAX_SHOWN (entries - first) };
      late = record { first = first + min MAX_SHOWN (entries - first); count = 0 };
      processes = n;
      shown = shown;
    }

-- two ranges: around the chain's first entry, and up to the instant or shortly after it
abbrev pub two_range_grid : ℕ → ℕ → FinSet nat_cmp → ℕ → ℕ → Grid
two_range_grid entries n shown least t =
    record {
      early = record { first = least - BEFORE_CHAIN; count = EARLY_SHOWN };
      late = record { first = min entries (t + AFTER_INSTANT) - (MAX_SHOWN - EARLY_SHOWN); count = MAX_SHOWN - EARLY_SHOWN };
      processes = n;
      shown = shown;
    }

-- one range if it contains the chain's first entry, otherwise two
abbrev pub grid_around_chain : ℕ → ℕ → FinSet nat_cmp → ℕ → ℕ → Grid
grid_around_chain entries n shown least t =
    if nat_lt least (first_around entries least t)
    then two_range_grid entries n shown least t
    else one_range_grid entries n shown (first_around entries least t)

-- the grid of a focus
abbrev pub grid_around_focus : ℕ → ℕ → FinSet nat_cmp → Focus → Grid
grid_around_focus entries n shown f = grid_around_chain entries n shown (least_of entries f.chain.now) (instant_of entries f)

-- the grid of a picture that shows these of n processes, by its number of entries and a selected position
abbrev pub choose_grid : ℕ → ℕ → FinSet nat_cmp → Option Focus → Option ℕ → Grid
choose_grid entries n shown focus (Some position) = one_range_grid entries n shown (first_near entries position)
choose_grid entries n shown (Some f) None = grid_around_focus entries n shown f
choose_grid entries n shown None None = one_range_grid entries n shown 0

-- the grid of a recording's picture
abbrev pub grid_around : Recording → Option Focus → Selection → Grid
grid_around r focus s = choose_grid (length r.past) r.processes (shown_processes r focus s) focus s.around

-- whether a position is in a range
abbrev pub is_within : EntryRange → ℕ → Bool
is_within s position = nat_le s.first position && nat_lt (position - s.first) s.count

-- whether the entry at a position is shown
abbrev pub is_shown : Grid → ℕ → Bool
is_shown g position = is_within g.early position || is_within g.late position

-- the ranges are within a run of this many entries, and the second begins after the first
pub record GridFits (entries : ℕ) (g : Grid) : Type 0 where
  pub before : g.early.first + g.early.count ≤ g.late.first
  pub within : g.late.first + g.late.count ≤ entries

-- the entry before the instant is shown
abbrev pub ReachesInstant : ℕ → Grid → Focus → Type 0
ReachesInstant entries g f = 0 < instant_of entries f → is_shown g (instant_of entries f - 1) ≡ true

-- the first entry of the chain is shown if it is before the instant
abbrev pub ShowsFirst : ℕ → Grid → Focus → Type 0
ShowsFirst entries g f = least_of entries f.chain.now < instant_of entries f → is_shown g (least_of entries f.chain.now) ≡ true
