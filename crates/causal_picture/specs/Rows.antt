-- The processes that a picture shows, each in its row.
use Rattle.std.specs.Prelude.{ℕ, ◌-◌, Bool, true, false, ◌==◌, ◌||◌, if◌then◌else◌, List, Option, Some, None}
use Rattle.std.specs.List.{list_any}
use Rattle.std.specs.Option.{option_map_or}
use Rattle.std.specs.Ordering.{nat_cmp}
use Rattle.std.specs.FinSet.{FinSet, contains, len}
use Rattle.causal_name.specs.Sets.{count_below}
use Rattle.causal_holders.specs.Members.{numbers_below}
use Rattle.causal_trace.specs.declared.entry.Entry.{Entry}
use Rattle.causal_trace.specs.Rows.{Recording}
use Rattle.causal_picture.specs.declared.focus.Band.{Band}
use Rattle.causal_picture.specs.declared.focus.Focus.{Focus}
use Rattle.causal_picture.specs.declared.focus.Orphan.{Orphan}
use Rattle.causal_picture.specs.declared.marks.Mark.{Mark}
use Rattle.causal_picture.specs.declared.entry_range.Grid.{Grid}
use Rattle.causal_picture.specs.declared.selection.Selection.{Selection}
use Rattle.causal_picture.specs.Marks.{mark_at, mark_process}

-- whether p is the orphan or a holder of the determinant
abbrev pub has_role : Option Orphan → ℕ → Bool
has_role None p = false
has_role (Some o) p = (o.process == p) || contains o.holders p

-- whether a band is p's
abbrev pub is_band_of : ℕ → Band → Bool
is_band_of p b = b.process == p

-- whether the entry at a position is shown on p's line
abbrev pub is_mark_of : List Entry → ℕ → ℕ → Bool
is_mark_of past p position = option_map_or (λ (m : Mark). (mark_process m.event).0 == p) (mark_at past position) false

-- whether p is a process of the focus: in the crash set, the orphan, a holder, with a band, or with an entry of the chain
abbrev pub is_of_focus : List Entry → Focus → ℕ → Bool
is_of_focus past f p =
    ((contains f.crash p || has_role f.orphan p) || list_any (is_band_of p) f.bands.now) || list_any (is_mark_of past p) f.chain.now

-- whether a process is selected: any without a focus
abbrev pub is_selected : List Entry → Option Focus → Selection → ℕ → Bool
is_selected past None s p = true
is_selected past (Some f) s p = if s.only_focus then is_of_focus past f p else true

-- the selected processes of a recording
abbrev pub shown_processes : Recording → Option Focus → Selection → FinSet nat_cmp
shown_processes r focus s = numbers_below r.processes (is_selected r.past focus s)

-- the number of shown processes
abbrev pub rows_of : Grid → ℕ
rows_of g = len g.shown

-- the number of hidden processes
abbrev pub hidden_of : Grid → ℕ
hidden_of g = g.processes - rows_of g

-- the number of shown processes below p, which is p's row
abbrev pub rank_of : FinSet nat_cmp → ℕ → ℕ
rank_of shown p = count_below p (contains shown)
