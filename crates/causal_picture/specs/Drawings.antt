-- What a picture shows, as a list of parts in the order of its text.
use Rattle.std.specs.Prelude.{ℕ, ◌+◌, ◌-◌, ◌==◌, ◌&&◌, nat_le, Bool, true, false, if◌then◌else◌, List, [], ◌∷◌, ◌++◌, length, map, flat_map, find, Option, Some, None}
use Rattle.std.specs.List.{filter_map}
use Rattle.std.specs.Option.{option_map_or, option_and_then}
use Rattle.std.specs.Ordering.{nat_cmp}
use Rattle.std.specs.FinSet.{FinSet, contains, empty}
use Rattle.causal_holders.specs.Members.{ascending}
use Rattle.causal_trace.specs.declared.entry.Entry as trace
use Rattle.causal_trace.specs.Past.{is_down}
use Rattle.causal_trace.specs.Rows.{Recording}
use Rattle.causal_trace.specs.State.{entries_of, past_at}
use Rattle.causal_picture.specs.declared.focus.Band.{Band}
use Rattle.causal_picture.specs.declared.focus.Focus.{Focus}
use Rattle.causal_picture.specs.declared.focus.Orphan.{Orphan}
use Rattle.causal_picture.specs.declared.entry_range.EntryRange.{EntryRange}
use Rattle.causal_picture.specs.declared.entry_range.Grid.{Grid}
use Rattle.causal_picture.specs.declared.marks.Mark.{Mark}
use Rattle.causal_picture.specs.declared.marks.MarkEvent.{MarkEvent}
use Rattle.causal_picture.specs.declared.marks.MarkEvent.TheVariants.{Delivery, Crash, Restart}
use Rattle.causal_picture.specs.declared.part.LineEnd.{LineEnd}
use Rattle.causal_picture.specs.declared.part.LineEnd.TheVariants.{Entry, Open}
use Rattle.causal_picture.specs.declared.part.Link.{Link}
use Rattle.causal_picture.specs.declared.part.Link.TheVariants as link
use Rattle.causal_picture.specs.declared.part.DrawnPart.{DrawnPart}
use Rattle.causal_picture.specs.declared.part.DrawnPart.TheVariants as part
use Rattle.causal_picture.specs.declared.part.Side.{Side}
use Rattle.causal_picture.specs.declared.part.Side.TheVariants.{Before, Between, After}
use Rattle.causal_picture.specs.declared.selection.Selection.{Selection}
use Rattle.causal_picture.specs.EntryRanges.{grid_around, instant_of, is_shown}
use Rattle.causal_picture.specs.Marks.{mark_at, mark_process, marks_of}
use Rattle.causal_picture.specs.Resent.{is_resent}
use Rattle.causal_picture.specs.Rows.{hidden_of}

-- the row of a process, shaded if it is in the crash set
abbrev pub row_part : FinSet nat_cmp → ℕ → DrawnPart
row_part crash p = part.Row p (contains crash p)

-- the rows of the shown processes
abbrev pub rows_of_shown : Grid → FinSet nat_cmp → List DrawnPart
rows_of_shown g crash = map (row_part crash) (ascending g.shown)

-- an event is p's crash, at a position not before `from`
abbrev pub is_crash_from : ℕ → ℕ → ℕ → MarkEvent → Bool
is_crash_from p from position (Crash who) = nat_le from position && (who.0 == p)
is_crash_from p from position _ = false

-- a mark ends p's line from `from` on
abbrev pub ends_line : ℕ → ℕ → Mark → Bool
ends_line p from m = is_crash_from p from m.position m.event

-- where p's line from `from` on ends: at p's next crash among the marks of a range
abbrev pub crash_from : List Mark → ℕ → ℕ → LineEnd
crash_from marks p from = option_map_or (λ (m : Mark). Entry m.position) (find (ends_line p from) marks) Open

-- the line of a process that is up where a range begins
abbrev pub up_unless : Bool → List Mark → ℕ → Bool → List DrawnPart
up_unless is_late marks p down = if down then [] else part.Up p is_late (crash_from marks p 0) ∷ []

-- the line of a process, if it is up at an instant
abbrev pub up_at : Recording → Bool → ℕ → List Mark → ℕ → List DrawnPart
up_at r is_late t marks p = up_unless is_late marks p (is_down (past_at (entries_of r) t) p)

-- the lines of the shown processes that are up where a range begins
abbrev pub ups_of : Recording → Grid → Bool → ℕ → List Mark → List DrawnPart
ups_of r g is_late first marks = flat_map (up_at r is_late first marks) (ascending g.shown)

-- the arrow of a delivery if the sender is shown; the line of a process that restarts
abbrev pub link_of : Grid → List Mark → ℕ → MarkEvent → Link
link_of g marks position (Delivery det send) = if contains g.shown det.source.0 then link.Arrow else link.Nothing
link_of g marks position (Restart who) = link.Line (crash_from marks who.0 position)
link_of g marks position _ = link.Nothing

-- an event with its arrow or line, faint if its message is sent again
abbrev pub event_part : Recording → Grid → List Mark → Mark → DrawnPart
event_part r g marks m = part.Event m (is_resent (entries_of r) m) (link_of g marks m.position m.event)

-- an event, if its process is shown
abbrev pub shown_event : Recording → Grid → List Mark → Mark → List DrawnPart
shown_event r g marks m = if contains g.shown (mark_process m.event).0 then event_part r g marks m ∷ [] else []

-- the events of shown processes, in order
abbrev pub event_parts : Recording → Grid → List Mark → List Mark → List DrawnPart
event_parts r g marks ms = flat_map (shown_event r g marks) ms

-- the lines and events of a range
abbrev pub range_parts : Recording → Grid → Bool → EntryRange → List DrawnPart
range_parts r g is_late s = ups_of r g is_late s.first (marks_of r.past s) ++ event_parts r g (marks_of r.past s) (marks_of r.past s)

-- the lines and events of both ranges; the second may be empty
abbrev pub run_parts : Recording → Grid → List DrawnPart
run_parts r g =
    range_parts r g false g.early ++ (if g.late.count == 0 then [] else range_parts r g true g.late)

-- where a band ends
abbrev pub band_end : Option ℕ → LineEnd
band_end (Some position) = Entry position
band_end None = Open

-- a band, if its process is shown
abbrev pub shown_band : Grid → ℕ → Band → List DrawnPart
shown_band g t b = if contains g.shown b.process then part.Held b.process b.from (band_end b.to) t ∷ [] else []

-- the bands of shown processes
abbrev pub shown_bands : Grid → ℕ → List Band → List DrawnPart
shown_bands g t bands = flat_map (shown_band g t) bands

-- the mark of an event, if its process is shown
abbrev pub shown_mark : Grid → Mark → Option Mark
shown_mark g m = if contains g.shown (mark_process m.event).0 then Some m else None

-- the mark of the entry at a position, if it is shown, and its process
abbrev pub shown_mark_at : List trace.Entry → Grid → ℕ → Option Mark
shown_mark_at past g position = if is_shown g position then option_and_then (shown_mark g) (mark_at past position) else None

-- the marks of a chain's shown entries
abbrev pub chain_marks : List trace.Entry → Grid → List ℕ → List Mark
chain_marks past g chain = filter_map (shown_mark_at past g) chain

-- the marks of the shown entries of a focus's chain
abbrev pub marks_of_focus : List trace.Entry → Grid → Option Focus → List Mark
marks_of_focus past g None = []
marks_of_focus past g (Some f) = chain_marks past g f.chain.now

-- the chain, if some of it is shown
abbrev pub chain_part : List Mark → List DrawnPart
chain_part [] = []
chain_part (m ∷ ms) = part.Chain ∷ []

-- the bands, the chain and the instant of a focus
abbrev pub focus_parts : Recording → Grid → Option Focus → List DrawnPart
focus_parts r g None = []
focus_parts r g (Some f) =
    shown_bands g (instant_of (length r.past) f) f.bands.now
    ++ (chain_part (chain_marks r.past g f.chain.now) ++ (part.Instant (instant_of (length r.past) f) ∷ []))

-- a number of hidden entries, if there are any
abbrev pub hidden_entries : Side → ℕ → List DrawnPart
hidden_entries side count = if count == 0 then [] else part.HiddenEntries side count ∷ []

-- the hidden entries before the shown ones, between the ranges and after them
abbrev pub cuts_of : Grid → ℕ → List DrawnPart
cuts_of g entries =
    hidden_entries Before g.early.first
    ++ (hidden_entries Between (g.late.first - (g.early.first + g.early.count)) ++ hidden_entries After (entries - (g.late.first + g.late.count)))

-- a number of hidden processes, if there are any
abbrev pub hidden_processes : ℕ → List DrawnPart
hidden_processes count = if count == 0 then [] else part.HiddenProcesses count ∷ []

-- the crash set of a focus
abbrev pub focus_crash : Option Focus → FinSet nat_cmp
focus_crash None = empty
focus_crash (Some f) = f.crash

-- the orphan of a focus
abbrev pub focus_orphan : Option Focus → Option Orphan
focus_orphan None = None
focus_orphan (Some f) = f.orphan

-- what a picture on this grid shows: the processes, the run over them, the focus over it, and how much is hidden
abbrev pub drawing_on : Recording → Option Focus → Grid → List DrawnPart
drawing_on r focus g =
    rows_of_shown g (focus_crash focus)
    ++ (run_parts r g ++ (focus_parts r g focus ++ (cuts_of g (length r.past) ++ hidden_processes (hidden_of g))))

-- what the picture of the selected part of a recorded run shows
unfoldable pub drawing : Recording → Option Focus → Selection → List DrawnPart
drawing r focus s = drawing_on r focus (grid_around r focus s)
