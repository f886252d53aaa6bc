-- Possible causes of an error of recorder files.
use Rattle.std.specs.Prelude.{ℕ, List, Option, Some, None, codes}
use Rattle.causal_line.specs.declared.kind.TextKind.{TextKind}
use Rattle.causal_line.specs.declared.kind.TextKind.TheVariants.{Syntax, Header, NotUp, NotDown, WrongSsn, WrongRsn, NoSend, NoDelivery}
use Rattle.causal_merge.specs.declared.fault.MergeKind.{MergeKind}
use Rattle.causal_merge.specs.declared.fault.MergeKind.TheVariants as kind

-- the hint on a kind of error that a trace's text may have, too
abbrev pub line_hint : TextKind → Option (List ℕ)
line_hint Syntax = Some (codes "a line that a kill has cut may run into the next one")
line_hint Header = Some (codes "these may be recordings of two runs")
line_hint NotUp = Some (codes "it is so by the clocks: a line before it may be missing, or a clock was not carried along")
line_hint NotDown = Some (codes "it is so by the clocks: a line before it may be missing, or a clock was not carried along")
line_hint WrongSsn = Some (codes "a line before it may be missing")
line_hint WrongRsn = Some (codes "a line before it may be missing")
line_hint NoSend = Some (codes "a recording or its end may be missing, or the send stands behind, since a clock was not carried along")
line_hint NoDelivery = Some (codes "a recording or its end may be missing, or the delivery stands behind, since a clock was not carried along")
line_hint _ = None

-- the hint on a kind of error; None if its sentence is enough
abbrev pub merge_hint_of : MergeKind → Option (List ℕ)
merge_hint_of (kind.NoHeader missing) = Some (codes "a recording may be missing")
merge_hint_of kind.Twice = Some (codes "a recording may stand twice, or a clock fell back at a restart")
merge_hint_of (kind.Line k) = line_hint k
