-- The invariant of `Merger`.
use Rattle.std.specs.Prelude.{◌≡◌, ℕ, ◌≢◌, ◌==◌, ◌&&◌, Bool, false, List, [], ◌∷◌, Option, Some, None, Ok, Err}
use Rattle.causal_name.specs.declared.Pid.{Pid}
use Rattle.causal_line.specs.declared.kind.TextKind.TheVariants.{NoMemory}
use Rattle.causal_merge.specs.declared.event.RecordedEvent.{RecordedEvent}
use Rattle.causal_merge.specs.declared.event.EventAtLine.{EventAtLine}
use Rattle.causal_merge.specs.declared.fault.MergeKind.TheVariants as kind
use Rattle.causal_merge.specs.declared.fault.MergeFault.{MergeFault}
use Rattle.causal_merge.specs.declared.merger.Merger.{Merger}
use Rattle.causal_merge.specs.EventMerge.{merge_events_of}
use Rattle.causal_merge.specs.Inside.Sends.{IsSendsOf}

-- the clock and the process of the newest event
abbrev pub newest : List EventAtLine → Option (ℕ × Pid)
newest [] = None
newest (e ∷ before) = Some (e.event.clock, e.event.process)

-- whether the next event has the clock and the process of the newest
abbrev pub is_newest : Option (ℕ × Pid) → RecordedEvent → Bool
is_newest None e = false
is_newest (Some last) e = last.0 == e.clock && last.1.0 == e.process.0

-- the entries of the trace are those of these events, the newest first
pub record HasMerged (most : ℕ) (m : Merger) (before : List EventAtLine) : Type 0 where
  pub entries : merge_events_of most m.trace.recording.processes before ≡ Ok m.trace.recording.past
  pub sends : IsSendsOf m.sends m.trace.recording.past
  pub last : m.last ≡ newest before

-- the error is that of these events, unless it is `NoMemory`
abbrev pub IsFaultOfEvents : ℕ → ℕ → MergeFault → List EventAtLine → Type 0
IsFaultOfEvents most n fault before = fault.kind ≢ kind.Line NoMemory → merge_events_of most n before ≡ Err fault
