-- The trace that recorder files merge into, or the first error of those that do not merge.
-- `most` is the maximum number of entries of the trace. It determines the maximum size of the files.
use Rattle.std.specs.Prelude.{◌≡◌, ℕ, ◌+◌, ◌⊎◌, List, length, map, reverse, Ok, Err}
use Rattle.std.specs.Ordering.{nat_cmp}
use Rattle.std.specs.FinSet.{FinSet}
use Rattle.causal_trace.specs.Limits.{default_entries}
use Rattle.causal_trace.specs.Rows.{Recording}
use Rattle.causal_line.specs.Lines.{lines}
use Rattle.causal_merge.specs.declared.event.RunHeader.{RunHeader}
use Rattle.causal_merge.specs.declared.event.RecorderLine.{RecorderLine}
use Rattle.causal_merge.specs.declared.event.EventAtLine.{EventAtLine}
use Rattle.causal_merge.specs.declared.fault.MergeFault.{MergeFault}
use Rattle.causal_merge.specs.declared.origins.Origin.{Origin}
use Rattle.causal_merge.specs.ReadLines.{events_in, torn_in, HasAllHeaders, LacksHeader, header_fault}
use Rattle.causal_merge.specs.Reading.{read_all_lines}
use Rattle.causal_merge.specs.Order.{IsMergedOrder}
use Rattle.causal_merge.specs.Origins.{origin_of}
use Rattle.causal_merge.specs.EventMerge.{merge_events_of}

-- the lines of a text have no error and this content, the newest first
abbrev pub ParsesTo : ℕ → List ℕ → List RecorderLine → Type 0
ParsesTo most text contents = read_all_lines most (reverse (lines text)) ≡ Ok contents

-- The events of a text, in the merge order, become the entries of a recording, one for each, with these origins; and these
-- lines are torn.
pub record MergesFrom (most : ℕ) (text : List ℕ) (r : Recording) (torn : List ℕ) (origins : List Origin) : Type 0 where
  pub contents : List RecorderLine
  pub parses : ParsesTo most text contents
  pub run : RunHeader
  pub whole : HasAllHeaders contents run
  pub processes : r.processes ≡ run.processes
  pub order : List EventAtLine
  pub ordered : IsMergedOrder (events_in contents) order
  pub entries : merge_events_of most run.processes (reverse order) ≡ Ok r.past
  pub torn_lines : torn ≡ torn_in contents
  pub from : origins ≡ map origin_of order

-- `MergesFrom` with some origins
abbrev pub MergesWithin : ℕ → List ℕ → Recording → List ℕ → Type 0
MergesWithin most text r torn = (origins : List Origin) × MergesFrom most text r torn origins

-- `MergesWithin` with the default limits
abbrev pub Merges : List ℕ → Recording → List ℕ → Type 0
Merges text r torn = MergesWithin default_entries text r torn

-- this is the error of the first line that has one
abbrev pub IsLineFault : ℕ → List ℕ → MergeFault → Type 0
IsLineFault most text fault = read_all_lines most (reverse (lines text)) ≡ Err fault

-- no line has an error, and headers are missing; the error's line is the one after the last
pub record IsHeaderFault (most : ℕ) (text : List ℕ) (fault : MergeFault) : Type 0 where
  pub contents : List RecorderLine
  pub parses : ParsesTo most text contents
  pub missing : FinSet nat_cmp
  pub lacks : LacksHeader contents missing
  pub is : fault ≡ header_fault (length (lines text) + 1) missing

-- no line has an error, no header is missing, and this is the error of the first event in the merge order that has one
pub record IsEventFault (most : ℕ) (text : List ℕ) (fault : MergeFault) : Type 0 where
  pub contents : List RecorderLine
  pub parses : ParsesTo most text contents
  pub run : RunHeader
  pub whole : HasAllHeaders contents run
  pub order : List EventAtLine
  pub ordered : IsMergedOrder (events_in contents) order
  pub faulty : merge_events_of most run.processes (reverse order) ≡ Err fault

-- the first error of the recorder files
abbrev pub IsFirstMergeFaultWithin : ℕ → List ℕ → MergeFault → Type 0
IsFirstMergeFaultWithin most text fault = IsLineFault most text fault ⊎ (IsHeaderFault most text fault ⊎ IsEventFault most text fault)

-- `IsFirstMergeFaultWithin` with the default limits
abbrev pub IsFirstMergeFault : List ℕ → MergeFault → Type 0
IsFirstMergeFault text fault = IsFirstMergeFaultWithin default_entries text fault
