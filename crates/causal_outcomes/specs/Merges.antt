-- What `merge` writes and returns for the recorder files of a run.
-- `most` is the maximum number of entries of a trace.
use Rattle.std.specs.Prelude.{◌≡◌, ℕ, ◌+◌, ◌<◌, List, [], length, take, Option, None, Some, IfSome}
use Rattle.std.specs.Io.KnownBytes.{Appends, Keeps}
use Rattle.causal_trace.specs.Rows.{Recording}
use Rattle.causal_lines.specs.Canonical.{canonical_text}
use Rattle.causal_merge.specs.Merges.{MergesFrom, IsFirstMergeFaultWithin}
use Rattle.causal_merge.specs.Reading.{max_input_len}
use Rattle.causal_merge.specs.FaultLine.{merge_fault_line}
use Rattle.causal_merge.specs.declared.fault.MergeFault.{MergeFault}
use Rattle.causal_merge.specs.declared.origins.Origin.{Origin}
use Rattle.causal_outcomes.specs.declared.ended.Ended.{Ended}
use Rattle.causal_outcomes.specs.declared.ended.Ended.TheVariants.{Merged, Faulted, ReadFault, WriteFault, NoMemory}
use Rattle.causal_outcomes.specs.declared.merge_command.Mapping.{Mapping}
use Rattle.causal_outcomes.specs.declared.merge_command.Mapping.TheVariants.{Mapped, Unmapped}
use Rattle.causal_outcomes.specs.declared.merge_command.MergeOutcome.{MergeOutcome}
use Rattle.causal_outcomes.specs.Excerpts.{excerpt}
use Rattle.causal_outcomes.specs.Reading.{ReadsAtMost}

-- the bytes that are read: at most one more than recorder files may have
abbrev pub bytes_read : ℕ → List ℕ → List ℕ
bytes_read most text = take (max_input_len most + 1) text

-- the origins that are returned with a trace: all, if they are wanted
abbrev pub returned_origins : Mapping → List Origin → List Origin
returned_origins Mapped origins = origins
returned_origins Unmapped origins = []

-- the files merge into a trace: the output is its canonical text, and the outcome has the torn lines, the origins of the
-- entries if they are wanted, and no error
pub record IsMergedTrace (most : ℕ) (mapping : Mapping) (text : List ℕ) (m : MergeOutcome) (out : List ℕ) : Type 0 where
  pub recording : Recording
  pub origins : List Origin
  pub merges : MergesFrom most text recording m.torn.items origins
  pub spelled : out ≡ canonical_text recording
  pub returned : m.origins.items ≡ returned_origins mapping origins
  pub faultless : m.fault ≡ None

-- the files do not merge: the output is the line of their first error, and the outcome has that error alone
pub record IsMergeFaultAnswer (most : ℕ) (text : List ℕ) (m : MergeOutcome) (out : List ℕ) : Type 0 where
  pub fault : MergeFault
  pub first : IsFirstMergeFaultWithin most text fault
  pub line : out ≡ merge_fault_line fault
  pub faulty : m.fault ≡ Some fault
  pub whole : m.torn.items ≡ []
  pub unmapped : m.origins.items ≡ []

-- the answer to recorder files, by the ending, with what the outcome has besides
abbrev pub IsMergeAnswer : ℕ → Mapping → Ended → List ℕ → MergeOutcome → List ℕ → Type 0
IsMergeAnswer most mapping Merged text m out = IsMergedTrace most mapping text m out
IsMergeAnswer most mapping Faulted text m out = IsMergeFaultAnswer most text m out
IsMergeAnswer most mapping _ text m out = ⊥

-- the outcome has neither torn lines nor origins nor an error
abbrev pub ReturnsNothing : MergeOutcome → Type 0
ReturnsNothing m = (m.torn.items ≡ []) × (m.origins.items ≡ []) × (m.fault ≡ None)

-- the writer's contents before and after, by the ending: the whole answer is appended; after a write fault a proper
-- prefix of it; else nothing is written, and the outcome has nothing else
abbrev pub WritesMerge : ℕ → Mapping → Ended → List ℕ → MergeOutcome → Option (List ℕ) → Option (List ℕ) → Type 0
WritesMerge most mapping ReadFault text m old new = Keeps old new × ReturnsNothing m
WritesMerge most mapping NoMemory text m old new = Keeps old new × ReturnsNothing m
WritesMerge most mapping WriteFault text m old new =
    (ended : Ended) × (out : List ℕ) × (n : ℕ) × IsMergeAnswer most mapping ended text m out × (n < length out) × Appends old new (take n out)
WritesMerge most mapping ended text m old new = (out : List ℕ) × IsMergeAnswer most mapping ended text m out × Appends old new out

-- `WritesMerge` for the bytes read from a reader, if its bytes are known
abbrev pub WritesMergeFor : ℕ → Mapping → Option (List ℕ) → MergeOutcome → Option (List ℕ) → Option (List ℕ) → Type 0
WritesMergeFor most mapping given m old new = IfSome given (λ text. WritesMerge most mapping m.ended (bytes_read most text) m old new)

-- an outcome with an error has the first bytes of the error's line in this text
abbrev pub HasExcerpt : List ℕ → MergeOutcome → Type 0
HasExcerpt text m = IfSome m.fault (λ fault. m.excerpt.items ≡ excerpt text fault.line)

-- `HasExcerpt` for the bytes read from a reader, if its bytes are known
abbrev pub HasExcerptFor : ℕ → Option (List ℕ) → MergeOutcome → Type 0
HasExcerptFor most given m = IfSome given (λ text. HasExcerpt (bytes_read most text) m)

-- the reader advances by at most the bytes that are read of recorder files
abbrev pub ReadsAtMostRecordings : ℕ → Option (List ℕ) → Option (List ℕ) → Type 0
ReadsAtMostRecordings most old new = ReadsAtMost (max_input_len most + 1) old new
