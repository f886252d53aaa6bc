-- The answer to recorder files, before it is written.
use Rattle.std.specs.Prelude.{◌≡◌, ◌≢◌, ℕ, List, Option, IfSome, ⊤}
use Rattle.causal_line.specs.declared.kind.TextKind.TheVariants as text_kind
use Rattle.causal_merge.specs.Merges.{MergesFrom, IsFirstMergeFaultWithin}
use Rattle.causal_merge.specs.declared.fault.MergeFault.{MergeFault}
use Rattle.causal_merge.specs.declared.fault.MergeKind.TheVariants as kind
use Rattle.causal_merge.specs.declared.merge.MergedTrace.{MergedTrace}
use Rattle.causal_merge.specs.declared.origins.Origin.{Origin}
use Rattle.causal_outcomes.specs.declared.ended.Ended.{Ended}
use Rattle.causal_outcomes.specs.declared.ended.Ended.TheVariants.{ReadFault, NoMemory}
use Rattle.causal_outcomes.specs.declared.merge_command.Mapping.{Mapping}
use Rattle.causal_outcomes.specs.declared.merge_command.MergeOutcome.{MergeOutcome}
use Rattle.causal_outcomes.specs.Merges.{IsMergeAnswer, bytes_read, returned_origins}

-- the outcome and the text answer these recorder files
abbrev pub IsMerge : ℕ → Mapping → List ℕ → MergeOutcome → List ℕ → Type 0
IsMerge most mapping text m out = IsMergeAnswer most mapping m.ended text m out

-- the answer to the bytes read from a reader, if its bytes are known
abbrev pub IsMergeFor : ℕ → Mapping → Option (List ℕ) → MergeOutcome → List ℕ → Type 0
IsMergeFor most mapping given m out = IfSome given (λ text. IsMerge most mapping (bytes_read most text) m out)

-- the answer to all recorder files that merge into this trace, with these torn lines, and of which these origins are
-- wanted
abbrev pub IsTraceOutcome : MergedTrace → List Origin → MergeOutcome → List ℕ → Type 0
IsTraceOutcome merged wanted m out = (most : ℕ) (mapping : Mapping) (text : List ℕ) (origins : List Origin)
    → MergesFrom most text merged.trace.recording merged.torn.items origins → wanted ≡ returned_origins mapping origins → IsMerge most mapping text m out

-- the answer to all recorder files whose first error this is; to any files if the error is `NoMemory`
abbrev pub IsFaultOutcome : MergeFault → MergeOutcome → List ℕ → Type 0
IsFaultOutcome fault m out = (most : ℕ) (mapping : Mapping) (text : List ℕ)
    → (fault.kind ≢ kind.Line text_kind.NoMemory → IsFirstMergeFaultWithin most text fault) → IsMerge most mapping text m out

-- the endings of a merge that write nothing
abbrev pub MergeWritesNothing : Ended → Type 0
MergeWritesNothing ReadFault = ⊤
MergeWritesNothing NoMemory = ⊤
MergeWritesNothing _ = ⊥
