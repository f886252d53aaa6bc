-- The printed line of an error of recorder files.
use Rattle.std.specs.Prelude.{ℕ, List, ◌++◌, codes, decimal}
use Rattle.causal_line.specs.FaultLine as text
use Rattle.causal_merge.specs.declared.fault.MergeKind.{MergeKind}
use Rattle.causal_merge.specs.declared.fault.MergeKind.TheVariants as kind
use Rattle.causal_merge.specs.declared.fault.MergeFault.{MergeFault}

-- `fault line=LINE NAME` and a line feed
abbrev pub named_line : ℕ → List ℕ → List ℕ
named_line line name = codes "fault line=" ++ (decimal line ++ (codes " " ++ (name ++ codes "\n")))

-- the line of an error of this kind
abbrev pub kind_line : ℕ → MergeKind → List ℕ
kind_line line (kind.NoHeader missing) = named_line line (codes "NoHeader")
kind_line line kind.Twice = named_line line (codes "Twice")
kind_line line (kind.Line k) = text.fault_line (record { line = line; kind = k })

-- an error that a trace's text may have prints as it does there
abbrev pub merge_fault_line : MergeFault → List ℕ
merge_fault_line f = kind_line f.line f.kind
