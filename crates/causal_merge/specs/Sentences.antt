-- The error message of each kind of error of recorder files.
use Rattle.std.specs.Prelude.{ℕ, List, codes}
use Rattle.causal_line.specs.declared.kind.TextKind.{TextKind}
use Rattle.causal_line.specs.declared.kind.TextKind.TheVariants.{Header}
use Rattle.causal_line.specs.Sentences.{kind_sentence}
use Rattle.causal_merge.specs.declared.fault.MergeKind.{MergeKind}
use Rattle.causal_merge.specs.declared.fault.MergeKind.TheVariants as kind

-- the error message of a kind that a trace's text may have, too; it is the same but of a header
abbrev pub line_sentence : TextKind → List ℕ
line_sentence Header = codes "the header differs from the first one"
line_sentence k = kind_sentence k

-- the error message of a kind
abbrev pub sentence_of : MergeKind → List ℕ
sentence_of (kind.NoHeader missing) = codes "some process has no header"
sentence_of kind.Twice = codes "another line of this process has the same clock"
sentence_of (kind.Line k) = line_sentence k
