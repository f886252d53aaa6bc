-- The printed line of a verdict.
use Rattle.std.specs.Prelude.{ℕ, List, [], ◌∷◌, ◌++◌, codes}
use Rattle.std.specs.Fmt.{decimal}
use Rattle.std.specs.List.{join_by}
use Rattle.std.specs.Ordering.{nat_cmp}
use Rattle.std.specs.FinSet.{FinSet}
use Rattle.causal_holders.specs.Members.{ascending}
use Rattle.causal_audit.specs.declared.verdict.Verdict.{Verdict}
use Rattle.causal_audit.specs.declared.verdict.Verdict.TheVariants.{Accept, Exceeded, Orphan}
use Rattle.causal_audit.specs.declared.judged.Judged.{Judged}

-- numbers joined by commas; `-` if there is none
abbrev pub joined_by_commas : List ℕ → List ℕ
joined_by_commas [] = codes "-"
joined_by_commas (p ∷ ps) = join_by decimal (codes ",") (p ∷ ps)

-- the processes of a set, ascending and joined by commas; `-` for the empty set
unfoldable pub set_text : FinSet nat_cmp → List ℕ
set_text s = joined_by_commas (ascending s)

-- the line of an `Accept` verdict
abbrev pub accept_line : ℕ → ℕ → ℕ → List ℕ
accept_line f entries deliveries =
    codes "accept f=" ++ (decimal f ++ (codes " entries=" ++ (decimal entries ++ (codes " deliveries=" ++ (decimal deliveries ++ codes "\n")))))

-- the line of an `Exceeded` verdict
abbrev pub exceeded_line : ℕ → ℕ → FinSet nat_cmp → List ℕ
exceeded_line f instant down =
    codes "exceeded f=" ++ (decimal f ++ (codes " instant=" ++ (decimal instant ++ (codes " down=" ++ (set_text down ++ codes "\n")))))

-- the line of an `Orphan` verdict
abbrev pub orphan_line : ℕ → ℕ → ℕ → FinSet nat_cmp → ℕ → List ℕ
orphan_line f instant delivery crash orphan =
    codes "orphan f=" ++ (decimal f ++ (codes " instant=" ++ (decimal instant ++ (codes " delivery=" ++ (decimal delivery
    ++ (codes " crash=" ++ (set_text crash ++ (codes " orphan=" ++ (decimal orphan ++ codes "\n")))))))))

-- the line of a verdict for f on a trace with these numbers of entries and deliveries
abbrev pub line_of : ℕ → ℕ → ℕ → Verdict → List ℕ
line_of f entries deliveries Accept = accept_line f entries deliveries
line_of f entries deliveries (Exceeded instant down) = exceeded_line f instant down
line_of f entries deliveries (Orphan instant delivery crash orphan) = orphan_line f instant delivery crash orphan

-- the line of a judgement for f
abbrev pub verdict_line : ℕ → Judged → List ℕ
verdict_line f judged = line_of f judged.entries judged.deliveries judged.verdict
