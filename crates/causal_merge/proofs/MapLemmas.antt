-- The lines of a map, one after another.
use Rattle.std.proofs.Common.{◌≡◌, ◌+◌, ◌<◌, ◌++◌, ℕ, suc, List, length, get_or, drop, ap, add-one, append_assoc, drop-cons}
use Rattle.causal_merge.specs.declared.input_files.InputFile.{InputFile}
use Rattle.causal_merge.specs.declared.origins.Origin.{Origin}
use Rattle.causal_merge.specs.Maps.{entry_line, map_from}

-- the lines so far and those of the remaining entries make up the whole map also after one more line
pub next_line : (files : List InputFile) (origins : List Origin) (k : ℕ) (d : Origin) (all before after line : List ℕ) → k < length origins
    → before ++ map_from files k (drop k origins) ≡ all → after ≡ before ++ line → line ≡ entry_line files k (get_or origins k d)
    → after ++ map_from files (k + 1) (drop (k + 1) origins) ≡ all
next_line files origins k d all before after line within whole added is =
    rw (added, is, ap (λ n. drop n origins) (add-one k), ← whole, drop-cons origins k d within)
    (append_assoc before (entry_line files k (get_or origins k d)) (map_from files (k + 1) (drop (suc k) origins)))
