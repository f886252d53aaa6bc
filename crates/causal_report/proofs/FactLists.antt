-- Facts that are appended for one item after another.
use Rattle.std.proofs.Common.{◌≡◌, ◌+◌, ◌<◌, ◌++◌, ℕ, List, [], ◌∷◌, map, length, get_or, drop, suc, add-one, append_assoc, drop-cons}

-- the facts so far and those of the remaining items are all also after that of the next item
pub next_fact : {X A : Type 0} (f : X → A) (xs : List X) (i : ℕ) (d : X) (all before after : List A) → i < length xs
    → before ++ map f (drop i xs) ≡ all → after ≡ before ++ f (get_or xs i d) ∷ [] → after ++ map f (drop (i + 1) xs) ≡ all
next_fact f xs i d all before after within whole added =
    rw (added, add-one i, ← whole, drop-cons xs i d within) (append_assoc before (f (get_or xs i d) ∷ []) (map f (drop (suc i) xs)))
