-- Parts that are added for one item after another.
use Rattle.std.proofs.Common.{◌≡◌, ◌+◌, ◌<◌, ◌++◌, ◌∙◌, ℕ, List, [], ◌∷◌, flat_map, length, get_or, drop, suc, refl, sym, add-one, append_assoc, drop-cons}
use Rattle.std.specs.Prelude.{Option, Some, None}
use Rattle.std.specs.List.{filter_map}
use Rattle.causal_picture.specs.declared.part.DrawnPart.{DrawnPart}

-- the parts so far and those of the remaining items make up the whole list also after the parts of the next item
pub next_parts : {X Y : Type 0} (f : X → List Y) (xs : List X) (i : ℕ) (d : X) (all before after : List Y) → i < length xs
    → all ≡ before ++ flat_map f (drop i xs) → after ≡ before ++ f (get_or xs i d) → all ≡ after ++ flat_map f (drop (i + 1) xs)
next_parts f xs i d all before after within whole added =
    rw (whole, added, add-one i, drop-cons xs i d within) (sym (append_assoc before (f (get_or xs i d)) (flat_map f (drop (suc i) xs))))

module _ {X Y : Type 0} (f : X → Option Y) (xs : List X) (i : ℕ) (d : X) (all before after : List Y) (within : i < length xs) (whole : before ++ filter_map f (drop i xs) ≡ all) where
  -- what was found so far and what the remaining items give is all, after an item that gives something
  pub next_found : (y : Y) → f (get_or xs i d) ≡ Some y → after ≡ before ++ (y ∷ []) → after ++ filter_map f (drop (i + 1) xs) ≡ all
  next_found y found added =
      rw (added, add-one i, ← whole, drop-cons xs i d within, found) (append_assoc before (y ∷ []) (filter_map f (drop (suc i) xs)))

  -- the same after one that gives nothing
  pub next_missed : f (get_or xs i d) ≡ None → after ≡ before → after ++ filter_map f (drop (i + 1) xs) ≡ all
  next_missed missed same = rw (same, add-one i, ← whole, drop-cons xs i d within, missed) refl

-- two lists of parts, one after the other
pub two_parts : (x y z a b : List DrawnPart) → y ≡ x ++ a → z ≡ y ++ b → z ≡ x ++ (a ++ b)
two_parts x y z a b first last = rw (last, first) (append_assoc x a b)

-- five lists of parts, one after another
pub five_parts : (x y z w v u a b c d e : List DrawnPart) → x ≡ [] → y ≡ x ++ a → z ≡ y ++ b → w ≡ z ++ c → v ≡ w ++ d → u ≡ v ++ e → u ≡ a ++ (b ++ (c ++ (d ++ e)))
five_parts x y z w v u a b c d e none first second third fourth last =
    rw (last, fourth, third, second, first, none) (append_assoc ((a ++ b) ++ c) d e ∙ (append_assoc (a ++ b) c (d ++ e) ∙ append_assoc a b (c ++ (d ++ e))))
