-- The bytes that were read from a reader, as a prefix of its bytes.
use Rattle.std.proofs.Common.{◌≡◌, ◌≤◌, ℕ, List, [], Option, None, Some, length, take, ◌++◌, sym, ap, subst, ◌∙◌, append-nil}
use Rattle.std.proofs.KnownBytes.{Consumes-trans}
use Rattle.std.specs.Prelude.{IfSome}
use Rattle.std.specs.Io.KnownBytes.{Consumes, IsAtEnd}
use Rattle.std.proofs.Math.Seq.{take-append_seam}
use Rattle.std.proofs.lemmas.List.{take_all}

-- at the end of the reader, all its bytes were read, so the first n if there are at most n
pub read_whole : (old new : Option (List ℕ)) (n : ℕ) (bs : List ℕ) → Consumes old new bs → IsAtEnd new → length bs ≤ n → IfSome old (λ text. bs ≡ take n text)
read_whole None new n bs all end few = tt
read_whole (Some xs) None n bs all end few = absurd all
read_whole (Some xs) (Some ys) n bs all end few =
    let whole : xs ≡ bs = all ∙ ap (λ l. bs ++ l) end ∙ append-nil bs in
    sym (ap (take n) whole ∙ take_all n bs few)

-- n bytes that were read are the first n of the reader
pub read_first : (old new : Option (List ℕ)) (n : ℕ) (bs : List ℕ) → Consumes old new bs → length bs ≡ n → IfSome old (λ text. bs ≡ take n text)
read_first None new n bs some all = tt
read_first (Some xs) None n bs some all = absurd some
read_first (Some xs) (Some ys) n bs some all =
    sym (ap (λ k. take k xs) (sym all) ∙ ap (take (length bs)) some ∙ take-append_seam bs ys)

-- a read of no bytes adds nothing
pub read_nothing : (a b c : Option (List ℕ)) (bs buffer : List ℕ) (n : ℕ) → Consumes a b bs → n ≡ 0 → Consumes b c (take n buffer) → Consumes a c bs
read_nothing a b c bs buffer n before none next =
    let piece : Consumes b c [] = subst (λ k. Consumes b c (take k buffer)) none next in
    subst (Consumes a c) (append-nil bs) (Consumes-trans a b c bs [] before piece)
