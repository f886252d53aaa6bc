-- Texts of printable characters: the digits of a number, and what follows them or words.
use Rattle.std.proofs.Common.{◌≡◌, ◌<◌, ◌++◌, ℕ, Bool, true, false, List, [], ◌∷◌, zero, suc, refl, ap, ◌∙◌, arith}
use Rattle.std.specs.Prelude.{◌/◌, ◌%◌, ◌==◌, ◌&&◌, if◌then◌else◌, decimal}
use Rattle.std.specs.Fmt.{digit_glyph, digits_onto, digits}
use Rattle.std.specs.List.{list_all}
use Rattle.std.proofs.lemmas.List.Folds.{list_all-append}
use Rattle.causal_answers.specs.Sentences.{is_printable, IsPrintable}

printable_glyph : (d : ℕ) → d < 10 → is_printable (digit_glyph false d) ≡ true
printable_glyph d low = grind arith

either : (b : Bool) (xs ys : List ℕ) → IsPrintable xs → IsPrintable ys → IsPrintable (if b then xs else ys)
either true xs ys p q = p
either false xs ys p q = q

first : (x : ℕ) (xs : List ℕ) → is_printable x ≡ true → IsPrintable xs → IsPrintable (x ∷ xs)
first x xs p q = rw p q

onto_printable : (k n : ℕ) (acc : List ℕ) → IsPrintable acc → IsPrintable (digits_onto k 10 false n acc)
onto_printable zero n acc p = p
onto_printable (suc k) n acc p =
    let more = first (digit_glyph false (n % 10)) acc (printable_glyph (n % 10) (omega arith)) p in
    either (n / 10 == 0) _ _ more (onto_printable k (n / 10) _ more)

-- a number is printable
pub printable_number : (n : ℕ) → list_all is_printable (decimal n) ≡ true
unfolding digits
printable_number n = onto_printable 64 n [] refl

-- and so is what follows it, if that is
pub printable_then : (n : ℕ) (rest : List ℕ) → list_all is_printable (decimal n ++ rest) ≡ list_all is_printable rest
printable_then n rest = list_all-append is_printable (decimal n) rest ∙ ap (λ b. b && list_all is_printable rest) (printable_number n)

-- what follows printable words is printable if it is so by itself
pub printable_after : (words rest : List ℕ) → list_all is_printable words ≡ true → list_all is_printable (words ++ rest) ≡ list_all is_printable rest
printable_after words rest h = list_all-append is_printable words rest ∙ ap (λ b. b && list_all is_printable rest) h

pub ruleset printable = (printable_number, printable_then)
