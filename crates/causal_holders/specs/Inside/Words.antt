-- Bit sets of four 64-bit words.
use Rattle.std.specs.Prelude.{List, [], ◌∷◌, length, slice_index, ◌≡◌, ℕ, ◌+◌, ◌*◌, ◌/◌, ◌%◌, ◌^◌, ◌<◌, Bool, if◌then◌else◌, nat_lt}
use Rattle.std.proofs.Common.{zero, suc}
use Rattle.std.specs.Int.{bit_at}

-- whether bit k of a word is set
abbrev pub has_bit : ℕ → ℕ → Bool
has_bit word k = nat_lt 0 (bit_at word k)

-- whether a number is a member of the set that 64-bit words represent
abbrev pub has_member : List ℕ → ℕ → Bool
has_member words k = has_bit (slice_index words (k / 64)) (k % 64)

-- four words, each below 2^64
pub record AreWords (words : List ℕ) : Type 0 where
  pub count : length words ≡ 4
  pub small : (i : ℕ) → slice_index words i < 2 ^ 64

-- the word of n bits in which the bits that pass the test are set
unfoldable pub word_below : ℕ → (ℕ → Bool) → ℕ
word_below zero test = 0
word_below (suc n) test = (if test n then 2 ^ n else 0) + word_below n test

-- the word for the numbers from 64 * i on
abbrev pub word_at : (ℕ → Bool) → ℕ → ℕ
word_at test i = word_below 64 (λ k. test (64 * i + k))

-- the four words in which the bits that pass the test are set
unfoldable pub words_of : (ℕ → Bool) → List ℕ
words_of test = word_at test 0 ∷ word_at test 1 ∷ word_at test 2 ∷ word_at test 3 ∷ []
