-- Lemmas: words are determined by the members of the set that they represent.
use Rattle.std.specs.Prelude.{List, [], ◌∷◌, slice_index, ◌≡◌, ℕ, ◌+◌, ◌*◌, ◌/◌, ◌%◌, ◌^◌, ◌<◌, Bool, true, false, ◌&&◌, ◌||◌, if◌then◌else◌, nat_lt, nat_eq}
use Rattle.std.proofs.Common.{zero, suc, refl, arith, ap, sym, ◌∙◌}
use Rattle.std.specs.Ordering.{nat_cmp}
use Rattle.std.specs.Cmp.{nat_cmp_total}
use Rattle.std.specs.FinSet.{FinSet, insert, contains, contains-empty, contains-insert}
use Rattle.std.proofs.lemmas.Bool.Decides.{nat_tests}
use Rattle.std.proofs.lemmas.Nat.Bits.{bit_at-lt}
use Rattle.std.proofs.Math.Nat.{mod-eq_of_lt}
use Rattle.std.proofs.lemmas.Nat.{mod-pow-add}
use Rattle.std.proofs.lemmas.Grind.{same_number_lists}
use Rattle.causal_holders.specs.declared.TheConstants.{PROCESSES}
use Rattle.causal_holders.specs.Members.{numbers_below}
use Rattle.causal_holders.specs.Inside.Words.{has_bit, has_member, AreWords, word_below, word_at, words_of}

contains-one_more : (b : Bool) (s : FinSet nat_cmp) (n q : ℕ) → contains (if b then insert s n else s) q ≡ ((b && nat_eq q n) || contains s q)
contains-one_more true s n q = grind (arith, nat_tests, contains-insert nat_cmp_total s n q)
contains-one_more false s n q = refl

pub contains-numbers_below : (n : ℕ) (p : ℕ → Bool) (q : ℕ) → contains (numbers_below n p) q ≡ (nat_lt q n && p q)
unfolding numbers_below
contains-numbers_below zero p q = grind (arith, nat_tests, contains-empty)
contains-numbers_below (suc n) p q = contains-one_more (p n) (numbers_below n p) n q ∙ grind (arith, nat_tests, contains-numbers_below n p q)

pub word_below-same : (n : ℕ) (p r : ℕ → Bool) → ((k : ℕ) → k < n → p k ≡ r k) → word_below n p ≡ word_below n r
unfolding word_below
word_below-same zero p r h = refl
word_below-same (suc n) p r h =
    let top : p n ≡ r n = h n (omega arith) in
    let rest : word_below n p ≡ word_below n r = word_below-same n p r (λ k below. h k (omega arith)) in
    λ i. (if top i then 2 ^ n else 0) + rest i

pub mod_suc : (w n : ℕ) → w / 2 ^ n % 2 * 2 ^ n + w % 2 ^ n ≡ w % 2 ^ suc n
mod_suc w n = let next : 1 + n ≡ suc n = omega arith in sym (mod-pow-add w 1 n) ∙ ap (λ (k : ℕ). w % 2 ^ k) next

pub word_below-has_bit : (n w : ℕ) → word_below n (has_bit w) ≡ w % 2 ^ n
unfolding word_below
word_below-has_bit zero w = omega arith
word_below-has_bit (suc n) w = grind (arith, nat_tests, bit_at-lt w n, word_below-has_bit n w, mod_suc w n)

part_shown : (words : List ℕ) (i : ℕ) → AreWords words → i < 4 → word_at (contains (numbers_below PROCESSES (has_member words))) i ≡ slice_index words i
part_shown words i a h =
    word_below-same 64 _ (has_bit (slice_index words i)) (λ k below. grind (arith, nat_tests, contains-numbers_below PROCESSES (has_member words) (64 * i + k)))
    ∙ word_below-has_bit 64 (slice_index words i)
    ∙ mod-eq_of_lt (a.small i)

pub of_four : (f : ℕ → ℕ) (i : ℕ) → i < 4 → slice_index (f 0 ∷ f 1 ∷ f 2 ∷ f 3 ∷ []) i ≡ f i
of_four f zero h = refl
of_four f (suc zero) h = refl
of_four f (suc (suc zero)) h = refl
of_four f (suc (suc (suc zero))) h = refl
of_four f (suc (suc (suc (suc i)))) h = absurd (omega arith)

pub words_shown : (words : List ℕ) → AreWords words → words_of (contains (numbers_below PROCESSES (has_member words))) ≡ words
unfolding words_of
words_shown words a = same_number_lists _ words (sym a.count) (λ i below. of_four (word_at (contains (numbers_below PROCESSES (has_member words)))) i below ∙ part_shown words i a below)
