-- What the operations on words do to the sets that the words represent.
use Rattle.std.specs.Prelude.{List, [], ◌∷◌, slice_index, ◌≡◌, ℕ, ◌+◌, ◌*◌, ◌/◌, ◌%◌, ◌^◌, ◌<◌, Bool, true, false, ◌&&◌, if◌then◌else◌, nat_lt, nat_eq, bit_or, bit_and}
use Rattle.std.proofs.Common.{get_or-set_other, zero, suc, arith, ap, sym, ◌∙◌, subst, w64}
use Rattle.std.specs.Ordering.{nat_cmp}
use Rattle.std.specs.Cmp.{nat_cmp_total, both_ways}
use Rattle.std.specs.FinSet.{FinSet, empty, insert, remove, union, difference, is_subset, len, contains, contains-empty, contains-insert, contains-remove, contains-union, contains-difference, same_set, nat_cmp-IsAntisymmetric, len-insert, len-empty, is_subset-contains, contains-is_subset}
use Rattle.std.specs.Cmp.Lexicographic.{pointwise, same_text}
use Rattle.std.proofs.lemmas.Cmp.{nat_list_eq_equiv}
use Rattle.std.proofs.lemmas.Grind.{get_or-set_at}
use Rattle.std.specs.Int.{bit_at, bit_not, trailing_zeros}
use Rattle.std.specs.Int.Count.{ones, ones_cat, ones-ones}
use Rattle.std.proofs.Math.Nat.{mod-eq_of_lt, mod-lt}
use Rattle.std.proofs.Math.Pow.{pow_pos}
use Rattle.std.proofs.lemmas.Nat.{or_lt}
use Rattle.causal_holders.specs.Members.{IsLeast, numbers_below}
use Rattle.std.proofs.lemmas.Bool.Decides.{nat_tests}
use Rattle.std.proofs.lemmas.Nat.Bits.{bit_at-zero, bit_at-lt, bit_at_or, bit_at_and, bit_at_not, bit_at_set_same, bit_at_set_other, bit_at_clear_same, bit_at_clear_other, shr_and_one, bit_at-trailing_zeros}
use Rattle.causal_holders.specs.Inside.Words.{has_bit, has_member, AreWords, words_of}
use Rattle.causal_holders.specs.Inside.WordLemmas.{of_four, contains-numbers_below, mod_suc, words_shown}
use Rattle.causal_holders.specs.SameMembers.{have_same_members, have_same_members-itself, same_members_equal}
use Rattle.std.proofs.Math.ListN.{set}

-- the set that four words represent
abbrev pub shown : List ℕ → FinSet nat_cmp
shown ws = numbers_below 256 (has_member ws)

pub contains-shown : (ws : List ℕ) (q : ℕ) → contains (shown ws) q ≡ (nat_lt q 256 && has_member ws q)
contains-shown ws q = contains-numbers_below 256 (has_member ws) q

shown_is : (ws : List ℕ) (s : FinSet nat_cmp) → ((q : ℕ) → (nat_lt q 256 && has_member ws q) ≡ contains s q) → shown ws ≡ s
shown_is ws s h = same_set nat_cmp_total nat_cmp-IsAntisymmetric _ _ (λ q. contains-shown ws q ∙ h q)

-- setting bit p inserts p into the set
pub inserted : (ws : List ℕ) (p : ℕ) → AreWords ws → p < 256 → shown (set ws (p / 64) (bit_or (slice_index ws (p / 64)) (1 * 2 ^ (p % 64) % 2 ^ 64))) ≡ insert (shown ws) p
inserted ws p a h =
    shown_is _ _ (λ q. grind (arith, nat_tests, get_or-set_at, get_or-set_other, bit_at_set_same w64, bit_at_set_other w64, contains-insert nat_cmp_total (shown ws) p q, contains-shown ws q))

-- the words with one bit cleared
abbrev pub cleared : List ℕ → ℕ → ℕ
cleared ws p = bit_and (slice_index ws (p / 64)) (bit_not w64 (1 * 2 ^ (p % 64) % 2 ^ 64))

-- clearing bit p removes p from the set
pub removed : (ws : List ℕ) (p : ℕ) → AreWords ws → p < 256 → shown (set ws (p / 64) (cleared ws p)) ≡ remove (shown ws) p
removed ws p a h =
    shown_is _ _ (λ q. grind (arith, nat_tests, get_or-set_at, get_or-set_other, bit_at_clear_same w64, bit_at_clear_other w64, contains-remove nat_cmp_total (shown ws) p q, contains-shown ws q))

-- ---- word by word

unfoldable pub or_words : List ℕ → List ℕ → List ℕ
or_words ws vs = bit_or (slice_index ws 0) (slice_index vs 0) ∷ bit_or (slice_index ws 1) (slice_index vs 1) ∷ bit_or (slice_index ws 2) (slice_index vs 2) ∷ bit_or (slice_index ws 3) (slice_index vs 3) ∷ []

unfoldable pub without_words : List ℕ → List ℕ → List ℕ
without_words ws vs = bit_and (slice_index ws 0) (bit_not w64 (slice_index vs 0)) ∷ bit_and (slice_index ws 1) (bit_not w64 (slice_index vs 1)) ∷ bit_and (slice_index ws 2) (bit_not w64 (slice_index vs 2)) ∷ bit_and (slice_index ws 3) (bit_not w64 (slice_index vs 3)) ∷ []

or_word : (ws vs : List ℕ) (i : ℕ) → i < 4 → slice_index (or_words ws vs) i ≡ bit_or (slice_index ws i) (slice_index vs i)
unfolding or_words
or_word ws vs = of_four (λ i. bit_or (slice_index ws i) (slice_index vs i))

without_word : (ws vs : List ℕ) (i : ℕ) → i < 4 → slice_index (without_words ws vs) i ≡ bit_and (slice_index ws i) (bit_not w64 (slice_index vs i))
unfolding without_words
without_word ws vs = of_four (λ i. bit_and (slice_index ws i) (bit_not w64 (slice_index vs i)))

-- a bitwise or represents the union
pub united : (ws vs : List ℕ) → shown (or_words ws vs) ≡ union (shown ws) (shown vs)
united ws vs =
    shown_is _ _ (λ q. grind (arith, nat_tests, or_word, bit_at_or, contains-union nat_cmp_total (shown ws) (shown vs) q, contains-shown ws q, contains-shown vs q))

-- the bits of one list that are not set in the other represent the difference
pub without : (ws vs : List ℕ) → AreWords vs → shown (without_words ws vs) ≡ difference (shown ws) (shown vs)
without ws vs a =
    shown_is _ _ (λ q. grind (arith, nat_tests, without_word, bit_at_and, bit_at_not w64, a.small (q / 64), contains-difference nat_cmp_total (shown ws) (shown vs) q, contains-shown ws q, contains-shown vs q))

-- ---- number of members

ones_of_bit : (x : ℕ) → x < 2 → ones x ≡ (if nat_lt 0 x then 1 else 0)
ones_of_bit x h = grind (arith, nat_tests, ones-ones 0, ones-ones 1)

len-one_more : (b : Bool) (s : FinSet nat_cmp) (n : ℕ) → contains s n ≡ false → len (if b then insert s n else s) ≡ (if b then 1 else 0) + len s
len-one_more true s n h = grind (arith, len-insert nat_cmp_total s n)
len-one_more false s n h = omega arith

-- the members of one word, after those of the words before it
len-part : (n base w : ℕ) (p : ℕ → Bool) → ((k : ℕ) → k < n → p (base + k) ≡ has_bit w k) → len (numbers_below (base + n) p) ≡ len (numbers_below base p) + ones (w % 2 ^ n)
unfolding numbers_below
len-part zero base w p h = grind (arith, ones-ones 0)
len-part (suc n) base w p h =
    let next : base + suc n ≡ suc (base + n) = omega arith in
    ap (λ (k : ℕ). len (numbers_below k p)) next ∙ len-one_more (p (base + n)) (numbers_below (base + n) p) (base + n) (grind (arith, nat_tests, contains-numbers_below (base + n) p (base + n)))
    ∙ grind (arith, len-part n base w p, h n, ones_of_bit (bit_at w n) (bit_at-lt w n), ones_cat n (bit_at w n) (w % 2 ^ n) (mod-lt w (pow_pos n)), ap ones (mod_suc w n))

part_bits : (ws : List ℕ) (i k : ℕ) → k < 64 → has_member ws (64 * i + k) ≡ has_bit (slice_index ws i) k
part_bits ws i k h =
    let q : (64 * i + k) / 64 ≡ i = omega arith in
    let r : (64 * i + k) % 64 ≡ k = omega arith in
    λ j. has_bit (slice_index ws (q j)) (r j)

len-word : (ws : List ℕ) (i : ℕ) → AreWords ws → len (numbers_below (64 * i + 64) (has_member ws)) ≡ len (numbers_below (64 * i) (has_member ws)) + ones (slice_index ws i)
len-word ws i a = len-part 64 (64 * i) (slice_index ws i) (has_member ws) (λ k. part_bits ws i k) ∙ ap (λ (k : ℕ). len (numbers_below (64 * i) (has_member ws)) + ones k) (mod-eq_of_lt (a.small i))

none_below_zero : (p : ℕ → Bool) → len (numbers_below 0 p) ≡ 0
unfolding numbers_below
none_below_zero p = len-empty nat_cmp

-- the words have as many set bits as the set has members
pub len-shown : (ws : List ℕ) → AreWords ws → ones (slice_index ws 0) + ones (slice_index ws 1) + ones (slice_index ws 2) + ones (slice_index ws 3) ≡ len (shown ws)
len-shown ws a = omega (arith, none_below_zero (has_member ws), len-word ws 0 a, len-word ws 1 a, len-word ws 2 a, len-word ws 3 a)

-- ---- the rest

-- a bitwise or of words is a word
pub or_fits : (a b : ℕ) → a < 2 ^ 64 → b < 2 ^ 64 → bit_or a b < 2 ^ 64
or_fits = or_lt 64

-- bit p is set if and only if p is a member
pub bit_is : (ws : List ℕ) (p : ℕ) → p < 256 → nat_eq (bit_and (slice_index ws (p / 64) / 2 ^ (p % 64)) 1) 1 ≡ contains (shown ws) p
bit_is ws p h = grind (arith, nat_tests, shr_and_one (slice_index ws (p / 64)) (p % 64), bit_at-lt (slice_index ws (p / 64)) (p % 64), contains-shown ws p)

-- each member is below 256
pub shown_below : (ws : List ℕ) (q : ℕ) → contains (shown ws) q ≡ true → q < 256
shown_below ws q h = grind (arith, nat_tests, contains-shown ws q)

-- ---- the least member

-- if no word is other than 0, the set is empty
pub shown_empty : (ws : List ℕ) → ((i : ℕ) → i < 4 → slice_index ws i ≡ 0) → shown ws ≡ empty
shown_empty ws none = shown_is ws _ (λ q. grind (arith, nat_tests, none (q / 64), bit_at-zero (q % 64), contains-empty))

-- zero words represent the empty set
pub shown_none : shown (0 ∷ 0 ∷ 0 ∷ 0 ∷ []) ≡ empty
shown_none = shown_empty (0 ∷ 0 ∷ 0 ∷ 0 ∷ []) (of_four (λ _. 0))

-- the lowest bit of the first word that is not 0 is the least member
pub lowest : (ws : List ℕ) (i : ℕ) → AreWords ws → i < 4 → 0 < slice_index ws i → ((k : ℕ) → k < i → slice_index ws k ≡ 0) → IsLeast (shown ws) (64 * i + trailing_zeros w64 (slice_index ws i))
lowest ws i a there pos none =
    let t = trailing_zeros w64 (slice_index ws i) in
    let at = bit_at-trailing_zeros w64 (slice_index ws i) pos (a.small i) in (
      grind (arith, nat_tests, contains-shown ws (64 * i + t), part_bits ws i t at.0, at.1),
      λ q in_set. grind (arith, nat_tests, contains-shown ws q, none (q / 64), bit_at-zero (q % 64), at.2 (q % 64)),
    )

-- words whose sets have the same members are equal
pub same_words : (ws vs : List ℕ) → AreWords ws → AreWords vs → pointwise nat_eq ws vs ≡ have_same_members (shown ws) (shown vs)
same_words ws vs a b =
    both_ways _ _
    (λ e. subst (λ xs. have_same_members (shown ws) (shown xs) ≡ true) (same_text ws vs (sym e)) (have_same_members-itself (shown ws)))
    (λ e. subst (λ xs. pointwise nat_eq ws xs ≡ true) (same_shown e) (nat_list_eq_equiv.refl ws))
  where
    same_shown : have_same_members (shown ws) (shown vs) ≡ true → ws ≡ vs
    same_shown h =
        sym (words_shown ws a)
        ∙ ap (λ s. words_of (contains s)) (same_members_equal (shown ws) (shown vs) h)
        ∙ words_shown vs b

-- ---- the difference of a subset is empty

-- a difference is empty if and only if the first set is a subset of the second
pub nothing_left : (s t : FinSet nat_cmp) → have_same_members (difference s t) empty ≡ is_subset s t
nothing_left s t =
    both_ways _ _
    (λ e. contains-is_subset nat_cmp_total s t (λ q in_s. grind (arith, contains-difference nat_cmp_total s t q, same_members_equal (difference s t) empty e, contains-empty)))
    (λ e. subst (λ u. have_same_members u empty ≡ true) (sym (same_set nat_cmp_total nat_cmp-IsAntisymmetric (difference s t) empty (λ q. grind (arith, contains-difference nat_cmp_total s t q, is_subset-contains nat_cmp_total s t e q, contains-empty)))) (have_same_members-itself empty))
