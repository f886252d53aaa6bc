-- Splitting a text at the first occurrence of a byte, and the decimal spelling of a number.
use Rattle.std.proofs.Common.{◌≡◌, ℕ, suc, ◌+◌, ◌-◌, ◌<◌, List, [], ◌∷◌, ◌++◌, length, take, drop, Bool, true, false, cond, eqb, ltb, Option, Some, None, refl, ap, sym, ◌∙◌, arith, option_map, length-append, ◌≢◌, ◌⊎◌, ◌≤◌, ◌^◌, get_or, leb, Result, Ok, Err, subst, decimal}
use Rattle.std.specs.List.{position_or_len}
use Rattle.std.proofs.lemmas.List.{drop-drop, take_rest}
use Rattle.std.proofs.lemmas.Bool.{eqb-true, eq-eqb, lt-ltb, and_parts, leb-true}
use Rattle.std.proofs.lemmas.Option.{none-some, gets, cond_some}
use Rattle.causal_script.specs.Inside.Reading.{split_at_byte, is_plain_number, parse_number, parse_process, parse_count}
use Rattle.std.specs.Prelude.{slice_get, ◌&&◌, nat_le, IsUtf8, if◌then◌else◌, OkIff}
use Rattle.std.specs.Str.{all_ascii_digits}
use Rattle.std.specs.Str.Parse.{digits_value, ParsesUnsigned}
use Rattle.std.proofs.lemmas.Bool.Decides.{nat_tests}
use Rattle.std.proofs.lemmas.Str.Parse.{IsNumeralModel, numerals_by_value, tells_all_ascii_digits, parse_plain}
use Rattle.std.proofs.lemmas.Str.{IsUtf8-from_ascii}
use Rattle.std.proofs.lemmas.Fmt.{IsAscii-decimal, digits_decimal, digits_value-decimal, decimal-digits_value, decimal_nonempty, first_decimal, decimal_digit}
use Rattle.causal_name.specs.declared.Pid.{Pid}

-- the byte does not occur
abbrev pub Lacks : ℕ → List ℕ → Type 0
Lacks byte [] = Unit {0}
Lacks byte (x ∷ xs) = (eqb x byte ≡ false) × Lacks byte xs

-- a text is split at a byte that does not occur before it
pub cut_front : (byte : ℕ) (xs ys : List ℕ) → Lacks byte xs → split_at_byte byte (xs ++ byte ∷ ys) ≡ Some (xs, ys)
cut_front byte [] ys h = let same : eqb byte byte ≡ true = eq-eqb byte byte refl in rw same refl
cut_front byte (x ∷ xs) ys h = rw (h.0, cut_front byte xs ys h.1) refl

-- a split text is the front, the byte and the rest
pub cut_whole : (byte : ℕ) (xs : List ℕ) (parts : List ℕ × List ℕ) → split_at_byte byte xs ≡ Some parts → xs ≡ parts.0 ++ byte ∷ parts.1
cut_whole byte [] parts e = absurd (none-some parts e)
cut_whole byte (x ∷ xs) parts e = grind (arith, cut_whole byte xs, eqb-true x byte)

-- the bytes before this index, and the bytes after it
abbrev pub parts_at : List ℕ → Option ℕ → Option (List ℕ × List ℕ)
parts_at xs None = None
parts_at xs (Some at) = Some (take at xs, drop (suc at) xs)

-- the first index of the byte, as `position` returns it
abbrev pub place_of : ℕ → List ℕ → Option ℕ
place_of byte xs = cond (ltb (position_or_len (λ b. eqb b byte) xs) (length xs)) (Some (position_or_len (λ b. eqb b byte) xs)) None

pub cut_position : (byte : ℕ) (xs : List ℕ) → split_at_byte byte xs ≡ parts_at xs (place_of byte xs)
cut_position byte [] = refl
cut_position byte (x ∷ xs) = by_test (eqb x byte) refl (cut_position byte xs) where
  shifted : (n m k : ℕ) → m ≡ suc n → k ≡ suc (length xs)
      → option_map (λ (q : List ℕ × List ℕ). (x ∷ q.0, q.1)) (parts_at xs (cond (ltb n (length xs)) (Some n) None)) ≡ parts_at (x ∷ xs) (cond (ltb m k) (Some m) None)
  shifted n m k e f = grind arith

  by_test : (b : Bool) → eqb x byte ≡ b → split_at_byte byte xs ≡ parts_at xs (place_of byte xs) → split_at_byte byte (x ∷ xs) ≡ parts_at (x ∷ xs) (place_of byte (x ∷ xs))
  by_test true t ih = let some : ltb 0 (length (x ∷ xs)) ≡ true = lt-ltb 0 (length (x ∷ xs)) (omega arith) in rw (t, some) refl
  by_test false t ih =
      rw (t, ih) (shifted (position_or_len (λ b. eqb b byte) xs) (1 + position_or_len (λ b. eqb b byte) xs) (length (x ∷ xs)) (omega arith) (omega arith))

-- a text is split at the first index of the byte, if it has one
pub cut_found : (byte : ℕ) (xs : List ℕ) (r s : Option ℕ) → r ≡ place_of byte xs → r ≡ s → split_at_byte byte xs ≡ parts_at xs s
cut_found byte xs r s found is = cut_position byte xs ∙ ap (parts_at xs) (sym found ∙ is)

-- the rest, as a slice
pub cut_slices : (byte : ℕ) (xs front back : List ℕ) (at : ℕ) → front ≡ take at xs → back ≡ drop at xs → split_at_byte byte xs ≡ Some (take at xs, drop (suc at) xs)
    → ◌≡◌ {A = Option (List ℕ × List ℕ)} (Some (front, take (length back - 1) (drop 1 back))) (split_at_byte byte xs)
cut_slices byte xs front back at f b e = grind (arith, take_rest back 1, drop-drop 1 at xs)

-- the part after the byte is shorter than the text
pub cut_shorter : (byte : ℕ) (xs : List ℕ) (parts : List ℕ × List ℕ) → split_at_byte byte xs ≡ Some parts → length parts.1 < length xs
cut_shorter byte xs parts e = grind (arith, cut_whole byte xs parts e, length-append parts.0 (byte ∷ parts.1))

-- digits spell the number that is their value
pub own : IsNumeralModel (λ ds. all_ascii_digits ds ≡ true) (digits_value 10)
own = numerals_by_value (λ ds. all_ascii_digits ds ≡ true) tells_all_ascii_digits

-- digits without a leading zero
pub record IsPlain (word : List ℕ) : Type 0 where
  pub digits : all_ascii_digits word ≡ true
  -- there is at least one digit
  pub some : 0 < length word
  pub lone : get_or word 0 0 ≡ 48 → length word ≡ 1

pub plain_is : (word : List ℕ) → is_plain_number word ≡ true → IsPlain word
plain_is word e = grind (arith, eq-eqb)

pub is_plain_number-from : (word : List ℕ) → IsPlain word → is_plain_number word ≡ true
is_plain_number-from word h = grind (arith, eqb-true)

pub decimal_plain : (n : ℕ) → n < 2 ^ 64 → IsPlain (decimal n)
decimal_plain n small = grind (arith, digits_decimal own n small, own, decimal_nonempty n small, decimal_digit, first_decimal)

-- the decimal spelling of a number is parsed as that number
pub parse_number-decimal : (limit n : ℕ) → n ≤ limit → n < 2 ^ 64 → parse_number limit (decimal n) ≡ Some n
unfolding parse_number
parse_number-decimal limit n within small = grind (arith, is_plain_number-from, decimal_plain, digits_value-decimal, own, nat_tests)

-- a token that is parsed as a number is its decimal spelling
pub decimal-number_of : (limit n : ℕ) (word : List ℕ) → limit < 2 ^ 64 → parse_number limit word ≡ Some n → (word ≡ decimal n) × (n ≤ limit)
unfolding parse_number
decimal-number_of limit n word small e =
    let test = cond_some (is_plain_number word && leb (digits_value 10 word) limit) (digits_value 10 word) n e in
    let parts = and_parts (is_plain_number word) (leb (digits_value 10 word) limit) test.0 in
    let within : digits_value 10 word ≤ limit = leb-true _ _ parts.1 in
    let plain = plain_is word parts.0 in
    let back : decimal (digits_value 10 word) ≡ word = decimal-digits_value own word plain.digits plain.some plain.lone (omega arith) in
    (sym back ∙ ap decimal test.1, omega (arith, test.1))

-- a decimal number contains no space
pub decimal_lacks : (n : ℕ) → n < 2 ^ 64 → Lacks 32 (decimal n)
decimal_lacks n small = from (decimal n) (digits_decimal own n small) where
  from : (xs : List ℕ) → all_ascii_digits xs ≡ true → Lacks 32 xs
  from [] h = tt
  from (x ∷ xs) h = grind (arith, nat_tests, from xs)

-- tokens that begin with a decimal number are split after it
pub cut_number : (n : ℕ) (rest : List ℕ) → n < 2 ^ 64 → split_at_byte 32 (decimal n ++ (32 ∷ rest)) ≡ Some (decimal n, rest)
cut_number n rest small = cut_front 32 (decimal n) rest (decimal_lacks n small)

-- ---- process numbers and process counts

-- the decimal number of a process is parsed as that process
pub parse_process-decimal : (p : Pid) → p.0 < 2 ^ 8 → parse_process (decimal p.0) ≡ Some p
unfolding parse_process
parse_process-decimal p small = rw (parse_number-decimal 255 p.0 (omega arith) (omega arith)) refl

-- a token that is parsed as a process is its decimal number
pub decimal-process_of : (p : Pid) (word : List ℕ) → parse_process word ≡ Some p → (word ≡ decimal p.0) × (p.0 < 2 ^ 8)
unfolding parse_process
decimal-process_of p word e = grind (arith, decimal-number_of 255 p.0 word)

-- a process count up to 256, in decimal, is parsed as that count
pub parse_count-decimal : (n : ℕ) → 1 ≤ n → n ≤ 256 → parse_count (decimal n) ≡ Some n
unfolding parse_count
parse_count-decimal n some few = grind (arith, nat_tests, parse_number-decimal)

-- a token that is parsed as a process count is its decimal spelling
pub decimal-count_of : (n : ℕ) (word : List ℕ) → parse_count word ≡ Some n → (word ≡ decimal n) × (1 ≤ n) × (n ≤ 256)
unfolding parse_count
decimal-count_of n word e = grind (arith, decimal-number_of 256 n word, nat_tests)

-- ---- results of `parse`

-- the result of `parse` up to a limit
abbrev pub within : {E : Type 0} → ℕ → Result ℕ E → Option ℕ
within limit (Ok n) = if nat_le n limit then Some n else None
within limit (Err e) = None

unspelled : (limit : ℕ) (word : List ℕ) → ((n : ℕ) → parse_number limit word ≡ Some n → ⊥) → parse_number limit word ≡ None
unspelled limit word never = grind arith

parsed : {E : Type 0} (limit : ℕ) (word : List ℕ) (r : Result ℕ E) → limit < 2 ^ 32 → 0 < length word → get_or word 0 0 ≢ 43 → (get_or word 0 0 ≡ 48 → length word ≤ 1)
    → ParsesUnsigned 32 10 word r → parse_number limit word ≡ within limit r
unfolding parse_number
parsed {E} limit word r small some sign lone parses = by_cases r (parse_plain own 32 word r parses sign) where
  spelled : (n : ℕ) → parse_number limit word ≡ Some n → (all_ascii_digits word ≡ true) × (0 < length word) × (digits_value 10 word < 2 ^ 32) × (digits_value 10 word ≡ n) × (n ≤ limit)
  spelled n e = grind (arith, decimal-number_of limit n word, digits_value-decimal own n, digits_decimal own n)

  by_limit : (n : ℕ) → n ≡ digits_value 10 word → all_ascii_digits word ≡ true → (b : Bool) → leb n limit ≡ b → parse_number limit word ≡ cond b (Some n) None
  by_limit n value digits b t = grind (arith, is_plain_number-from word)

  by_cases : (o : Result ℕ E) → OkIff o ((all_ascii_digits word ≡ true) × (0 < length word) × (digits_value 10 word < 2 ^ 32)) (digits_value 10 word) → parse_number limit word ≡ within limit o
  by_cases (Ok n) h = by_limit n h.1 h.0.0 (leb n limit) refl
  by_cases (Err e) h = unspelled limit word (λ n is. let s = spelled n is in h (s.0, s.1, s.2))

-- bytes that are not UTF-8 spell no number
pub no_text : (limit : ℕ) (word : List ℕ) → limit < 2 ^ 32 → (IsUtf8 word → ⊥) → parse_number limit word ≡ None
no_text limit word small none = unspelled limit word (λ n e.
    let d = decimal-number_of limit n word (omega arith) e in
    none (subst (λ (w : List ℕ). IsUtf8 w) (sym d.0) (IsUtf8-from_ascii (decimal n) (IsAscii-decimal n (omega (arith, d.1))))))

-- ---- the first byte of a token

first_is : (word : List ℕ) (first : ℕ) → Some first ≡ slice_get word 0 → (get_or word 0 0 ≡ first) × (0 < length word)
first_is word first e = grind (arith, gets)

lone_from : (x n : ℕ) → ((x ≡ 48) × (n ≤ 1)) ⊎ (x ≢ 48) → x ≡ 48 → n ≤ 1
lone_from x n h e = grind arith

-- a token without a plus sign or a leading zero has the value that `parse` returns
pub parsed_word : {E : Type 0} (limit first : ℕ) (word text : List ℕ) (r : Result ℕ E) → limit < 2 ^ 32 → Some first ≡ slice_get word 0 → first ≢ 43 → ((first ≡ 48) × (length word ≤ 1)) ⊎ (first ≢ 48)
    → text ≡ word → ParsesUnsigned 32 10 text r → parse_number limit word ≡ within limit r
parsed_word limit first word text r small begins sign lone same parses = grind (arith, first_is word first begins, parsed, lone_from)
