-- Beginnings of a line that have an open bracket, and torn lines.
use Rattle.std.proofs.Common.{◌≡◌, ◌+◌, ◌-◌, ◌<◌, ◌≤◌, ℕ, zero, suc, Bool, true, false, ◌==◌, List, [], ◌∷◌, ◌++◌, length, take, drop, refl, sym, ap, subst, ◌∙◌, arith, add-one, length-append}
use Rattle.std.specs.Prelude.{◌||◌, not, cond}
use Rattle.std.specs.List.{list_all}
use Rattle.std.proofs.lemmas.Bool.{both_ways, or_from, or_right, and_parts, and_from, true_from_ne_false, false_from_ne_true, le-leb, lt-leb, false≢true}
use Rattle.std.proofs.lemmas.List.{take-take, take-append-drop, length-take}
use Rattle.std.proofs.lemmas.List.Sums.{sum_by-append, sum_by-cons, sum_by-take-le}
use Rattle.std.proofs.lemmas.List.Folds.{list_all-append}
use Rattle.std.proofs.Math.Seq.{take-append_seam}
use Rattle.causal_name.specs.Sets.{any_below}
use Rattle.causal_holders.proofs.Lemmas.MemberCounts.{any_below-found, any_below-from}
use Rattle.causal_merge.specs.TornLines.{begins_torn, is_torn_byte, byte_count, has_few_quotes, are_closed, closes_within, is_torn}
use Rattle.causal_merge.specs.Laws.{IsWholeLine}

-- ---- tests of the numbers below n

-- if each number fails, none passes
pub none_below : (n : ℕ) (test : ℕ → Bool) → ((k : ℕ) → k < n → test k ≡ false) → any_below n test ≡ false
none_below n test h = grind (arith, any_below-found)

-- if none passes, each number fails
pub each_below : (n : ℕ) (test : ℕ → Bool) (k : ℕ) → any_below n test ≡ false → k < n → test k ≡ false
each_below n test k none below = false_from_ne_true _ (λ h. both_ways _ none (any_below-from n test k below h))

-- ---- counting brackets, byte after byte

-- some bracket was open after each byte, and is open after one more
pub opens_more : (i o c : ℕ) (bytes : List ℕ) → closes_within i bytes ≡ false → o ≡ byte_count 91 (take (i + 1) bytes) → c ≡ byte_count 93 (take (i + 1) bytes) → c < o → closes_within (i + 1) bytes ≡ false
opens_more i o c bytes before opening closing more = subst (λ n. closes_within n bytes ≡ false) (sym (add-one i)) (or_from _ _ (lt-leb _ _ (omega (arith, opening, closing, more))) before)

-- no bracket is open after one of the bytes
pub closes_at : (i o c : ℕ) (bytes : List ℕ) → o ≡ byte_count 91 (take (i + 1) bytes) → c ≡ byte_count 93 (take (i + 1) bytes) → o ≤ c → i < length bytes → closes_within (length bytes) bytes ≡ true
closes_at i o c bytes opening closing few below = any_below-from (length bytes) (λ k. are_closed (take (k + 1) bytes)) i below (le-leb _ _ (omega (arith, opening, closing, few)))

pub ruleset closing_steps = (opens_more, closes_at)

-- each beginning has an open bracket, if the brackets were never all closed
pub stays_open : (n k : ℕ) (bytes : List ℕ) → closes_within n bytes ≡ false → 0 < k → k ≤ n → are_closed (take k bytes) ≡ false
stays_open n k bytes none some few =
    subst (λ j. are_closed (take j bytes) ≡ false) (let e : k - 1 + 1 ≡ k = omega (arith, some) in e) (each_below n (λ j. are_closed (take (j + 1) bytes)) (k - 1) none (omega (arith, some, few)))

-- a beginning whose brackets are all closed shows in the line
pub shows_closed : (n k : ℕ) (bytes : List ℕ) → 0 < k → k ≤ n → are_closed (take k bytes) ≡ true → closes_within n bytes ≡ true
shows_closed n k bytes some few closed = true_from_ne_false _ (λ none. false≢true (sym (stays_open n k bytes none some few) ∙ closed))

-- ---- the beginnings of a whole line

-- the bytes of a part pass, if all do
part_passes : (p : ℕ → Bool) (k : ℕ) (bytes : List ℕ) → list_all p bytes ≡ true → list_all p (take k bytes) ≡ true
part_passes p k bytes all = (and_parts _ _ (sym (list_all-append p (take k bytes) (drop k bytes)) ∙ ap (list_all p) (take-append-drop k bytes) ∙ all)).0

-- the second byte of a torn line is a quotation mark
second_byte : (x y : ℕ) (rest : List ℕ) → begins_torn (x ∷ y ∷ rest) ≡ true → (x == 91 ≡ true) × (y == 34 ≡ true)
unfolding begins_torn
second_byte x y rest begins = grind arith

begins_part : (k : ℕ) (bytes : List ℕ) → begins_torn bytes ≡ true → 2 ≤ length bytes → 0 < k → begins_torn (take k bytes) ≡ true
unfolding begins_torn
begins_part (suc zero) (x ∷ y ∷ more) begins long some = and_from _ _ (second_byte x y more begins).0 refl
begins_part (suc (suc k)) (x ∷ y ∷ more) begins long some =
    let is = second_byte x y more begins in
    and_from (x == 91) (length (x ∷ y ∷ take k more) == 1 || y == 34) is.0 (or_right (length (x ∷ y ∷ take k more) == 1) (y == 34) is.1)
begins_part _ _ begins long some = absurd (omega (arith, long, some))

quotes_part : (k : ℕ) (bytes : List ℕ) → byte_count 34 bytes ≡ 2 → has_few_quotes (take k bytes) ≡ true
unfolding has_few_quotes
quotes_part k bytes two = le-leb _ _ (omega (arith, sum_by-take-le (λ x. cond (x == 34) 1 0) bytes k, two))

open_part : (k : ℕ) (line : List ℕ) → closes_within (length line - 1) line ≡ false → k < length line → closes_within (length (take k line)) (take k line) ≡ false
open_part k line none short = none_below (length (take k line)) (λ j. are_closed (take (j + 1) (take k line))) (λ j below.
    let size = length-take k line in
    let within : j < k = omega (arith, size, below, short) in
    ap are_closed (take-take (j + 1) k line (omega (arith, within))) ∙ stays_open (length line - 1) (j + 1) line none (omega arith) (omega (arith, within, short)))

-- each beginning of a whole line is torn
pub prefix_is_torn : (line : List ℕ) (k : ℕ) → IsWholeLine line → 0 < k → k < length line → is_torn (take k line) ≡ true
prefix_is_torn line k whole some short =
    and_from _ _ (begins_part k line whole.begins whole.long some)
    (and_from _ _ (part_passes is_torn_byte k line whole.bytes)
    (and_from _ _ (quotes_part k line whole.quotes) (ap not (open_part k line whole.no_sooner short))))

-- ---- lines with a whole line in them

closes_inside : (line after : List ℕ) → 0 < length line → are_closed line ≡ true → closes_within (length (line ++ after)) (line ++ after) ≡ true
closes_inside line after some closed = grind (arith, shows_closed, length-append line after, take-append_seam line after)

-- nothing that begins with a byte and a whole line begins as a torn line
two_brackets : (x : ℕ) (line after : List ℕ) → begins_torn line ≡ true → 2 ≤ length line → begins_torn (x ∷ (line ++ after)) ≡ false
two_brackets x (y ∷ z ∷ more) after begins long = false_from_ne_true _ (λ h. grind (arith, second_byte y z more begins, second_byte x y (z ∷ (more ++ after)) h))
two_brackets x _ after begins long = absurd (omega (arith, long))

-- two bytes with a quotation mark, and more, and a whole line have three of them
many_quotes : (x y : ℕ) (before line after : List ℕ) → y == 34 ≡ true → byte_count 34 line ≡ 2 → has_few_quotes (x ∷ y ∷ (before ++ (line ++ after))) ≡ false
unfolding has_few_quotes
many_quotes x y before line after is two =
    let count : ℕ → ℕ = λ v. cond (v == 34) 1 0 in
    let rest : List ℕ = before ++ (line ++ after) in
    lt-leb _ _ (omega (arith, sum_by-cons count x (y ∷ rest), sum_by-cons count y rest, sum_by-append count before (line ++ after), sum_by-append count line after, ap (λ t. cond {A = ℕ} t 1 0) is, two))

-- what a torn line is
torn_parts : (bytes : List ℕ) → is_torn bytes ≡ true → (begins_torn bytes ≡ true) × ((has_few_quotes bytes ≡ true) × (closes_within (length bytes) bytes ≡ false))
torn_parts bytes torn = grind arith

-- a line with a whole line in it is not torn
pub whole_line_is_kept : (before line after : List ℕ) → IsWholeLine line → is_torn (before ++ (line ++ after)) ≡ false
whole_line_is_kept [] line after whole =
    false_from_ne_true _ (λ torn. false≢true (sym (torn_parts (line ++ after) torn).1.1 ∙ closes_inside line after (let long = whole.long in omega (arith, long)) whole.closed))
whole_line_is_kept (x ∷ []) line after whole =
    false_from_ne_true _ (λ torn. false≢true (sym (two_brackets x line after whole.begins whole.long) ∙ (torn_parts (x ∷ (line ++ after)) torn).0))
whole_line_is_kept (x ∷ y ∷ before) line after whole =
    false_from_ne_true _ (λ torn.
    let parts = torn_parts (x ∷ y ∷ (before ++ (line ++ after))) torn in
    let second : y == 34 ≡ true = (second_byte x y (before ++ (line ++ after)) parts.0).1 in
    false≢true (sym (many_quotes x y before line after second whole.quotes) ∙ parts.1.0))

-- a torn line has a bracket open after each of its bytes
pub torn_stays_open : (line : List ℕ) (k : ℕ) → is_torn line ≡ true → 0 < k → k ≤ length line → are_closed (take k line) ≡ false
torn_stays_open line k torn some short = stays_open (length line) k line (torn_parts line torn).1.1 some short
