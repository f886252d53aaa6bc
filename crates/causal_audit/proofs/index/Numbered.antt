-- The numbers of the determinants that entries mention, in order.
use Rattle.causal_audit.proofs.Common.{ℕ, ◌≡◌, ◌+◌, ◌<◌, ◌≤◌, List, [], ◌∷◌, ◌++◌, length, get_or, take, drop, map, Option, Some, None, sym, ap, ◌∙◌, arith, append_assoc, append-nil, length-append, length-map, get_or-map, map-append, take_more, take_all, get_or_default, All, Entry, Det}
use Rattle.std.specs.List.{flat_map}
use Rattle.std.proofs.lemmas.List.{append_cancel_left, drop_more, take-append-le}
use Rattle.std.proofs.lemmas.Grind.{common_steps, flat_map-append}
use Rattle.causal_trace.specs.Numbers.{number_of}
use Rattle.causal_trace.proofs.Lemmas.DeliveryNumbers.{number_among, found_below}
use Rattle.causal_trace.specs.Past.{mentioned_dets}
use Rattle.causal_audit.specs.Inside.Index.Lists.{AreNumbersOf}

abbrev some : ℕ → Option ℕ
some v = Some v

-- the determinants mentioned from an entry on begin with those of that entry
mentioned_next : (entries : List Entry) (i : ℕ) (e : Entry) → i < length entries → e ≡ get_or entries i e → flat_map mentioned_dets (drop i entries) ≡ mentioned_dets e ++ flat_map mentioned_dets (drop (i + 1) entries)
mentioned_next entries i e below is = ap (flat_map mentioned_dets) (drop_more entries i e below ∙ ap (λ x. x ∷ drop (i + 1) entries) (sym is))

module _ (many : ℕ) (delivered : List Det) where
  abbrev number : Det → Option ℕ
  number = number_of many delivered

  -- there are as many numbers as determinants
  pub as_many : (dets : List Det) (numbers : List ℕ) → AreNumbersOf many delivered dets numbers → length dets ≡ length numbers
  as_many dets numbers are = sym (length-map dets number) ∙ ap length are ∙ length-map numbers some

  -- one more number
  pub one_more_number : (before dets : List Det) (numbers after : List ℕ) (d : Det) (v : ℕ) → number_of many delivered d ≡ Some v → after ≡ numbers ++ v ∷ [] → AreNumbersOf many delivered (before ++ dets) numbers → AreNumbersOf many delivered (before ++ (dets ++ d ∷ [])) after
  one_more_number before dets numbers after d v is more are = grind (arith, append_assoc before dets (d ∷ []), map-append)

  -- the determinant of the next number
  pub next_numbered : (dets : List Det) (numbers : List ℕ) (i : ℕ) → AreNumbersOf many delivered dets numbers → i < length numbers → (d : Det) × (take (i + 1) dets ≡ take i dets ++ d ∷ []) × (number_of many delivered d ≡ Some (get_or numbers i 0))
  next_numbered [] numbers i are below = absurd (omega (arith, below, as_many [] numbers are))
  next_numbered (x ∷ rest) numbers i are below =
      let dets = x ∷ rest in
      let inside : i < length dets = omega (arith, below, as_many dets numbers are) in
      (get_or dets i x, take_more dets i x inside, sym (get_or-map number dets i x None inside) ∙ ap (λ l. get_or l i None) are ∙ get_or-map some numbers i 0 None below)

  -- each number is below the number of deliveries
  pub numbers_low : (dets : List Det) (numbers : List ℕ) → AreNumbersOf many delivered dets numbers → All (λ v. v < many) numbers
  numbers_low dets numbers are i d below =
      let next = next_numbered dets numbers i are below in
      grind (arith, found_below (number_of many delivered next.0) many (get_or numbers i 0) (number_among many delivered next.0) next.2, get_or_default numbers i 0 d below)

  -- the numbers of the first determinants come first
  parted_numbers : (a b : List Det) (numbers front back : List ℕ) → numbers ≡ front ++ back → length front ≡ length a → AreNumbersOf many delivered (a ++ b) numbers → AreNumbersOf many delivered a front × AreNumbersOf many delivered b back
  parted_numbers a b numbers front back parts long are =
      let n = length (map number a) in
      let whole : map number a ++ map number b ≡ map some front ++ map some back = sym (map-append number a b) ∙ are ∙ ap (map some) parts ∙ map-append some front back in
      let same : length (map some front) ≡ n = length-map front some ∙ long ∙ sym (length-map a number) in
      let first : map number a ≡ map some front = grind (arith, ap (take n) whole, take_all, take-append-le, same) in
      (first, append_cancel_left (map number a) (map number b) (map some back) (whole ∙ ap (λ l. l ++ map some back) (sym first)))

  -- the numbers left begin with those of the next entry
  pub next_numbers : (entries : List Entry) (i : ℕ) (e : Entry) (numbers : List ℕ) → i < length entries → e ≡ get_or entries i e → AreNumbersOf many delivered (flat_map mentioned_dets (drop i entries)) numbers
      → (length (mentioned_dets e) ≤ length numbers) × ((front back : List ℕ) → numbers ≡ front ++ back → length front ≡ length (mentioned_dets e) → AreNumbersOf many delivered (mentioned_dets e) front × AreNumbersOf many delivered (flat_map mentioned_dets (drop (i + 1) entries)) back)
  next_numbers entries i e numbers below is are =
      let later = flat_map mentioned_dets (drop (i + 1) entries) in
      let left = rw (mentioned_next entries i e below is) at are in
      (omega (arith, as_many (mentioned_dets e ++ later) numbers left, length-append (mentioned_dets e) later), λ front back parts long. parted_numbers (mentioned_dets e) later numbers front back parts long left)

-- the determinants mentioned up to an entry end with those of that entry
pub mentioned_more : (entries : List Entry) (i : ℕ) (e : Entry) → i < length entries → e ≡ get_or entries i e → flat_map mentioned_dets (take (i + 1) entries) ≡ flat_map mentioned_dets (take i entries) ++ mentioned_dets e
mentioned_more entries i e below is = grind (arith, common_steps, flat_map-append, append-nil)
