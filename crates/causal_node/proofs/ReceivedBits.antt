-- Which names the blocks of received messages have, and that one more is inserted.
use Rattle.std.proofs.Common.{ℕ, zero, suc, ◌≡◌, ◌∙◌, ◌==◌, ◌<◌, ◌≤◌, ◌+◌, ◌*◌, ◌/◌, ◌%◌, nat_lt, nat_eq, Bool, true, false, cond, List, [], ◌∷◌, Some, refl, sym, ap, inl, inr, arith, true≢false, bit_and, bit_or}
use Rattle.std.specs.Prelude.{◌&&◌, ◌||◌, ◌^◌, ◌⊎◌, unwrap_or}
use Rattle.std.specs.List.{list_any, AllByRecursion}
use Rattle.std.specs.List.Sorted.{IsStrictlySortedBy}
use Rattle.std.specs.Int.{bit_at}
use Rattle.std.specs.Map.{keys_of, lookup}
use Rattle.std.specs.Cmp.{IsTotalOrder, nat_cmp_total, Equal-is, both_ways, eq_by_cmp_equiv}
use Rattle.std.specs.BTreeMap.{BTreeMap, is_at, get}
use Rattle.std.specs.BTreeSet.{insert_key}
use Rattle.std.specs.Ordering.{nat_cmp, is_eq, ordering_then, ordering_reverse, match_ordering}
use Rattle.std.specs.declared.cmp.Ordering.{Ordering}
use Rattle.std.specs.declared.cmp.Ordering.TheVariants.{Less, Equal, Greater}
use Rattle.std.proofs.Common.{w64}
use Rattle.std.proofs.lemmas.Bool.{eqb-true, eq-eqb, ne_eqb, lt-ltb, le-ltb, and_parts, cases_order}
use Rattle.std.proofs.lemmas.Cmp.{on_total, then_total}
use Rattle.std.proofs.lemmas.Map.{lookup-none}
use Rattle.std.proofs.lemmas.Map.Entries.{none_past_head}
use Rattle.std.proofs.lemmas.Map.Keys.{sorted_tail, IsDistinct-from_sorted}
use Rattle.std.proofs.lemmas.Map.Lookups.{CmpEqualImpliesEq, exact_pairs, exact_unsigned, btree_set_from_contains}
use Rattle.std.proofs.lemmas.Nat.Bits.{bit_at-zero, shr_and_one, bit_at_set_same, bit_at_set_other}
use Rattle.causal_name.specs.declared.MsgName.{MsgName}
use Rattle.causal_name.specs.Names.{message_cmp, pid_cmp}
use Rattle.causal_name.proofs.Lemmas.DetOrder.{nat_ties}
use Rattle.causal_node.specs.declared.received_names.Block.{Block}
use Rattle.causal_node.specs.NodeStates.{has_name}
use Rattle.causal_node.specs.Inside.ReceivedNames.{block_cmp, block_of, name_at, with_block, names_in}

-- ---- the orders
pub names_total : IsTotalOrder message_cmp
names_total = then_total (on_total (λ m. m.source.0) nat_cmp_total) (on_total (λ m. m.ssn) nat_cmp_total)

pub exact_names : CmpEqualImpliesEq message_cmp
exact_names a b h = ap (λ (p : ℕ × ℕ). record { source = record { 0 = p.0 }; ssn = p.1 }) (exact_pairs nat_cmp nat_cmp exact_unsigned exact_unsigned (a.source.0, a.ssn) (b.source.0, b.ssn) h)

pub exact_blocks : CmpEqualImpliesEq block_cmp
exact_blocks a b h = ap (λ (p : ℕ × ℕ). record { source = record { 0 = p.0 }; number = p.1 }) (exact_pairs nat_cmp nat_cmp exact_unsigned exact_unsigned (a.source.0, a.number) (b.source.0, b.number) h)

pub blocks_total : IsTotalOrder block_cmp
blocks_total = then_total (on_total (λ b. b.source.0) nat_cmp_total) (on_total (λ b. b.number) nat_cmp_total)

then_eq : (a b : Ordering) → is_eq (ordering_then a b) ≡ (is_eq a && is_eq b)
then_eq Less b = refl
then_eq Equal b = refl
then_eq Greater b = refl

name_ties : (a b : MsgName) → is_at (message_cmp a) b ≡ (a.source.0 == b.source.0 && a.ssn == b.ssn)
name_ties a b = then_eq (pid_cmp a.source b.source) (nat_cmp a.ssn b.ssn) ∙ (λ i. sym (nat_ties a.source.0 b.source.0) i && sym (nat_ties a.ssn b.ssn) i)

block_ties : (a b : Block) → is_at (block_cmp a) b ≡ (a.source.0 == b.source.0 && a.number == b.number)
block_ties a b = then_eq (pid_cmp a.source b.source) (nat_cmp a.number b.number) ∙ (λ i. sym (nat_ties a.source.0 b.source.0) i && sym (nat_ties a.number b.number) i)

eq_flips : (x y : ℕ) → (x == y) ≡ (y == x)
eq_flips x y = both_ways _ _ (λ e. eq-eqb y x (sym (eqb-true x y e))) (λ e. eq-eqb x y (sym (eqb-true y x e)))

block_flips : (a b : Block) → is_at (block_cmp a) b ≡ is_at (block_cmp b) a
block_flips a b = block_ties a b ∙ (λ i. eq_flips a.source.0 b.source.0 i && eq_flips a.number b.number i) ∙ sym (block_ties b a)

or_none : (a : Bool) → (a || false) ≡ a
or_none true = refl
or_none false = refl

or_all : (a : Bool) → (a || true) ≡ true
or_all true = refl
or_all false = refl

first : (a b c : Bool) → (c || (a || b)) ≡ ((a || b) || c)
first true b c = or_all c
first false true c = or_all c
first false false c = or_none c

later : (a b c : Bool) → (a || (b || c)) ≡ ((a || b) || c)
later true b c = refl
later false b c = refl

twice : (a b : Bool) → (a || b) ≡ ((a || b) || a)
twice true b = refl
twice false b = sym (or_none b)

-- ---- one more name
module _ (m k : MsgName) where
  pub has_inserted : (names : List MsgName) → has_name (insert_key message_cmp names k) m ≡ (has_name names m || is_at (message_cmp m) k)
  has_inserted [] = or_none (is_at (message_cmp m) k)
  has_inserted (x ∷ xs) = by (message_cmp k x) refl (has_inserted xs)
    where
      by : (o : Ordering) → message_cmp k x ≡ o → has_name (insert_key message_cmp xs k) m ≡ (has_name xs m || is_at (message_cmp m) k)
          → has_name (match_ordering o (k ∷ x ∷ xs) (x ∷ xs) (x ∷ insert_key message_cmp xs k)) m ≡ ((is_at (message_cmp m) x || has_name xs m) || is_at (message_cmp m) k)
      by Less is rest = first (is_at (message_cmp m) x) (has_name xs m) (is_at (message_cmp m) k)
      by Equal is rest =
          twice (is_at (message_cmp m) x) (has_name xs m)
          ∙ ap (λ y. (is_at (message_cmp m) x || has_name xs m) || is_at (message_cmp m) y) (sym (exact_names k x is))
      by Greater is rest = ap (λ b. is_at (message_cmp m) x || b) rest ∙ later (is_at (message_cmp m) x) (has_name xs m) (is_at (message_cmp m) k)

module _ (k : MsgName) where
  all_inserted : (P : MsgName → Type 0) → (xs : List MsgName) → P k → AllByRecursion P xs → AllByRecursion P (insert_key message_cmp xs k)
  all_inserted P [] p h = (p, tt)
  all_inserted P (x ∷ xs) p h = by (message_cmp k x) (all_inserted P xs p h.1)
    where
      by : (o : Ordering) → AllByRecursion P (insert_key message_cmp xs k) → AllByRecursion P (match_ordering o (k ∷ x ∷ xs) (x ∷ xs) (x ∷ insert_key message_cmp xs k))
      by Less rest = (p, h)
      by Equal rest = h
      by Greater rest = (h.0, rest)

  all_above : (x : MsgName) → message_cmp k x ≡ Less → (xs : List MsgName) → AllByRecursion (λ y. message_cmp x y ≡ Less) xs → AllByRecursion (λ y. message_cmp k y ≡ Less) xs
  all_above x low [] h = tt
  all_above x low (y ∷ ys) h = (names_total.trans k x y low h.0, all_above x low ys h.1)

  pub sorted_inserted : (xs : List MsgName) → IsStrictlySortedBy message_cmp xs → IsStrictlySortedBy message_cmp (insert_key message_cmp xs k)
  unfolding IsStrictlySortedBy
  sorted_inserted [] h = (tt, tt)
  sorted_inserted (x ∷ xs) h = by (message_cmp k x) refl (sorted_inserted xs h.1)
    where
      by : (o : Ordering) → message_cmp k x ≡ o → IsStrictlySortedBy message_cmp (insert_key message_cmp xs k) → IsStrictlySortedBy message_cmp (match_ordering o (k ∷ x ∷ xs) (x ∷ xs) (x ∷ insert_key message_cmp xs k))
      by Less is rest = ((is, all_above x is xs h.0), h)
      by Equal is rest = h
      by Greater is rest = (all_inserted (λ y. message_cmp x y ≡ Less) xs (names_total.antisymm x k ∙ ap ordering_reverse is) h.0, rest)

-- ---- numbers
-- two numbers are equal if their blocks and their places there are
same_parts : (p q s t : ℕ) → (p == q && s == t) ≡ ((p == q && s / 64 == t / 64) && s % 64 == t % 64)
same_parts p q s t = by (p == q)
  where
    by : (c : Bool) → (c && s == t) ≡ ((c && s / 64 == t / 64) && s % 64 == t % 64)
    by false = refl
    by true =
        both_ways _ _
        (λ e. let is : s ≡ t = eqb-true s t e in ap (λ x. x && s % 64 == t % 64) (eq-eqb _ _ (ap (λ n. n / 64) is)) ∙ eq-eqb _ _ (ap (λ n. n % 64) is))
        (λ e. let parts = and_parts (s / 64 == t / 64) (s % 64 == t % 64) e in
        let high : s / 64 ≡ t / 64 = eqb-true _ _ parts.0 in
        let low : s % 64 ≡ t % 64 = eqb-true _ _ parts.1 in
        eq-eqb s t (omega arith))

below_next : (r n : ℕ) → (nat_lt r n || r == n) ≡ nat_lt r (suc n)
below_next r n = by (cases_order r n)
  where
    by : (r ≡ n) ⊎ ((r < n) ⊎ (n < r)) → (nat_lt r n || r == n) ≡ nat_lt r (suc n)
    by (inl e) = ap (λ b. nat_lt r n || b) (eq-eqb r n e) ∙ or_all (nat_lt r n) ∙ sym (lt-ltb r (suc n) (omega (arith, e)))
    by (inr (inl h)) = ap (λ b. b || r == n) (lt-ltb r n h) ∙ sym (lt-ltb r (suc n) (omega (arith, h)))
    by (inr (inr h)) = (λ i. le-ltb r n (omega (arith, h)) i || ne_eqb r n (λ e. omega (arith, e, h)) i) ∙ sym (le-ltb r (suc n) (omega (arith, h)))

none_left : (has hold low : Bool) → low ≡ false → has ≡ (has || (hold && low))
none_left has true low e = sym (ap (λ b. has || b) e ∙ or_none has)
none_left has false low e = sym (or_none has)

module _ (r n : ℕ) where
  bit_taken : (has is c : Bool) → (r ≡ n → c ≡ true) → ((has || ((is && c) && nat_lt r n)) || (is && r == n)) ≡ (has || ((is && c) && nat_lt r (suc n)))
  bit_taken true is c h = refl
  bit_taken false false c h = refl
  bit_taken false true true h = below_next r n
  bit_taken false true false h = ne_eqb r n (λ e. true≢false (sym (h e)))

  bit_left : (has is c : Bool) → (r ≡ n → c ≡ false) → (has || ((is && c) && nat_lt r n)) ≡ (has || ((is && c) && nat_lt r (suc n)))
  bit_left true is c h = refl
  bit_left false false c h = refl
  bit_left false true false h = refl
  bit_left false true true h = sym (or_none (nat_lt r n)) ∙ ap (λ b. nat_lt r n || b) (sym (ne_eqb r n (λ e. true≢false (h e)))) ∙ below_next r n

-- ---- blocks
-- whether a block with these bits has a name
abbrev pub holds : Block → ℕ → MsgName → Bool
holds b bits m = is_at (block_cmp (block_of m)) b && bit_at bits (m.ssn % 64) == 1

module _ (b : Block) (bits : ℕ) (names : List MsgName) where
  sorted_with : IsStrictlySortedBy message_cmp names → (n : ℕ) → IsStrictlySortedBy message_cmp (with_block b bits names n)
  unfolding with_block
  sorted_with h zero = h
  sorted_with h (suc n) = by (bit_at bits n == 1) (sorted_with h n)
    where
      by : (c : Bool) → IsStrictlySortedBy message_cmp (with_block b bits names n) → IsStrictlySortedBy message_cmp (cond c (insert_key message_cmp (with_block b bits names n) (name_at b n)) (with_block b bits names n))
      by true rest = sorted_inserted (name_at b n) (with_block b bits names n) rest
      by false rest = rest

  module _ (m : MsgName) where
    -- whether the name is that of the number n of the block
    at_number : (n : ℕ) → n < 64 → is_at (message_cmp m) (name_at b n) ≡ (is_at (block_cmp (block_of m)) b && m.ssn % 64 == n)
    at_number n low =
        let high : (64 * b.number + n) / 64 ≡ b.number = omega (arith, low) in
        let rest : (64 * b.number + n) % 64 ≡ n = omega (arith, low) in
        name_ties m (name_at b n)
        ∙ same_parts m.source.0 b.source.0 m.ssn (64 * b.number + n)
        ∙ (λ i. (m.source.0 == b.source.0 && m.ssn / 64 == high i) && m.ssn % 64 == rest i)
        ∙ ap (λ c. c && m.ssn % 64 == n) (sym (block_ties (block_of m) b))

    has_with : (n : ℕ) → n ≤ 64 → has_name (with_block b bits names n) m ≡ (has_name names m || (holds b bits m && nat_lt (m.ssn % 64) n))
    unfolding with_block
    has_with zero low = none_left (has_name names m) (holds b bits m) (nat_lt (m.ssn % 64) 0) (le-ltb (m.ssn % 64) 0 (omega arith))
    has_with (suc n) low = by (bit_at bits n == 1) refl (has_with n (omega (arith, low)))
      where
        by : (c : Bool) → (bit_at bits n == 1) ≡ c → has_name (with_block b bits names n) m ≡ (has_name names m || (holds b bits m && nat_lt (m.ssn % 64) n))
            → has_name (cond c (insert_key message_cmp (with_block b bits names n) (name_at b n)) (with_block b bits names n)) m ≡ (has_name names m || (holds b bits m && nat_lt (m.ssn % 64) (suc n)))
        by true set rest =
            has_inserted m (name_at b n) (with_block b bits names n)
            ∙ (λ i. rest i || at_number n (omega (arith, low)) i)
            ∙ bit_taken (m.ssn % 64) n (has_name names m) (is_at (block_cmp (block_of m)) b) (bit_at bits (m.ssn % 64) == 1) (λ e. ap (λ r. bit_at bits r == 1) e ∙ set)
        by false set rest = rest ∙ bit_left (m.ssn % 64) n (has_name names m) (is_at (block_cmp (block_of m)) b) (bit_at bits (m.ssn % 64) == 1) (λ e. ap (λ r. bit_at bits r == 1) e ∙ set)

pub sorted_in : (es : List (Block × ℕ)) → IsStrictlySortedBy message_cmp (names_in es)
unfolding IsStrictlySortedBy
sorted_in [] = tt
sorted_in (e ∷ es) = sorted_with e.0 e.1 (names_in es) (sorted_in es) 64

-- ---- a name is looked up in its block
module _ (m : MsgName) where
  -- whether these bits have the name's number
  abbrev has_bit : ℕ → Bool
  has_bit bits = bit_at bits (m.ssn % 64) == 1

  abbrev bits_in : List (Block × ℕ) → ℕ
  bits_in es = unwrap_or (lookup (is_at (block_cmp (block_of m))) es) 0

  swapped : (a b c : Bool) → c ≡ true → (a || (b && c)) ≡ (b || a)
  swapped a true c h = ap (λ x. a || x) h ∙ or_all a
  swapped a false c h = or_none a

  in_blocks : (es : List (Block × ℕ)) → has_name (names_in es) m ≡ list_any (λ (e : Block × ℕ). holds e.0 e.1 m) es
  in_blocks [] = refl
  in_blocks (e ∷ es) =
      let low : nat_lt (m.ssn % 64) 64 ≡ true = lt-ltb (m.ssn % 64) 64 (omega arith) in
      has_with e.0 e.1 (names_in es) m 64 (omega arith)
      ∙ swapped (has_name (names_in es) m) (holds e.0 e.1 m) _ low
      ∙ ap (λ b. holds e.0 e.1 m || b) (in_blocks es)

  looked_up : (es : List (Block × ℕ)) → IsStrictlySortedBy block_cmp (keys_of es) → list_any (λ (e : Block × ℕ). holds e.0 e.1 m) es ≡ has_bit (bits_in es)
  looked_up [] h = ap (λ x. x == 1) (sym (bit_at-zero (m.ssn % 64)))
  looked_up (e ∷ es) h = by (is_at (block_cmp (block_of m)) e.0) refl (looked_up es (sorted_tail block_cmp e.0 (keys_of es) h))
    where
      by : (c : Bool) → is_at (block_cmp (block_of m)) e.0 ≡ c → list_any (λ (e : Block × ℕ). holds e.0 e.1 m) es ≡ has_bit (bits_in es)
          → ((c && has_bit e.1) || list_any (λ (e : Block × ℕ). holds e.0 e.1 m) es) ≡ has_bit (unwrap_or (cond c (Some e.1) (lookup (is_at (block_cmp (block_of m))) es)) 0)
      by true is rest =
          let none = lookup-none (is_at (block_cmp (block_of m))) es (none_past_head (eq_by_cmp_equiv blocks_total) (block_of m) e es (IsDistinct-from_sorted block_cmp (keys_of (e ∷ es)) h) is) in
          ap (λ b. has_bit e.1 || b) (rest ∙ ap (λ o. has_bit (unwrap_or o 0)) none ∙ ap (λ x. x == 1) (bit_at-zero (m.ssn % 64))) ∙ or_none (has_bit e.1)
      by false is rest = rest

  pub by_bit : (es : List (Block × ℕ)) → IsStrictlySortedBy block_cmp (keys_of es) → has_name (names_in es) m ≡ has_bit (bits_in es)
  by_bit es h = in_blocks es ∙ looked_up es h

  -- what `contains` computes
  pub bit_tells : (es : List (Block × ℕ)) (bits : ℕ) → IsStrictlySortedBy block_cmp (keys_of es) → bits ≡ bits_in es → nat_eq (bit_and (bits / 2 ^ (m.ssn % 64)) 1) 1 ≡ has_name (names_in es) m
  bit_tells es bits h is = ap (λ x. nat_eq x 1) (shr_and_one bits (m.ssn % 64)) ∙ ap (λ b. has_bit b) is ∙ sym (by_bit es h)

-- ---- one bit more
module _ (name : MsgName) (old new : BTreeMap Block ℕ) (bits : ℕ) (sorted : IsStrictlySortedBy block_cmp (keys_of old.entries)) (sorted_new : IsStrictlySortedBy block_cmp (keys_of new.entries)) (was : bits ≡ bits_in name old.entries) where
  abbrev next : ℕ
  next = bit_or bits (1 * 2 ^ (name.ssn % 64) % 2 ^ 64)

  place : (a : ℕ) → (bit_at next a == 1) ≡ (bit_at bits a == 1 || a == name.ssn % 64)
  place a = by (a == name.ssn % 64) refl
    where
      within : name.ssn % 64 < 64
      within = omega arith

      by : (c : Bool) → (a == name.ssn % 64) ≡ c → (bit_at next a == 1) ≡ (bit_at bits a == 1 || c)
      by true is = ap (λ x. bit_at next x == 1) (eqb-true a (name.ssn % 64) is) ∙ ap (λ x. x == 1) (bit_at_set_same w64 bits (name.ssn % 64) within) ∙ sym (or_all (bit_at bits a == 1))
      by false is = ap (λ x. x == 1) (bit_at_set_other w64 bits (name.ssn % 64) within a (λ e. true≢false (sym (eq-eqb a (name.ssn % 64) e) ∙ is))) ∙ sym (or_none (bit_at bits a == 1))

  module _ (m : MsgName) where
    -- whether the name is the new one, by its block and its place there
    at_name : is_at (message_cmp m) name ≡ (is_at (block_cmp (block_of m)) (block_of name) && m.ssn % 64 == name.ssn % 64)
    at_name = name_ties m name ∙ same_parts m.source.0 name.source.0 m.ssn name.ssn ∙ ap (λ c. c && m.ssn % 64 == name.ssn % 64) (sym (block_ties (block_of m) (block_of name)))

    one_more : get block_cmp new (block_of m) ≡ cond (is_at (block_cmp (block_of name)) (block_of m)) (Some next) (get block_cmp old (block_of m)) → has_name (names_in new.entries) m ≡ has_name (insert_key message_cmp (names_in old.entries) name) m
    one_more u = by (is_at (block_cmp (block_of m)) (block_of name)) refl ∙ sym (has_inserted m name (names_in old.entries))
      where
        by : (c : Bool) → is_at (block_cmp (block_of m)) (block_of name) ≡ c → has_name (names_in new.entries) m ≡ (has_name (names_in old.entries) m || is_at (message_cmp m) name)
        by true is =
            let e : block_of m ≡ block_of name = exact_blocks (block_of m) (block_of name) ((Equal-is (block_cmp (block_of m) (block_of name))).0 is) in
            let found : get block_cmp new (block_of m) ≡ Some next = u ∙ ap (λ c. cond c (Some next) (get block_cmp old (block_of m))) (block_flips (block_of name) (block_of m) ∙ is) in
            let same : bits ≡ bits_in m old.entries = was ∙ ap (λ b. unwrap_or (get block_cmp old b) 0) (sym e) in
            by_bit m new.entries sorted_new
            ∙ ap (λ o. has_bit m (unwrap_or o 0)) found
            ∙ place (m.ssn % 64)
            ∙ ap (λ b. has_bit m b || m.ssn % 64 == name.ssn % 64) same
            ∙ ap (λ h. h || m.ssn % 64 == name.ssn % 64) (sym (by_bit m old.entries sorted))
            ∙ ap (λ i. has_name (names_in old.entries) m || i) (sym (at_name ∙ ap (λ c. c && m.ssn % 64 == name.ssn % 64) is))
        by false is =
            let found : get block_cmp new (block_of m) ≡ get block_cmp old (block_of m) = u ∙ ap (λ c. cond c (Some next) (get block_cmp old (block_of m))) (block_flips (block_of name) (block_of m) ∙ is) in
            by_bit m new.entries sorted_new
            ∙ ap (λ o. has_bit m (unwrap_or o 0)) found
            ∙ sym (by_bit m old.entries sorted)
            ∙ sym (or_none (has_name (names_in old.entries) m))
            ∙ ap (λ i. has_name (names_in old.entries) m || i) (sym (at_name ∙ ap (λ c. c && m.ssn % 64 == name.ssn % 64) is))

  pub inserted_in : ((q : Block) → get block_cmp new q ≡ cond (is_at (block_cmp (block_of name)) q) (Some next) (get block_cmp old q)) → names_in new.entries ≡ insert_key message_cmp (names_in old.entries) name
  inserted_in u =
      btree_set_from_contains names_total (record { keys = names_in new.entries }) (record { keys = insert_key message_cmp (names_in old.entries) name })
      (sorted_in new.entries) (sorted_inserted name (names_in old.entries) (sorted_in old.entries)) (λ m. one_more m (u (block_of m))) exact_names
