-- A list that is read has the bytes that are written of it, and what is written is read back.
use Rattle.std.proofs.Common.{◌≡◌, ℕ, zero, suc, ◌<◌, ◌^◌, Bool, true, List, [], ◌∷◌, ◌++◌, length, map, Option, Some, None, Result, Ok, refl, sym, ap, subst, ◌∙◌, append_assoc, arith}
use Rattle.std.specs.List.{flat_map, AllByRecursion}
use Rattle.std.specs.Int.{w32}
use Rattle.std.proofs.lemmas.Bool.{and_parts, and_from}
use Rattle.std.proofs.lemmas.List.Concat.{flat_map-cons}
use Rattle.causal_name.specs.declared.Det.{Det}
use Rattle.causal_name.specs.Names.{is_before, is_ascending}
use Rattle.causal_wire.specs.declared.fault.WireFault.{WireFault}
use Rattle.causal_wire.specs.Bytes.{number_bytes, list_bytes}
use Rattle.causal_wire.specs.Reading.{◌>>=◌, read_number, follows, read_list}
use Rattle.causal_wire.proofs.FieldLaws.{IsBytes, bind_ok, ok_is, Takes, Takes-then, wide32, number_takes, number_again}

-- each element fits after the one before it
abbrev pub Chain : {A S : Type 0} → (A → S) → (S → A → Type 0) → S → List A → Type 0
Chain next Fits s [] = Unit {0}
Chain next Fits s (x ∷ xs) = Fits s x × Chain next Fits (next x) xs

module _ {A S : Type 0} (next : A → S) (read : S → List ℕ → Result (A × List ℕ) WireFault) (text : A → List ℕ) (Fits : S → A → Type 0) where
  -- a list that was read: its bytes, its length and that its elements fit
  pub record IsListRead (s : S) (n : ℕ) (bytes : List ℕ) (x : List A × List ℕ) : Type 0 where
    pub takes : Takes bytes (flat_map text x.0) x.1
    pub count : length x.0 ≡ n
    pub chain : Chain next Fits s x.0

  pub list_takes : ((s : S) (bytes : List ℕ) (x : A × List ℕ) → IsBytes bytes → read s bytes ≡ Ok x → Takes bytes (text x.0) x.1 × Fits s x.0)
      → (s : S) (n : ℕ) (bytes : List ℕ) (x : List A × List ℕ) → IsBytes bytes → read_list next read s n bytes ≡ Ok x → IsListRead s n bytes x
  unfolding read_list
  list_takes takes s zero bytes x fits e =
      subst (IsListRead s 0 bytes) (ok_is ([], bytes) x e) (record { takes = record { parts = refl; rest_fits = fits }; count = refl; chain = tt })
  list_takes takes s (suc n) bytes x fits e =
      let a = bind_ok (read s bytes) (λ first. read_list next read (next first.0) n first.1 >>= λ others. Ok (first.0 ∷ others.0, others.1)) x e in
      let b = bind_ok (read_list next read (next a.0.0) n a.0.1) (λ others. Ok (a.0.0 ∷ others.0, others.1)) x a.2 in
      let first = takes s bytes a.0 fits a.1 in
      let second = list_takes takes (next a.0.0) n a.0.1 b.0 first.0.rest_fits b.1 in
      let both = Takes-then bytes (text a.0.0) a.0.1 (flat_map text b.0.0) b.0.1 first.0 second.takes in
      let made : List A × List ℕ = (a.0.0 ∷ b.0.0, b.0.1) in
      subst (IsListRead s (suc n) bytes) (ok_is made x b.2)
      (record { takes = rw flat_map-cons both; count = ap suc second.count; chain = (first.1, second.chain) })

  pub list_again : ((s : S) (x : A) (rest : List ℕ) → Fits s x → read s (text x ++ rest) ≡ Ok (x, rest))
      → (s : S) (xs : List A) (rest : List ℕ) → Chain next Fits s xs → read_list next read s (length xs) (flat_map text xs ++ rest) ≡ Ok (xs, rest)
  unfolding read_list
  list_again again s [] rest chain = refl
  list_again again s (x ∷ xs) rest chain =
      let regrouped : flat_map text (x ∷ xs) ++ rest ≡ text x ++ (flat_map text xs ++ rest) = ap (λ (t : List ℕ). t ++ rest) (flat_map-cons text x xs) ∙ append_assoc (text x) (flat_map text xs) rest in
      ap (read_list next read s (suc (length xs))) regrouped ∙ rw (again s x (flat_map text xs ++ rest) chain.0, list_again again (next x) xs rest chain.1) refl

  -- the count, then the list
  pub counted_takes : ((s : S) (bytes : List ℕ) (x : A × List ℕ) → IsBytes bytes → read s bytes ≡ Ok x → Takes bytes (text x.0) x.1 × Fits s x.0)
      → (s : S) (bytes : List ℕ) (x : List A × List ℕ) → IsBytes bytes → (read_number w32 bytes >>= λ count. read_list next read s count.0 count.1) ≡ Ok x → Takes bytes (list_bytes text x.0) x.1 × (length x.0 < 2 ^ 32) × Chain next Fits s x.0
  counted_takes takes s bytes x fits e =
      let a = bind_ok (read_number w32 bytes) (λ count. read_list next read s count.0 count.1) x e in
      let t = number_takes w32 (2 ^ 32) wide32 bytes a.0 fits a.1 in
      let u = list_takes takes s a.0.0 a.0.1 x t.0.rest_fits a.2 in
      let both = Takes-then bytes (number_bytes w32 a.0.0) a.0.1 (flat_map text x.0) x.1 t.0 u.takes in
      (subst (λ (k : ℕ). Takes bytes (number_bytes w32 k ++ flat_map text x.0) x.1) (sym u.count) both, omega (arith, t.1, u.count), u.chain)

  pub counted_again : ((s : S) (x : A) (rest : List ℕ) → Fits s x → read s (text x ++ rest) ≡ Ok (x, rest))
      → (s : S) (xs : List A) (rest : List ℕ) → length xs < 2 ^ 32 → Chain next Fits s xs → (read_number w32 (list_bytes text xs ++ rest) >>= λ count. read_list next read s count.0 count.1) ≡ Ok (xs, rest)
  counted_again again s xs rest few chain =
      ap (λ (t : List ℕ). read_number w32 t >>= λ count. read_list next read s count.0 count.1) (append_assoc (number_bytes w32 (length xs)) (flat_map text xs) rest)
      ∙ rw (number_again w32 (2 ^ 32) wide32 (length xs) (flat_map text xs ++ rest) few) (list_again again s xs rest chain)

-- ---- lists by ascending determinant

module _ {A : Type 0} (det : A → Det) (P : A → Type 0) where
  -- an element that fits, and whose determinant follows the one before it
  abbrev pub FitsAfter : Option Det → A → Type 0
  FitsAfter last x = (follows last (det x) ≡ true) × P x

  -- each element fits, and follows the one before it
  abbrev pub ChainAfter : Option Det → List A → Type 0
  ChainAfter last xs = Chain (λ x. Some (det x)) FitsAfter last xs

  abbrev ascends_after : Option Det → List Det → Bool
  ascends_after None ds = is_ascending ds
  ascends_after (Some last) ds = is_ascending (last ∷ ds)

  pub chain_each : (last : Option Det) (xs : List A) → ChainAfter last xs → AllByRecursion P xs
  chain_each last [] chain = tt
  chain_each last (x ∷ xs) chain = (chain.0.1, chain_each (Some (det x)) xs chain.1)

  ascends : (last : Option Det) (xs : List A) → ChainAfter last xs → ascends_after last (map det xs) ≡ true
  ascends None [] chain = refl
  ascends (Some last) [] chain = refl
  ascends None (x ∷ xs) chain = ascends (Some (det x)) xs chain.1
  ascends (Some last) (x ∷ xs) chain = and_from _ _ chain.0.0 (ascends (Some (det x)) xs chain.1)

  pub chain_ascends : (xs : List A) → ChainAfter None xs → is_ascending (map det xs) ≡ true
  chain_ascends xs chain = ascends None xs chain

  linked : (last : Option Det) (xs : List A) → AllByRecursion P xs → ascends_after last (map det xs) ≡ true → ChainAfter last xs
  linked last [] each h = tt
  linked None (x ∷ xs) each h = ((refl, each.0), linked (Some (det x)) xs each.1 h)
  linked (Some last) (x ∷ xs) each h =
      let parts = and_parts (is_before last (det x)) (is_ascending (det x ∷ map det xs)) h in
      ((parts.0, each.0), linked (Some (det x)) xs each.1 parts.1)

  pub chain_from : (xs : List A) → AllByRecursion P xs → is_ascending (map det xs) ≡ true → ChainAfter None xs
  chain_from xs each h = linked None xs each h

-- ---- lists of numbers

pub plain_each : {A : Type 0} (P : A → Type 0) (next : A → Unit {0}) (xs : List A) → Chain next (λ _. P) tt xs → AllByRecursion P xs
plain_each P next [] chain = tt
plain_each P next (x ∷ xs) chain = (chain.0, plain_each P next xs chain.1)

pub plain_chain : {A : Type 0} (P : A → Type 0) (next : A → Unit {0}) (xs : List A) → AllByRecursion P xs → Chain next (λ _. P) tt xs
plain_chain P next [] each = tt
plain_chain P next (x ∷ xs) each = (each.0, plain_chain P next xs each.1)
