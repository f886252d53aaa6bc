-- Lists that a loop reads element by element.
use Rattle.std.proofs.Common.{◌≡◌, ℕ, suc, ◌-◌, ◌+◌, ◌≤◌, ◌<◌, List, [], ◌∷◌, ◌++◌, Result, Ok, Err, refl, sym, ap, subst, ◌∙◌, append_assoc, arith}
use Rattle.std.proofs.lemmas.List.{append-nil}
use Rattle.causal_wire.specs.declared.fault.WireFault.{WireFault}
use Rattle.causal_wire.specs.declared.fault.ParcelFault.{ParcelFault}
use Rattle.causal_wire.specs.declared.fault.ParcelFault.TheVariants as errors
use Rattle.causal_wire.specs.Reading.{◌>>=◌, Fails, read_list}

-- what was read before, and what is still read
abbrev pub with_front : {A : Type 0} → List A → Result (List A × List ℕ) WireFault → Result (List A × List ℕ) WireFault
with_front front read = read >>= λ x. Ok (front ++ x.0, x.1)

regroup : {A : Type 0} (front : List A) (a : A) (read : Result (List A × List ℕ) WireFault) → with_front front (read >>= λ x. Ok (a ∷ x.0, x.1)) ≡ with_front (front ++ a ∷ []) read
regroup front a (Ok x) = ap (λ xs. Ok (xs, x.1)) (simp append_assoc)
regroup front a (Err f) = refl

module _ {A S : Type 0} (next : A → S) (read : S → List ℕ → Result (A × List ℕ) WireFault) where
  pub goes_on : (s after_s : S) (front : List A) (count i : ℕ) (bytes : List ℕ) (a : A) (after : List ℕ) (total : Result (List A × List ℕ) WireFault) → i < count → read s bytes ≡ Ok (a, after) → next a ≡ after_s
      → with_front front (read_list next read s (count - i) bytes) ≡ total → with_front (front ++ a ∷ []) (read_list next read after_s (count - (i + 1)) after) ≡ total
  unfolding read_list
  goes_on s after_s front count i bytes a after total lt h n so_far =
      let k : count - i ≡ suc (count - (i + 1)) = omega arith in
      let one : with_front front (read_list next read s (count - i) bytes) ≡ with_front (front ++ a ∷ []) (read_list next read (next a) (count - (i + 1)) after) = rw (k, h) (regroup front a (read_list next read (next a) (count - (i + 1)) after)) in
      subst (λ t. with_front (front ++ a ∷ []) (read_list next read t (count - (i + 1)) after) ≡ total) n (sym one ∙ so_far)

  pub fails : (e : ParcelFault) (s : S) (front : List A) (count i : ℕ) (bytes : List ℕ) (total : Result (List A × List ℕ) WireFault) → i < count → Fails e (read s bytes)
      → with_front front (read_list next read s (count - i) bytes) ≡ total → Fails e total
  unfolding read_list
  fails errors.NoMemory s front count i bytes total lt h so_far = tt
  fails (errors.Wire f) s front count i bytes total lt h so_far =
      let k : count - i ≡ suc (count - (i + 1)) = omega arith in
      let one : with_front front (read_list next read s (count - i) bytes) ≡ Err f = rw (k, h) refl in
      sym so_far ∙ one

  pub is_done : (s : S) (front : List A) (count i : ℕ) (bytes : List ℕ) (total : Result (List A × List ℕ) WireFault) → count ≤ i → with_front front (read_list next read s (count - i) bytes) ≡ total → total ≡ Ok (front, bytes)
  unfolding read_list
  is_done s front count i bytes total le so_far =
      let k : count - i ≡ 0 = omega arith in
      let one : with_front front (read_list next read s (count - i) bytes) ≡ Ok (front, bytes) = rw k (ap (λ xs. Ok (xs, bytes)) (append-nil front)) in
      sym so_far ∙ one
