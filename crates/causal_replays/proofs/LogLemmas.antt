-- The numbers that each process has logged.
use Rattle.std.proofs.Common.{ℕ, ◌≡◌, ◌<◌, inl, inr, true, false, cond, List, [], ◌∷◌, ◌++◌, length, get_or, set, refl, sym, ap, ◌∙◌, arith}
use Rattle.std.specs.Prelude.{◌==◌, ◌&&◌, ◌||◌, not}
use Rattle.std.specs.Global.{Vec}
use Rattle.std.specs.Ordering.{nat_cmp}
use Rattle.std.specs.FinSet.{FinSet}
use Rattle.std.proofs.lemmas.Bool.Decides.{eqb_tells}
use Rattle.std.proofs.lemmas.Bool.{or_cases, and_parts, cases_lt, both_ways}
use Rattle.std.proofs.lemmas.List.{get_or-set_same, get_or-set_other, get_or-map, map-set, length-map, get_or_append_left, get_or_push, length_push}
use Rattle.std.proofs.Math.ListN.{replicate}
use Rattle.causal_replays.specs.Inside.Holdings.{holds, lists_in, logged_numbers, IsIn, AreLogged}
use Rattle.causal_replays.proofs.HolderLemmas.{all_default}

module _ {A : Type 0} (lists : List (Vec A)) (q : ℕ) (v : Vec A) (there : q < length lists) where
  -- the list of each process after one is replaced
  pub list_set : (p : ℕ) → get_or (lists_in (set lists q v)) p [] ≡ cond (p == q) v.items (get_or (lists_in lists) p [])
  list_set p = grind (arith, eqb_tells p q, map-set (λ (l : Vec A). l.items) lists q v, length-map lists (λ (l : Vec A). l.items), get_or-set_same, get_or-set_other)

  -- the list of a process that is read
  pub list_read : v ≡ get_or lists q v → get_or (lists_in lists) q [] ≡ v.items
  list_read read = get_or-map (λ (l : Vec A). l.items) lists q v [] there ∙ ap (λ (l : Vec A). l.items) (sym read)

-- a list with one more number
in_old : (list : List ℕ) (number i : ℕ) → IsIn list i → IsIn (list ++ number ∷ []) i
in_old list number i (k, low, is) = (k, grind (arith, length_push list number), grind (arith, get_or_append_left list (number ∷ []) 0 k))

in_new : (list : List ℕ) (number : ℕ) → IsIn (list ++ number ∷ []) number
in_new list number = (length list, grind (arith, length_push list number), get_or_push list number 0 (length list) refl)

-- a number is added to a process's log, and the process to the number's holders
pub logged_more : (holders new : List (FinSet nat_cmp)) (logs : List (Vec ℕ)) (v w : Vec ℕ) (number who : ℕ) → number < length holders → length new ≡ length holders → who < length logs → v ≡ get_or logs who v → w.items ≡ v.items ++ number ∷ []
    → ((i p : ℕ) → holds new i p ≡ ((i == number && who == p) || holds holders i p)) → AreLogged holders logs → AreLogged new (set logs who w)
logged_more holders new logs v w number who small same there read pushed held are = record { logged = logged; below = below }
  where
    now : (p : ℕ) → logged_numbers (set logs who w) p ≡ cond (p == who) (logged_numbers logs p ++ number ∷ []) (logged_numbers logs p)
    now p = grind (arith, eqb_tells p who, list_set logs who w there p, list_read logs who v there read)

    logged : (i p : ℕ) → holds new i p ≡ true → IsIn (logged_numbers (set logs who w) p) i
    logged i p h = rw (now p) (elim (or_cases (i == number && who == p) (holds holders i p) (sym (held i p) ∙ h)) [
      | inl added ↦ grind (arith, in_new (logged_numbers logs p) number, eqb_tells p who, eqb_tells i number)
      | inr old ↦ grind (arith, in_old (logged_numbers logs p) number i (are.logged i p old), are.logged i p old)
    ])

    below : (p k : ℕ) → k < length (logged_numbers (set logs who w) p) → get_or (logged_numbers (set logs who w) p) k 0 < length new
    below p k h = grind (arith, now p, are.below p k, cases_lt k (length (logged_numbers logs p)), length_push, get_or_append_left, get_or_push)

-- a process's log is emptied, and the process is removed from the holders of each number
pub logged_less : (holders new : List (FinSet nat_cmp)) (logs : List (Vec ℕ)) (w : Vec ℕ) (who : ℕ) → length new ≡ length holders → who < length logs → w.items ≡ []
    → ((i p : ℕ) → holds new i p ≡ (not (who == p) && holds holders i p)) → AreLogged holders logs → AreLogged new (set logs who w)
logged_less holders new logs w who same there emptied held are = record {
  logged = λ i p h.
      let parts = and_parts (not (who == p)) (holds holders i p) (sym (held i p) ∙ h) in
      let unchanged : logged_numbers (set logs who w) p ≡ logged_numbers logs p = grind (arith, list_set logs who w there p, eqb_tells p who, parts.0) in
      rw unchanged (are.logged i p parts.1);
  below = λ p k h. grind (arith, list_set logs who w there p, eqb_tells p who, are.below p k);
}

-- the holders after a process is removed from those of each number that it has logged
pub emptied : (holders new : List (FinSet nat_cmp)) (logs : List (Vec ℕ)) (v : Vec ℕ) (who : ℕ) → who < length logs → v ≡ get_or logs who v → AreLogged holders logs
    → ((i : ℕ) → IsIn v.items i → holds new i who ≡ false) → ((i p : ℕ) → (p ≡ who → ⊥) → holds new i p ≡ holds holders i p) → ((i p : ℕ) → holds new i p ≡ true → holds holders i p ≡ true)
    → (i p : ℕ) → holds new i p ≡ (not (who == p) && holds holders i p)
emptied holders new logs v who there read are gone others fewer i p =
    let none : holds new i who ≡ true → holds new i who ≡ false = λ h. gone i (rw (list_read logs who v there read) at (are.logged i who (fewer i who h))) in
    grind (arith, eqb_tells who p, others i p, none)

-- empty logs, where nothing is held
pub logged_none : (holders : List (FinSet nat_cmp)) (logs : List (Vec ℕ)) (n : ℕ) → lists_in logs ≡ replicate n [] → ((i p : ℕ) → holds holders i p ≡ false) → AreLogged holders logs
logged_none holders logs n are none = record {
  logged = λ i p h. absurd (both_ways (holds holders i p) (none i p) h);
  below = λ p k h. absurd (omega (arith, rw (are, all_default {A = List ℕ} n p []) at h));
}
