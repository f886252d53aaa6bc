-- Results of tests and look-ups in lists, filtered lists and sorted entries.
use Rattle.std.proofs.Common.{arith, ◌≡◌, ◌∙◌, Bool, true, false, cond, ◌&&◌, ◌||◌, List, [], ◌∷◌, map, filter, Option, Some, None, is_some, refl, sym, ap}
use Rattle.std.proofs.lemmas.Bool.{and_parts}
use Rattle.std.specs.Prelude.{T}
use Rattle.std.specs.List.{list_any}
use Rattle.std.specs.Ordering.{is_eq, is_lt, eq_by_cmp}
use Rattle.std.specs.FinMap as fin
use Rattle.std.specs.FinMap.Entries.{find, is_sorted, below_all}
use Rattle.std.specs.declared.cmp.Ordering.{Ordering}
use Rattle.causal_name.specs.declared.Det.{Det}
use Rattle.causal_name.specs.Names.{det_cmp, same_det, is_before}
use Rattle.std.specs.Cmp.{eq_by_cmp_equiv}
use Rattle.causal_name.proofs.Lemmas.DetOrder.{dets_total, det_ties, same_is}

-- a test that has a proof is true
pub shown : (b : Bool) → T b → b ≡ true
shown true h = refl
shown false h = absurd h

-- false on the right leaves a disjunction unchanged
pub or_nothing : (a : Bool) → a ≡ (a || false)
or_nothing a = grind arith

-- a test of the images of a list's elements
pub any_map : {A B : Type 0} (f : A → B) (test : B → Bool) (given : A → Bool) → ((x : A) → test (f x) ≡ given x) → (xs : List A) → list_any test (map f xs) ≡ list_any given xs
any_map f test given is [] = refl
any_map f test given is (x ∷ xs) = λ i. is x i || any_map f test given is xs i

-- a test of the images of a filtered list's elements
pub any_kept : {A B : Type 0} (f : A → B) (keeps : A → Bool) (test : B → Bool) (given : A → Bool) → ((x : A) → (keeps x && test (f x)) ≡ given x) → (xs : List A) → list_any test (map f (filter keeps xs)) ≡ list_any given xs
any_kept f keeps test given is [] = refl
any_kept f keeps test given is (x ∷ xs) = grind (arith, any_kept f keeps test given is xs)

apart : (r : Ordering) → is_lt r ≡ true → is_eq r ≡ false
apart r h = grind arith

-- a determinant that comes before another differs from it
pub before_apart : (d e : Det) → is_before d e ≡ true → same_det d e ≡ false
before_apart d e h = det_ties d e ∙ apart (det_cmp d e) h

-- `same_det` is symmetric
pub same_turned : (d e : Det) → same_det d e ≡ same_det e d
same_turned d e = det_ties d e ∙ (eq_by_cmp_equiv dets_total).symm d e ∙ sym (det_ties e d)

-- whether there is a value that passes
abbrev pub passes : {X : Type 0} → (X → Bool) → Option X → Bool
passes P None = false
passes P (Some x) = P x

-- the value of an option, if it passes
abbrev pub kept_if : {X : Type 0} → (X → Bool) → Option X → Option X
kept_if P None = None
kept_if P (Some x) = cond (P x) (Some x) None

module _ {X : Type 0} where
  module _ (P : X → Bool) where
    none_below : (d : Det) (es : List (Det × X)) → below_all det_cmp d es ≡ true → list_any (λ e. same_det d e.0 && P e.1) es ≡ false
    none_below d [] h = refl
    none_below d (e ∷ es) h = let parts = and_parts (is_before d e.0) (below_all det_cmp d es) h in λ i. (before_apart d e.0 parts.0 i && P e.1) || none_below d es parts.1 i

    -- in sorted entries a test of one determinant's value agrees with a look-up
    pub any_found : (q : Det) (es : List (Det × X)) → is_sorted det_cmp es ≡ true → list_any (λ e. same_det q e.0 && P e.1) es ≡ passes P (find det_cmp q es)
    any_found q [] h = refl
    any_found q (e ∷ es) h = ap (λ b. (b && P e.1) || list_any (λ x. same_det q x.0 && P x.1) es) (det_ties q e.0) ∙ by (is_eq (det_cmp q e.0)) refl (any_found q es (and_parts (below_all det_cmp e.0 es) (is_sorted det_cmp es) h).1)
      where
        by : (b : Bool) → is_eq (det_cmp q e.0) ≡ b → list_any (λ x. same_det q x.0 && P x.1) es ≡ passes P (find det_cmp q es) → ((b && P e.1) || list_any (λ x. same_det q x.0 && P x.1) es) ≡ passes P (cond b (Some e.1) (find det_cmp q es))
        by true same later =
            let others = ap (λ d. list_any (λ x. same_det d x.0 && P x.1) es) (same_is q e.0 (det_ties q e.0 ∙ same)) ∙ none_below e.0 es (and_parts (below_all det_cmp e.0 es) (is_sorted det_cmp es) h).0 in
            ap (λ r. P e.1 || r) others ∙ sym (or_nothing (P e.1))
        by false apart later = later

  missing_below : (d : Det) (es : List (Det × X)) → below_all det_cmp d es ≡ true → find det_cmp d es ≡ None
  missing_below d [] h = refl
  missing_below d (e ∷ es) h =
      let parts = and_parts (is_before d e.0) (below_all det_cmp d es) h in
      ap (λ b. cond b (Some e.1) (find det_cmp d es)) (apart (det_cmp d e.0) parts.0) ∙ missing_below d es parts.1

  -- a look-up in the entries that pass returns what a look-up in all entries returns, if that passes
  pub find_kept : (P : X → Bool) (q : Det) (es : List (Det × X)) → is_sorted det_cmp es ≡ true → find det_cmp q (filter (λ e. P e.1) es) ≡ kept_if P (find det_cmp q es)
  find_kept P q [] h = refl
  find_kept P q (e ∷ es) h = by (P e.1) (is_eq (det_cmp q e.0)) refl refl (find_kept P q es (and_parts (below_all det_cmp e.0 es) (is_sorted det_cmp es) h).1)
    where
      rest : List (Det × X)
      rest = filter (λ x. P x.1) es

      by : (keeps is : Bool) → P e.1 ≡ keeps → is_eq (det_cmp q e.0) ≡ is → find det_cmp q rest ≡ kept_if P (find det_cmp q es)
          → find det_cmp q (cond keeps (e ∷ rest) rest) ≡ kept_if P (cond is (Some e.1) (find det_cmp q es))
      by true true keeps same later = ap (λ b. cond b (Some e.1) (find det_cmp q rest)) same ∙ sym (ap (λ b. cond b (Some e.1) None) keeps)
      by true false keeps same later = ap (λ b. cond b (Some e.1) (find det_cmp q rest)) same ∙ later
      by false true keeps same later =
          let none = ap (λ d. find det_cmp d es) (same_is q e.0 (det_ties q e.0 ∙ same)) ∙ missing_below e.0 es (and_parts (below_all det_cmp e.0 es) (is_sorted det_cmp es) h).0 in
          later ∙ ap (kept_if P) none ∙ sym (ap (λ b. cond b (Some e.1) None) keeps)
      by false false keeps same later = later

module _ {X : Type 0} where
  -- in a map's entries a test of one determinant's value agrees with a look-up
  pub any_logged : (P : X → Bool) (q : Det) (m : fin.FinMap det_cmp X) → list_any (λ e. same_det q e.0 && P e.1) (fin.entries m) ≡ passes P (fin.get m q)
  any_logged P q m = any_found P q (fin.entries m) (shown _ (fin.entries_sorted m)) ∙ ap (passes P) (sym (fin.get-entries m q))

  -- a determinant is among the entries if and only if the map has it
  pub any_dets : (q : Det) (m : fin.FinMap det_cmp X) → list_any (λ e. same_det q e.0) (fin.entries m) ≡ is_some (fin.get m q)
  any_dets q m = sym (fin.contains_key-keys m q ∙ any_map (λ e. e.0) (eq_by_cmp det_cmp q) (λ e. same_det q e.0) (λ e. sym (det_ties q e.0)) (fin.entries m))
