-- Lists of a field of each element, after an element is replaced or added.
use Rattle.std.specs.Prelude.{◌≡◌, ◌≢◌, ℕ, ◌<◌, List, [], ◌∷◌, ◌++◌, length, map}
use Rattle.std.proofs.Common.{Bool, true, false, cond, Vec, Global, zero, suc, refl, arith, ap, sym, ◌∙◌, ◌+◌, get_or, get_or-set_same, get_or-set_other}
use Rattle.std.proofs.Math.ListN.{set}
use Rattle.causal_clock.specs.declared.Rise.{Rise}
use Rattle.causal_clock.specs.declared.lane.LaneColumns.{LaneColumns}
use Rattle.causal_clock.specs.Inside.Columns.{column_in, column_of}
use Rattle.causal_clock.specs.Inside.Lanes.{rises_in, SameColumns, AreEmpty}
use Rattle.std.proofs.lemmas.List.{map-append, map-set, set-get_or, get_or-map, length-map, length-append, get_or_append_left, get_or_past}
use Rattle.std.proofs.Math.Seq.{get_or-append_seam}

module _ {V B : Type 0} (f : V → B) (xs : List V) (i : ℕ) (x y : V) where
  -- the field of the replaced element, and of the others
  pub told_here : (d : B) → i < length (map f xs) → get_or (map f (set xs i y)) i d ≡ f y
  told_here d lt = ap (λ ys. get_or ys i d) (map-set f xs i y) ∙ get_or-set_same (map f xs) i (f y) d lt

  -- replacing an element leaves the fields of the others unchanged
  pub told_elsewhere : (d : B) (k : ℕ) → k ≢ i → get_or (map f (set xs i y)) k d ≡ get_or (map f xs) k d
  told_elsewhere d k other = ap (λ ys. get_or ys k d) (map-set f xs i y) ∙ get_or-set_other (map f xs) i k (f y) d other

  -- the list has at an index the field of the element there
  pub told_was : (d : B) → i < length xs → x ≡ get_or xs i x → get_or (map f xs) i d ≡ f x
  told_was d lt is = get_or-map f xs i x d lt ∙ ap f (sym is)

  -- replacing an element by one with an equal field changes nothing
  pub told_same : i < length xs → x ≡ get_or xs i x → f y ≡ f x → map f (set xs i y) ≡ map f xs
  told_same lt is same = grind (arith, map-set f xs i y, set (map f xs) i, told_was (f x) lt is, set-get_or)

-- appending an element with the default field changes no look-up
pub told_default : {B : Type 0} (ys : List B) (b d : B) → b ≡ d → (k : ℕ) → get_or (ys ++ b ∷ []) k d ≡ get_or ys k d
told_default ys b d is k = grind (arith, get_or_append_left, get_or-append_seam ys b [] d, get_or_past, length-append)

-- appending 0 to a list of numbers, or nothing, changes no look-up
pub row_pushed : (added : Bool) (row row' : List ℕ) → row' ≡ cond added (row ++ 0 ∷ []) row → (k : ℕ) → get_or row' k 0 ≡ get_or row k 0
row_pushed true row row' is k = ap (λ xs. get_or xs k 0) is ∙ told_default row 0 0 refl k
row_pushed false row row' is k = ap (λ xs. get_or xs k 0) is

-- a number that is 0 is still 0 after one more number, if that is 0 or another one
pub zero_pushed : (xs : List ℕ) (x own : ℕ) → (own ≡ length xs → x ≡ 0) → get_or xs own 0 ≡ 0 → get_or (xs ++ x ∷ []) own 0 ≡ 0
zero_pushed [] x zero is none = is refl
zero_pushed [] x (suc own) is none = refl
zero_pushed (y ∷ xs) x zero is none = none
zero_pushed (y ∷ xs) x (suc own) is none = zero_pushed xs x own (λ same. is (ap suc same)) none

-- what holds of each number and of one more, holds of each after that is appended
pub each_pushed : (xs : List ℕ) (x : ℕ) (P : ℕ → ℕ → Type 0) → ((k : ℕ) → k < length xs → P k (get_or xs k 0)) → P (length xs) x → (k : ℕ) → k < length xs + 1 → P k (get_or (xs ++ x ∷ []) k 0)
each_pushed [] x P old new zero lt = new
each_pushed [] x P old new (suc k) lt = absurd (omega (arith, lt))
each_pushed (y ∷ xs) x P old new zero lt = old 0 (omega arith)
each_pushed (y ∷ xs) x P old new (suc k) lt = each_pushed xs x (λ j. P (suc j)) (λ j low. old (suc j) (omega (arith, low))) new k (omega (arith, lt))

-- ---- the columns of a clock's lanes, after a lane is replaced

module _ (xs : List LaneColumns) (l : ℕ) (x y : LaneColumns) (lt : l < length xs) where
  -- a replaced lane has its new columns
  pub column_here : (source : ℕ) → column_of (map rises_in (set xs l y)) l source ≡ column_in (rises_in y) source
  column_here source = ap (λ columns. column_in columns source) (told_here rises_in xs l x y [] (omega (arith, lt, length-map xs rises_in)))

  -- replacing a lane leaves the columns of the others unchanged
  pub column_elsewhere : (lane source : ℕ) → lane ≢ l → column_of (map rises_in (set xs l y)) lane source ≡ column_of (map rises_in xs) lane source
  column_elsewhere lane source other = ap (λ columns. column_in columns source) (told_elsewhere rises_in xs l x y [] lane other)

  -- a lane that was read has the columns of the lane there
  pub column_was : x ≡ get_or xs l x → (source : ℕ) → column_of (map rises_in xs) l source ≡ column_in (rises_in x) source
  column_was is source = ap (λ columns. column_in columns source) (told_was rises_in xs l x y [] lt is)

  -- replacing a lane by one with the same columns changes nothing
  pub columns_same : x ≡ get_or xs l x → SameColumns x y → (lane source : ℕ) → column_of (map rises_in (set xs l y)) lane source ≡ column_of (map rises_in xs) lane source
  columns_same is same lane source = grind (arith, set, column_here, column_was, column_elsewhere)

-- appending a lane without rises changes no columns
pub column_more : (xs : List LaneColumns) (x : LaneColumns) → rises_in x ≡ [] → (lane source : ℕ) → column_of (map rises_in (xs ++ x ∷ [])) lane source ≡ column_of (map rises_in xs) lane source
column_more xs x is lane source = ap (λ columns. column_in (get_or columns lane []) source) (map-append rises_in xs (x ∷ [])) ∙ ap (λ columns. column_in columns source) (told_default (map rises_in xs) (rises_in x) [] is lane)

-- appending an empty column, or none, changes nothing
pub column_pushed : (added : Bool) (xs ys : List (Vec Rise Global)) (v : Vec Rise Global) → ys ≡ cond added (xs ++ v ∷ []) xs → v.items ≡ [] → (source : ℕ) → column_in (map (λ c. c.items) ys) source ≡ column_in (map (λ c. c.items) xs) source
column_pushed true xs ys v is empty source = grind (arith, map-append, told_default)
column_pushed false xs ys v is empty source = ap (λ l. column_in (map (λ c. c.items) l) source) is

-- no lanes, and one more lane without events
pub empty_none : AreEmpty [] 0
empty_none = record { many = refl; lengths = λ lane. refl; columns = λ lane source. refl }

pub empty_pushed : (xs : List LaneColumns) (x : LaneColumns) (n : ℕ) → x.events ≡ 0 → rises_in x ≡ [] → AreEmpty xs n → AreEmpty (xs ++ x ∷ []) (n + 1)
empty_pushed xs x n none columns are = record {
  many = omega (arith, are.many, length-append xs (x ∷ []));
  lengths = λ lane. ap (λ ys. get_or ys lane 0) (map-append (λ (y : LaneColumns). y.events) xs (x ∷ [])) ∙ told_default (map (λ (y : LaneColumns). y.events) xs) x.events 0 none lane ∙ are.lengths lane;
  columns = λ lane source. column_more xs x columns lane source ∙ are.columns lane source;
}
