-- The grammar's loops over a skipped value, one iteration at a time, and the data that they read.
use Rattle.std.proofs.Common.{◌≡◌, ◌≢◌, ℕ, zero, suc, ◌-◌, ◌<◌, ◌≤◌, List, ◌∷◌, length, Bool, true, false, Option, Some, None, option_map, refl, ap, ◌∙◌, arith}
use Rattle.std.specs.Prelude.{◌&&◌, is_some}
use Rattle.json.specs.Token.{Token}
use Rattle.json.specs.Json as json
use Rattle.json.specs.Reads.{token_of}
use Rattle.json.specs.declared.token.Token.{Token as Read}
use Rattle.json.specs.declared.token.Token.TheVariants as read
use Rattle.json.specs.Json.{Parse, parse_map, after_end_array, read_key, items_step, items, members, value}
use Rattle.json.proofs.Grammar.{value_is, items_end, items_more, members_end, members_no_key, members_more}
use Rattle.serde_json.specs.Data.{Num, Data, null, boolean, number, string, array, object, Items, no_items, item, Members, no_members, put}
use Rattle.serde_json.specs.Read.{number_of, of_json, of_items, of_members, converted}
use Rattle.causal_line.specs.Prescan.{count_capped, is_plain, value_fits, items_fit}

-- ---- one item or member

pub converted_some : {A B : Type 0} (f : A → Option B) (o : Option (A × List Token)) (b : B) (r : List Token) → converted f o ≡ Some (b, r) → (a : A) × (o ≡ Some (a, r)) × (f a ≡ Some b)
converted_some f o b r e = grind arith

-- an array is converted item by item
pub converted-array : (o : Option (json.Items × List Token)) → converted of_json (parse_map json.array o) ≡ parse_map array (converted of_items o)
converted-array o = grind arith

-- an object is converted member by member
pub converted-object : (o : Option (json.Members × List Token)) → converted of_json (parse_map json.object o) ≡ parse_map object (converted (λ ms. of_members ms no_members) o)
converted-object o = grind arith

-- ---- one iteration

module _ (p : Parse json.Json) where
  item_read : (n : ℕ) (ts r : List Token) (d : Data) → 0 < n → after_end_array ts ≡ None → converted of_json (p ts) ≡ Some (d, r)
      → converted of_items (items p n ts) ≡ parse_map (item d) (converted of_items (items p (n - 1) r))
  item_read n ts r d some going e = let j = converted_some of_json (p ts) d r e in rw (items_more p n ts r j.0 some going j.1) (grind (arith, j.2))

  -- if an item is an error, the items are
  pub item_refused : (n : ℕ) (ts : List Token) → after_end_array ts ≡ None → converted of_json (p ts) ≡ None → converted of_items (items p n ts) ≡ None
  unfolding items
  item_refused zero ts going e = refl
  item_refused (suc n) ts going e = rw going (grind (arith, e))

  -- after the last item, the items end
  pub items_over : (n : ℕ) (ts r : List Token) → length ts ≤ n → after_end_array ts ≡ Some r → converted of_items (items p n ts) ≡ Some (no_items, r)
  items_over n ts r enough e = ap (converted of_items) (items_end p n ts r enough e)

  module _ (old : Members) where
    -- a member is added to those before it, and reading continues
    pub member_read : (n : ℕ) (k : List ℕ) (ts s r : List Token) (d : Data) → 0 < n → read_key ts ≡ Some (Some k, s) → converted of_json (p s) ≡ Some (d, r)
        → converted (λ ms. of_members ms old) (members p n ts) ≡ converted (λ ms. of_members ms (put k d old)) (members p (n - 1) r)
    member_read n k ts s r d some key e = let j = converted_some of_json (p s) d r e in rw (members_more p n k ts s r j.0 some key j.1) (grind (arith, j.2))

    -- if the value of a member is an error, the members are
    pub member_refused : (n : ℕ) (k : List ℕ) (ts s : List Token) → read_key ts ≡ Some (Some k, s) → converted of_json (p s) ≡ None → converted (λ ms. of_members ms old) (members p n ts) ≡ None
    unfolding members
    member_refused zero k ts s key e = refl
    member_refused (suc n) k ts s key e = rw key (grind (arith, e))

    -- if the key of a member is an error, the members are
    pub key_refused : (n : ℕ) (ts : List Token) → read_key ts ≡ None → converted (λ ms. of_members ms old) (members p n ts) ≡ None
    key_refused n ts e = ap (converted (λ ms. of_members ms old)) (members_no_key p n ts e)

    -- after the last member, the members end
    pub members_over : (n : ℕ) (ts r : List Token) → length ts ≤ n → read_key ts ≡ Some (None, r) → converted (λ ms. of_members ms old) (members p n ts) ≡ Some (old, r)
    members_over n ts r enough e = ap (converted (λ ms. of_members ms old)) (members_end p n ts r enough e)

-- ---- whether items fit, one by one

-- the items fit if the n items before them do
abbrev pub AllFit : ℕ → Bool → ℕ → Items → Bool
AllFit left fit n ds = fit && items_fit left n ds

next_item : (left n : ℕ) (fit : Bool) (d : Data) (o : Option (Items × List Token)) → parse_map (AllFit left fit n) (parse_map (item d) o) ≡ parse_map (AllFit left (fit && value_fits (left - 1) d) (count_capped n)) o
next_item left n true d (Some q) = refl
next_item left n false d (Some q) = refl
next_item left n fit d None = refl

-- the items fit if those before do, the next one does, and the rest do
pub turn : (p : Parse json.Json) (n : ℕ) (ts r : List Token) (left count : ℕ) (fit : Bool) (d : Data) → 0 < n → after_end_array ts ≡ None → converted of_json (p ts) ≡ Some (d, r)
    → parse_map (AllFit left fit count) (converted of_items (items p n ts)) ≡ parse_map (AllFit left (fit && value_fits (left - 1) d) (count_capped count)) (converted of_items (items p (n - 1) r))
turn p n ts r left count fit d some going e = ap (parse_map (AllFit left fit count)) (item_read p n ts r d some going e) ∙ next_item left count fit d _

-- if mapping a result succeeds, the result was read
pub mapped : {A B : Type 0} (f : A → B) (o : Option (A × List Token)) (b : B) (r : List Token) → parse_map f o ≡ Some (b, r) → (a : A) × (o ≡ Some (a, r)) × (f a ≡ b)
mapped f o b r e = grind arith

-- if the mapped result is missing, nothing was read
pub unmapped : {A B : Type 0} (f : A → B) (o : Option (A × List Token)) → parse_map f o ≡ None → o ≡ None
unmapped f o e = grind arith

-- ---- a number

number_read : (n : Option Num) → is_some n ≡ true → (x : Num) × (n ≡ Some x)
number_read n e = grind arith

-- ---- whole values of one token

-- a token that is a whole value fits at any level
pub plain_read : (depth left : ℕ) (t : Token) (r : List Token) → is_plain t ≡ true → (d : Data) × (converted of_json (value depth (t ∷ r)) ≡ Some (d, r)) × (value_fits left d ≡ true)
plain_read depth left (Token.string s) r h = (string s, ap (converted of_json) (value_is depth _), refl)
plain_read depth left (Token.number s) r h = let x = number_read (number_of s) h in (number x.0, ap (converted of_json) (value_is depth _) ∙ ap (λ n. option_map (λ d. (d, r)) (option_map number n)) x.1, refl)
plain_read depth left (Token.boolean b) r h = (boolean b, ap (converted of_json) (value_is depth _), refl)
plain_read depth left Token.null r h = (null, ap (converted of_json) (value_is depth _), refl)
plain_read depth left _ r h = absurd (cc)

-- a token that neither is nor begins a value is an error
pub no_value : (depth : ℕ) (t : Read) (r : List Token) → t ≢ read.BeginArray → t ≢ read.BeginObject → is_plain (token_of t) ≡ false → converted of_json (value depth (token_of t ∷ r)) ≡ None
no_value depth t r a o h = grind (arith, value_is depth (token_of t ∷ r))
