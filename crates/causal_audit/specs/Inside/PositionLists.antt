-- Lists of the positions at which a delivery's state may change, and a cursor over such a list.
use Rattle.std.specs.Prelude.{◌≡◌, ℕ, true, false, List, Some, Contains, ◌<◌, ◌≤◌, slice_index_or, Bool}
use Rattle.causal_audit.specs.Inside.Common.{Det, Entry, entry_at, list_has, nat_cmp, FinSet, contains, actor}
use Rattle.causal_trace.specs.Past.{mentioned_dets}
use Rattle.causal_audit.specs.Quiet.{is_transition}
use Rattle.causal_audit.specs.declared.index.cursor.Cursor.{Cursor}

-- an entry whose position is not in the list does not mention d
abbrev pub HasMentions : List Entry → Det → List ℕ → Type 0
HasMentions past d list =
    (v : ℕ) (e : Entry) → entry_at past v ≡ Some e → (Contains list v → ⊥) → list_has (mentioned_dets e) d ≡ false

-- each position of the list is that of an entry that mentions d
abbrev pub AreMentionsOf : List Entry → Det → List ℕ → Type 0
AreMentionsOf past d list = (v : ℕ) → Contains list v → (e : Entry) × (entry_at past v ≡ Some e) × (list_has (mentioned_dets e) d ≡ true)

-- an entry whose position is not in the list is not a crash or restart
abbrev pub HasAllTransitions : List Entry → List ℕ → Type 0
HasAllTransitions past list = (v : ℕ) (e : Entry) → entry_at past v ≡ Some e → (Contains list v → ⊥) → is_transition e ≡ false

-- a cursor over the list that has passed only numbers below `from`
pub record IsCursor (list : List ℕ) (from : ℕ) (cursor : Cursor) : Type 0 where
  pub over : cursor.list.now ≡ list
  pub passed : (i v : ℕ) → i < cursor.passed → slice_index_or list i v < from

-- the list contains no number from `from` to below `next`
abbrev pub HasNoneUntil : List ℕ → ℕ → ℕ → Type 0
HasNoneUntil list from next = (v : ℕ) → from ≤ v → v < next → Contains list v → ⊥

-- an entry does not change the state of a delivery: it is not a crash or restart, does not mention the determinant, and
-- is not an event of a process that newly depends on the delivery; `mentioned`: it mentions the determinant; `reached`:
-- the delivery reaches it
pub record HasNoEffect (e : Entry) (mentioned reached : Bool) (dependents : FinSet nat_cmp) : Type 0 where
  pub no_turn : is_transition e ≡ false
  pub unmentioned : mentioned ≡ false
  pub known : (p : ℕ) → actor e ≡ Some p → reached ≡ true → contains dependents p ≡ true
