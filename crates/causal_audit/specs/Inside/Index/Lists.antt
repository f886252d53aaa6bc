-- The lists of positions that an index contains: crashes, restarts and mentions.
use Rattle.std.specs.Prelude.{◌≡◌, ℕ, ◌+◌, ◌<◌, ◌≤◌, ◌⊎◌, true, List, [], ◌∷◌, ◌++◌, length, map, Option, Some, slice_set, slice_index_or, Contains, ◌&&◌, ◌==◌, not, Bool, false, MatchOption}
use Rattle.causal_audit.specs.Inside.Common.{All, IsNonDecreasing, option_map_or, nat_cmp, FinSet, Det, Entry, entry_at, list_has, instant, is_down, past_at, Crash, Restart}
use Rattle.std.specs.Global.{Vec}
use Rattle.std.specs.Option.{is_some}
use Rattle.causal_audit.specs.Inside.PositionLists.{AreMentionsOf, HasMentions, HasAllTransitions}
use Rattle.causal_trace.specs.Past.{mentioned_dets}
use Rattle.causal_audit.specs.Inside.DeliveryStates.{HasExactly}
use Rattle.causal_audit.specs.Covered.{IsCrashOf}
use Rattle.causal_trace.specs.Numbers.{number_of}

-- a list ascends and contains only numbers below a bound
pub record Ascends (bound : ℕ) (list : List ℕ) : Type 0 where
  pub ascending : IsNonDecreasing list
  pub below : All (λ v. v < bound) list

-- the lists in a vector of vectors
abbrev pub lists_in : {A : Type 0} → List (Vec A) → List (List A)
lists_in lists = map (λ list. list.items) lists

-- the past of these entries, which are listed oldest first
abbrev pub past_of : List Entry → List Entry
past_of entries = past_at entries (length entries)

-- the list of a number
abbrev pub list_at : List (List ℕ) → ℕ → List ℕ
list_at lists m = slice_index_or lists m []

-- the lists with one more number at the end of one of them
abbrev pub with_added : List (List ℕ) → ℕ → ℕ → List (List ℕ)
with_added lists m v = slice_set lists m (list_at lists m ++ v ∷ [])

-- the positions of the crashes and restarts, and the down processes after each
pub record AreTransitions (past : List Entry) (list : List ℕ) (downs : List (FinSet nat_cmp)) : Type 0 where
  pub ascends : Ascends (length past) list
  pub turned : HasAllTransitions past list
  pub counted : length downs ≡ length list
  pub shown : (i : ℕ) (s : FinSet nat_cmp) → i < length list → HasExactly (slice_index_or downs i s) (λ p. is_down (instant past (slice_index_or list i 0 + 1)) p)

-- the list of a determinant, among lists by the numbers of the first deliveries
abbrev pub mentions_of : List Det → List (List ℕ) → Det → List ℕ
mentions_of delivered lists d = option_map_or (list_at lists) (number_of (length lists) delivered d) []

-- the numbers of these determinants among the first `many` deliveries
abbrev pub AreNumbersOf : ℕ → List Det → List Det → List ℕ → Type 0
AreNumbersOf many delivered dets numbers = map (number_of many delivered) dets ≡ map (λ number. Some number) numbers

-- each of these determinants is that of one of the first `many` deliveries
abbrev pub HaveNumbers : ℕ → List Det → List Det → Type 0
HaveNumbers many delivered dets = All (λ d. is_some (number_of many delivered d) ≡ true) dets

-- a list that is not empty is that of the newest of the first deliveries with its determinant
abbrev pub AreOwned : List Det → List (List ℕ) → Type 0
AreOwned delivered lists = (i v : ℕ) (d : Det) → Contains (list_at lists i) v → number_of (i + 1) delivered d ≡ Some i → number_of (length lists) delivered d ≡ Some i

-- for each determinant the list contains exactly the positions of the entries that mention it
pub record AreMentions (past : List Entry) (delivered : List Det) (lists : List (List ℕ)) : Type 0 where
  pub ascend : All (Ascends (length past)) lists
  pub mentioned : (d : Det) → HasMentions past d (mentions_of delivered lists d)
  pub only : (d : Det) → AreMentionsOf past d (mentions_of delivered lists d)
  pub owned : AreOwned delivered lists

-- as `AreMentions`, with the next position added to the lists of these determinants
pub record AreMentionsWith (past : List Entry) (dets delivered : List Det) (lists : List (List ℕ)) : Type 0 where
  pub ascend : All (Ascends (length past + 1)) lists
  pub mentioned : (d : Det) → HasMentions past d (mentions_of delivered lists d)
  pub noted : (d : Det) → list_has dets d ≡ true → Contains (mentions_of delivered lists d) (length past)
  pub only : (d : Det) (v : ℕ) → Contains (mentions_of delivered lists d) v → ((e : Entry) × (entry_at past v ≡ Some e) × (list_has (mentioned_dets e) d ≡ true)) ⊎ ((v ≡ length past) × (list_has dets d ≡ true))
  pub owned : AreOwned delivered lists

-- whether an entry restarts this process, or crashes it if `restarts` is false
abbrev pub restarts_or_crashes : Bool → ℕ → Entry → Bool
restarts_or_crashes restarts p (Crash who) = not restarts && (who.0 == p)
restarts_or_crashes restarts p (Restart who listed) = restarts && (who.0 == p)
restarts_or_crashes restarts p _ = false

-- the process that the entry restarts or crashes, if it does
abbrev pub IsProcessOf : Bool → Entry → Option ℕ → Type 0
IsProcessOf restarts e found = MatchOption found
    ((p : ℕ) → restarts_or_crashes restarts p e ≡ false)
    (λ q. (p : ℕ) → restarts_or_crashes restarts p e ≡ (q == p))

-- for each process the list contains exactly the positions of the entries that restart or crash it
pub record AreTransitionsOf (restarts : Bool) (past : List Entry) (lists : List (List ℕ)) : Type 0 where
  pub ascend : All (Ascends (length past)) lists
  pub only : (p v : ℕ) → Contains (list_at lists p) v → (e : Entry) × (entry_at past v ≡ Some e) × (restarts_or_crashes restarts p e ≡ true)
  pub all : (p v : ℕ) (e : Entry) → entry_at past v ≡ Some e → (Contains (list_at lists p) v → ⊥) → restarts_or_crashes restarts p e ≡ false

-- c is the position of the first crash of p after k, or `end` if there is none before that
pub record IsFirstCrash (past : List Entry) (p k end c : ℕ) : Type 0 where
  pub within : c ≤ end
  pub after : k < c
  pub found : c < end → IsCrashOf past p c
  pub none : (v : ℕ) → k < v → v < c → IsCrashOf past p v → ⊥
