-- Until when a process that is down or holds a determinant remains down or a holder.
use Rattle.std.specs.Prelude.{◌≡◌, ℕ, ◌<◌, ◌≤◌, ◌&&◌, Bool, true, false, not, List, length, Some}
use Rattle.causal_audit.specs.Inside.Common.{nat_cmp, FinSet, contains, Pid, Det, Entry, Crash, Restart, instant, entry_at, list_has, is_down, logs, AreLegalEntries}
use Rattle.causal_audit.specs.Laws.{down_or_holding}
use Rattle.causal_trace.specs.Past.{mentioned_dets}

-- whether an entry restarts one of these processes
abbrev pub restarts_one : FinSet nat_cmp → Entry → Bool
restarts_one members (Restart who listed) = contains members who.0
restarts_one members _ = false

-- no entry from position t to below u restarts one of these processes
abbrev pub RestartsNone : List Entry → FinSet nat_cmp → ℕ → ℕ → Type 0
RestartsNone past members t u = (v : ℕ) (e : Entry) → t ≤ v → v < u → entry_at past v ≡ Some e → restarts_one members e ≡ false

-- whether an entry is a crash or restart of one of these processes
abbrev pub concerns_one : FinSet nat_cmp → Entry → Bool
concerns_one members (Crash who) = contains members who.0
concerns_one members (Restart who listed) = contains members who.0
concerns_one members _ = false

-- no entry from position t to below u crashes one of these processes
abbrev pub CrashesNone : List Entry → FinSet nat_cmp → ℕ → ℕ → Type 0
CrashesNone past members t u = (v : ℕ) (who : Pid) → t ≤ v → v < u → entry_at past v ≡ Some (Crash who) → contains members who.0 ≡ false

-- no entry from position t to below u mentions d
abbrev pub MentionsNone : List Entry → Det → ℕ → ℕ → Type 0
MentionsNone past d t u = (v : ℕ) (e : Entry) → t ≤ v → v < u → entry_at past v ≡ Some e → list_has (mentioned_dets e) d ≡ false

-- a process that is down or holds a determinant does so until an entry mentions the determinant or restarts the process
abbrev pub DownOrHoldingPersists : Type 0
DownOrHoldingPersists =
    (past : List Entry) (d : Det) (members : FinSet nat_cmp) (t u p : ℕ) → t ≤ u → u ≤ length past
    → MentionsNone past d t u → RestartsNone past members t u → contains members p ≡ true
    → down_or_holding (instant past t) d p ≡ true → down_or_holding (instant past u) d p ≡ true

-- until then exactly the holders that are not down still hold it
abbrev pub HoldersPersist : Type 0
HoldersPersist =
    (n : ℕ) (past : List Entry) (d : Det) (members : FinSet nat_cmp) (t u p : ℕ) → AreLegalEntries n past → t ≤ u → u ≤ length past
    → MentionsNone past d t u → RestartsNone past members t u → (logs (instant past t) p d ≡ true → contains members p ≡ true)
    → logs (instant past u) p d ≡ (logs (instant past t) p d && not (is_down (instant past u) p))
