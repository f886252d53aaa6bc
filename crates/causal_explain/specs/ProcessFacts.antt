-- The processes of which a fact holds at a state, and since when.
use Rattle.std.specs.Prelude.{◌≡◌, ℕ, ◌<◌, ◌≤◌, ◌||◌, ◌&&◌, not, Bool, true, false, List, [], ◌∷◌, length, map, filter, Some}
use Rattle.std.specs.List.{All, range_with_len}
use Rattle.causal_name.specs.declared.Det.{Det}
use Rattle.causal_trace.specs.declared.entry.Entry.{Entry}
use Rattle.causal_trace.specs.declared.entry.Entry.TheVariants as entry
use Rattle.causal_trace.specs.Past.{instant, entry_at, list_has, is_down, logs}
use Rattle.causal_facts.specs.declared.process_fact.DownProcess.{DownProcess}
use Rattle.causal_facts.specs.declared.process_fact.Holding.{Holding}
use Rattle.causal_facts.specs.declared.process_fact.Loss.{Loss}
use Rattle.causal_facts.specs.declared.process_fact.LostBy.{LostBy}
use Rattle.causal_facts.specs.declared.process_fact.LostBy.TheVariants.{Crash, Forgetting}

-- the test holds since the entry at position s: not just before it, and at each instant after it
pub record HoldsSince (past : List Entry) (test : List Entry → Bool) (s : ℕ) : Type 0 where
  pub within : s < length past
  pub before : test (instant past s) ≡ false
  pub after : (t : ℕ) → s < t → t ≤ length past → test (instant past t) ≡ true

-- whether the test holds at this state or an earlier one
abbrev pub ever_holds : (List Entry → Bool) → List Entry → Bool
ever_holds test [] = test []
ever_holds test (e ∷ past) = test (e ∷ past) || ever_holds test past

-- the processes below n that pass, ascending
abbrev pub members_below : ℕ → (ℕ → Bool) → List ℕ
members_below n test = filter test (range_with_len 0 n)

-- the list has exactly those of n processes that pass, ascending, each with true facts
pub record ListsExactly {X : Type 0} (n : ℕ) (test : ℕ → Bool) (process : X → ℕ) (IsRight : X → Type 0) (told : List X) : Type 0 where
  pub processes : map process told ≡ members_below n test
  pub each : All IsRight told

-- the processes that are down, each since its last crash
abbrev pub AreDown : ℕ → List Entry → List DownProcess → Type 0
AreDown n past = ListsExactly n (is_down past) (λ (x : DownProcess). x.process) (λ x. HoldsSince past (λ state. is_down state x.process) x.since)

-- the processes whose volatile logs contain d, each since the entry by which its log last came to contain it
abbrev pub AreHoldings : ℕ → List Entry → Det → List Holding → Type 0
AreHoldings n past d = ListsExactly n (λ p. logs past p d) (λ (x : Holding). x.process) (λ x. HoldsSince past (λ state. logs state x.process d) x.since)

-- by the entry, a crash or a forgetting of p, p's volatile log loses d
abbrev pub Loses : Entry → ℕ → Det → LostBy → Type 0
Loses (entry.Crash who) p d by = (by ≡ Crash) × (p ≡ who.0)
Loses (entry.Forget who listed) p d by = (by ≡ Forgetting) × (p ≡ who.0) × (list_has listed d ≡ true)
Loses _ p d by = ⊥

-- a process's volatile log lacks d since the entry at a position, by which it lost it, and contained d until then since
-- another
pub record IsLoss (past : List Entry) (d : Det) (x : Loss) : Type 0 where
  pub held : HoldsSince (instant past x.lost) (λ state. logs state x.process d) x.since
  pub since : HoldsSince past (λ state. not (logs state x.process d)) x.lost
  pub entry : Entry
  pub there : entry_at past x.lost ≡ Some entry
  pub loses : Loses entry x.process d x.by

-- the processes whose volatile logs contained d at an earlier state and lack it, each since the entry that last removed
-- it
abbrev pub AreLosses : ℕ → List Entry → Det → List Loss → Type 0
AreLosses n past d = ListsExactly n (λ p. ever_holds (λ state. logs state p d) past && not (logs past p d)) (λ (x : Loss). x.process) (IsLoss past d)
