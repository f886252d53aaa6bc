-- The verdict on a recorded run for f: every instant is safe, or why the first unsafe instant is not.
use Rattle.std.specs.Prelude.{◌≡◌, ℕ, ◌<◌, ◌≤◌, Bool, true, List, length}
use Rattle.std.specs.Ordering.{nat_cmp}
use Rattle.std.specs.FinSet.{FinSet, contains}
use Rattle.causal_name.specs.Sets.{count_below, IsSubsetBelow}
pub use Rattle.causal_holders.specs.Members.{HasMembers}
use Rattle.causal_trace.specs.declared.entry.Entry.{Entry}
use Rattle.causal_trace.specs.Past.{instant, is_down}
use Rattle.causal_trace.specs.Rows.{Recording}
use Rattle.causal_trace.specs.Judgement.{IsCrashSet, IsOrphan, HasOrphan, IsSafe, IsSafeTrace}
use Rattle.causal_audit.specs.declared.verdict.Verdict.{Verdict}
use Rattle.causal_audit.specs.declared.verdict.Verdict.TheVariants.{Accept, Exceeded, Orphan}

-- t is the first instant that is not safe
pub record IsFirstUnsafe (r : Recording) (f t : ℕ) : Type 0 where
  pub within : t ≤ length r.past
  pub unsafe : IsSafe r.processes f (instant r.past t) → ⊥
  pub before : (u : ℕ) → u < t → IsSafe r.processes f (instant r.past u)

-- more than f processes are down, and `down` contains exactly these
pub record IsExcess (n f : ℕ) (past : List Entry) (down : FinSet nat_cmp) : Type 0 where
  pub many : f < count_below n (is_down past)
  pub members : HasMembers n down (is_down past)

-- the smallest crash set that gives the delivery k an orphan, and the least orphan p under it
pub record IsLeastOrphan (n f : ℕ) (past : List Entry) (k : ℕ) (crash : FinSet nat_cmp) (p : ℕ) : Type 0 where
  pub process : (q : ℕ) → contains crash q ≡ true → q < n
  pub may_crash : IsCrashSet n f past (contains crash)
  pub is_orphan : IsOrphan n past k (contains crash) p
  pub least_set : (other : ℕ → Bool) (q : ℕ) → IsCrashSet n f past other → IsOrphan n past k other q → IsSubsetBelow n (contains crash) other
  pub least_orphan : (q : ℕ) → IsOrphan n past k (contains crash) q → p ≤ q

-- at most f processes are down, and k is the first delivery with an orphan
pub record IsBreach (n f : ℕ) (past : List Entry) (k : ℕ) (crash : FinSet nat_cmp) (p : ℕ) : Type 0 where
  pub few_down : count_below n (is_down past) ≤ f
  pub first : (j : ℕ) → j < k → HasOrphan n f past j → ⊥
  pub least : IsLeastOrphan n f past k crash p

-- the verdict is correct for the recording and f
abbrev pub IsVerdict : Recording → ℕ → Verdict → Type 0
IsVerdict r f Accept = IsSafeTrace r f
IsVerdict r f (Exceeded t down) = IsFirstUnsafe r f t × IsExcess r.processes f (instant r.past t) down
IsVerdict r f (Orphan t k crash orphan) = IsFirstUnsafe r f t × IsBreach r.processes f (instant r.past t) k crash orphan
