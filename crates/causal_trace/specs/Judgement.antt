-- Crash sets, orphans and safety of a state of n processes, with a bound f on the processes down at once.
-- Orphans are those of Elnozahy, Alvisi, Wang and Johnson 2002.
use Rattle.std.specs.Prelude.{◌≡◌, ℕ, ◌<◌, ◌≤◌, Bool, false, List, length, Some}
use Rattle.causal_name.specs.declared.Det.{Det}
use Rattle.causal_name.specs.Sets.{count_below, IsSubsetBelow}
use Rattle.causal_trace.specs.declared.entry.Entry.{Entry}
use Rattle.causal_trace.specs.Past.{instant, is_down, logs, is_stable, det_at}
use Rattle.causal_trace.specs.Dependence.{Depends}
use Rattle.causal_trace.specs.Rows.{Recording}

-- a crash set: contains the down processes and has at most f members
pub record IsCrashSet (n f : ℕ) (past : List Entry) (crash : ℕ → Bool) : Type 0 where
  pub down : IsSubsetBelow n (is_down past) crash
  pub few : count_below n crash ≤ f

-- p is an orphan of delivery k under a crash set: p survives and depends on k, whose determinant is neither stable
-- nor in the volatile log of a survivor
pub record IsOrphan (n : ℕ) (past : List Entry) (k : ℕ) (crash : ℕ → Bool) (p : ℕ) : Type 0 where
  pub process : p < n
  pub depends : Depends past k p
  pub survives : crash p ≡ false
  pub det : Det
  pub delivered : det_at past k ≡ Some det
  pub unstable : is_stable past det ≡ false
  pub lost : (q : ℕ) → q < n → crash q ≡ false → logs past q det ≡ false

-- delivery k has an orphan under some crash set
pub record HasOrphan (n f : ℕ) (past : List Entry) (k : ℕ) : Type 0 where
  pub crash : ℕ → Bool
  pub orphan : ℕ
  pub may_crash : IsCrashSet n f past crash
  pub is_orphan : IsOrphan n past k crash orphan

-- a safe state: at most f processes are down, and no delivery has an orphan under any crash set
pub record IsSafe (n f : ℕ) (past : List Entry) : Type 0 where
  pub few_down : count_below n (is_down past) ≤ f
  pub no_orphan : (k : ℕ) → HasOrphan n f past k → ⊥

-- a safe trace for f: each of its instants is safe
abbrev pub IsSafeTrace : Recording → ℕ → Type 0
IsSafeTrace r f = (t : ℕ) → t ≤ length r.past → IsSafe r.processes f (instant r.past t)
