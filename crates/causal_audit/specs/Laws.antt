-- Laws about safety and verdicts: orphans by counting, uniqueness of verdicts, prefixes of runs.
use Rattle.std.specs.Prelude.{◌≡◌, ◌≢◌, ℕ, ◌<◌, ◌≤◌, ◌++◌, Bool, true, false, List, Some, ◌⊎◌, ◌↔◌}
use Rattle.causal_name.specs.declared.Det.{Det}
use Rattle.causal_name.specs.Sets.{count_below, union_test, IsSubsetBelow}
use Rattle.causal_trace.specs.declared.entry.Entry.{Entry}
use Rattle.causal_trace.specs.Past.{is_down, logs, is_stable, det_at}
use Rattle.causal_trace.specs.Dependence.{Depends}
use Rattle.causal_trace.specs.Rows.{Recording}
use Rattle.causal_trace.specs.Judgement.{IsCrashSet, IsOrphan, HasOrphan, IsSafe}
use Rattle.causal_audit.specs.declared.verdict.Verdict.{Verdict}
use Rattle.causal_audit.specs.declared.verdict.Verdict.TheVariants.{Accept}
use Rattle.causal_audit.specs.Verdicts.{IsVerdict}

-- the processes that are down, and those whose volatile log contains d
abbrev pub down_or_holding : List Entry → Det → ℕ → Bool
down_or_holding past d = union_test (is_down past) (λ p. logs past p d)

-- why the delivery k with determinant d has an orphan: d is not stable, at most f processes are down or hold d, and
-- some dependent does not hold it
pub record IsExposed (n f : ℕ) (past : List Entry) (k : ℕ) (d : Det) : Type 0 where
  pub unstable : is_stable past d ≡ false
  pub few : count_below n (down_or_holding past d) ≤ f
  pub orphan : ℕ
  pub process : orphan < n
  pub depends : Depends past k orphan
  pub without : logs past orphan d ≡ false

-- the law: a delivery has an orphan under some crash set exactly if it is exposed; no crash set is enumerated
abbrev pub OrphansByCounting : Type 0
OrphansByCounting = (n f : ℕ) (past : List Entry) (k : ℕ) (d : Det) → det_at past k ≡ Some d → HasOrphan n f past k ↔ IsExposed n f past k d

-- the law: each crash set that gives an orphan contains the processes that are down or hold the determinant
abbrev pub CrashSetsContain : Type 0
CrashSetsContain =
    (n f : ℕ) (past : List Entry) (k : ℕ) (d : Det) (crash : ℕ → Bool) (p : ℕ) → det_at past k ≡ Some d
    → IsCrashSet n f past crash → IsOrphan n past k crash p → IsSubsetBelow n (down_or_holding past d) crash

-- the law: for an exposed delivery these processes are a crash set, and its orphans are the dependents that do not hold
-- the determinant
abbrev pub DownOrHoldingIsCrashSet : Type 0
DownOrHoldingIsCrashSet =
    (n f : ℕ) (past : List Entry) (k : ℕ) (d : Det) → det_at past k ≡ Some d → IsExposed n f past k d
    → IsCrashSet n f past (down_or_holding past d)
    × ((p : ℕ) → IsOrphan n past k (down_or_holding past d) p ↔ ((p < n) × Depends past k p × (logs past p d ≡ false)))

-- the law: for f at least n, an instant is safe exactly if each earlier delivery's determinant is stable or in the log
-- of every process that depends on the delivery
abbrev pub NoOrphansCondition : Type 0
NoOrphansCondition =
    (n f : ℕ) (past : List Entry) → n ≤ f
    → IsSafe n f past ↔ ((k : ℕ) (d : Det) → det_at past k ≡ Some d
    → (is_stable past d ≡ true) ⊎ ((p : ℕ) → p < n → Depends past k p → logs past p d ≡ true))

-- the law: a recorded run has exactly one verdict for f
abbrev pub VerdictIsUnique : Type 0
VerdictIsUnique = (r : Recording) (f : ℕ) (v w : Verdict) → IsVerdict r f v → IsVerdict r f w → v ≡ w

-- the law: a verdict on a prefix of a run, if it does not accept, is the verdict on the run
abbrev pub PrefixBreachIsFinal : Type 0
PrefixBreachIsFinal =
    (r whole : Recording) (later : List Entry) (f : ℕ) (v : Verdict) → whole.processes ≡ r.processes → whole.past ≡ later ++ r.past
    → v ≢ Accept → IsVerdict r f v → IsVerdict whole f v
