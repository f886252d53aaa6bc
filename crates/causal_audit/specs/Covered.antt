-- When a delivery is covered: only its receiver depends on it, or enough processes hold its determinant.
use Rattle.std.specs.Prelude.{◌≡◌, ℕ, ◌<◌, ◌≤◌, ◌⊎◌, true, List, length, Some}
use Rattle.causal_name.specs.declared.Det.{Det}
use Rattle.causal_name.specs.declared.Pid.{Pid}
use Rattle.causal_name.specs.Sets.{count_below}
use Rattle.causal_trace.specs.declared.entry.Entry.{Entry}
use Rattle.causal_trace.specs.declared.entry.Entry.TheVariants.{Crash}
use Rattle.causal_trace.specs.Past.{instant, entry_at, det_at}
use Rattle.causal_trace.specs.Rows.{AreLegalEntries}
use Rattle.causal_trace.specs.Dependence.{IsEventOf, Reaches, Depends}
use Rattle.causal_trace.specs.Judgement.{HasOrphan}
use Rattle.causal_audit.specs.Laws.{down_or_holding}

-- the events before position `spread` that k reaches are all in k's own lane
abbrev pub StaysLocalUntil : List Entry → ℕ → ℕ → Type 0
StaysLocalUntil past k spread =
    (v p l : ℕ) → v < spread → IsEventOf past k p l → Reaches past k v → IsEventOf past v p l

-- the delivery is covered at the instant u: it is still to come, or more than f processes are down or hold its
-- determinant, or it has not left its receiver, which is down or holds the determinant
abbrev pub IsCoveredAt : ℕ → ℕ → List Entry → ℕ → Det → ℕ → ℕ → Type 0
IsCoveredAt n f past k d spread u =
    (u ≤ k) ⊎ ((f < count_below n (down_or_holding (instant past u) d)) ⊎ ((u ≤ spread) × (down_or_holding (instant past u) d d.dest.0 ≡ true)))

-- the law: no other process depends on a delivery that has not left its receiver
abbrev pub LocalHasNoOtherDependents : Type 0
LocalHasNoOtherDependents =
    (n : ℕ) (past : List Entry) (k : ℕ) (d : Det) (spread u q : ℕ) → AreLegalEntries n past → det_at past k ≡ Some d
    → StaysLocalUntil past k spread → u ≤ spread → u ≤ length past → Depends (instant past u) k q → q ≡ d.dest.0

-- the law: a covered delivery has no orphan
abbrev pub CoveredHasNoOrphan : Type 0
CoveredHasNoOrphan =
    (n f : ℕ) (past : List Entry) (k : ℕ) (d : Det) (spread u : ℕ) → AreLegalEntries n past → det_at past k ≡ Some d
    → StaysLocalUntil past k spread → u ≤ length past → IsCoveredAt n f past k d spread u → HasOrphan n f (instant past u) k → ⊥

-- the entry at position c crashes p
abbrev pub IsCrashOf : List Entry → ℕ → ℕ → Type 0
IsCrashOf past p c = (who : Pid) × (entry_at past c ≡ Some (Crash who)) × (who.0 ≡ p)

-- the law: after its receiver crashed, no process depends on a delivery that has not left it, even if the receiver is
-- up again
abbrev pub CrashedHasNoDependents : Type 0
CrashedHasNoDependents =
    (n : ℕ) (past : List Entry) (k : ℕ) (d : Det) (spread c u q : ℕ) → AreLegalEntries n past → det_at past k ≡ Some d
    → StaysLocalUntil past k spread → IsCrashOf past d.dest.0 c → k < c → c < u → u ≤ spread → u ≤ length past
    → Depends (instant past u) k q → ⊥
