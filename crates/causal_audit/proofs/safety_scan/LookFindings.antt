-- The result of a scan, interval by interval, and until when a delivery may be uncovered by it.
use Rattle.std.proofs.lemmas.Grind.{common_steps}
use Rattle.causal_audit.proofs.Common.{ℕ, ◌≡◌, ◌-◌, ◌<◌, ◌≤◌, List, [], ◌∷◌, ◌++◌, length, get_or, arith, ◌⊎◌, min, All, IsPartitionPoint, cases_lt, get_or_default, All-push, All-weaker, Contains-append_left, Contains-push, IsNonDecreasingBy-push, Entry}
use Rattle.causal_audit.specs.declared.safety_scan.SafetyScan.{SafetyScan}
use Rattle.causal_audit.specs.declared.safety_scan.det_safety.SafetyInterval.{SafetyInterval}
use Rattle.causal_audit.specs.declared.safety_scan.at_risk_intervals.AtRiskIntervals.{AtRiskIntervals}
use Rattle.causal_audit.specs.Inside.SafetyScan.Scans.{IsIntervalPassed, IsAtRiskWithoutReceiverAt, IsAtRiskAt, IsScanResult, AreAscendingIntervals, IsInOne}

-- ---- one more interval

module _ (look : SafetyScan) (t next : ℕ) (s : SafetyInterval) (passed : IsIntervalPassed look t next s) (old new : AtRiskIntervals) (same : new.from ≡ old.from) (found : IsScanResult look t old) where
  abbrev n : ℕ
  n = look.run.trace.now.recording.processes

  abbrev past : List Entry
  past = look.run.trace.now.recording.past

  -- an instant before `next` is before t, in the interval, or one at which d is not at risk
  abbrev Placed : ℕ → Type 0
  Placed u = (u < t) ⊎ (((t ≤ u) × (u ≤ s.last)) ⊎ (IsAtRiskAt n look.limit past look.det u → ⊥))

  placed : (u : ℕ) → u < next → Placed u
  placed u below = grind arith

  below_next : (xs : List SafetyInterval) (at : SafetyInterval → ℕ) → All (λ x. at x < t) xs → All (λ x. at x < next) xs
  below_next xs at all = All-weaker (λ x. at x < t) (λ x. at x < next) (λ x low. omega (arith, low, passed.order, passed.last)) xs all

  -- without a further interval, if d is not at risk without its receiver in it, or the first mention comes after it
  pub none_more : new.without_receiver.items ≡ old.without_receiver.items → old.last ≤ new.last → new.last ≤ next → ((u : ℕ) → old.from < u → t ≤ u → u ≤ s.last → IsAtRiskAt n look.limit past look.det u → u ≤ new.last)
      → ((u : ℕ) → old.from < u → t ≤ u → u ≤ s.last → IsAtRiskWithoutReceiverAt n look.limit past look.det u → ⊥) → IsScanResult look next new
  none_more items up bound thin without_receiver = grind (arith, placed, below_next)

  -- the last element of a list whose elements are all below t
  last_low : (xs : List SafetyInterval) (at : SafetyInterval → ℕ) (y : ℕ) → t ≤ y → All (λ x. at x < t) xs → (d : SafetyInterval) → 0 < length xs → at (get_or xs (length xs - 1) d) ≤ y
  last_low xs at y up all d some = let low : at (get_or xs (length xs - 1) d) < t = all (length xs - 1) d (omega (arith, some)) in omega (arith, low, up)

  rising_more : AreAscendingIntervals (old.without_receiver.items ++ s ∷ [])
  rising_more = grind (arith, common_steps, IsNonDecreasingBy-push, last_low)

  in_old : (u : ℕ) → IsInOne old.without_receiver.items u → IsInOne (old.without_receiver.items ++ s ∷ []) u
  in_old u one = (one.0, Contains-append_left old.without_receiver.items (s ∷ []) one.0 one.1, one.2, one.3)

  -- with this interval added
  pub one_more : new.without_receiver.items ≡ old.without_receiver.items ++ s ∷ [] → new.last ≡ s.last → IsScanResult look next new
  one_more items last = grind (arith, common_steps, placed, in_old, Contains-push old.without_receiver.items s, rising_more, All-push, below_next)

-- ---- the last instant up to a bound

module _ (xs : List SafetyInterval) (bound passed : ℕ) (point : IsPartitionPoint (λ (s : SafetyInterval). s.first ≤ bound) (λ (s : SafetyInterval). bound < s.first) xs passed) where
  -- if no interval begins by the bound, no instant up to the bound is in an interval
  pub none_before : passed ≡ 0 → (u : ℕ) → u ≤ bound → IsInOne xs u → ⊥
  none_before none u low one = grind (arith, one.2, low)

  -- otherwise each such instant is at or before the end of the last interval that begins by the bound
  pub last_before : AreAscendingIntervals xs → 0 < passed → passed ≤ length xs → (x : SafetyInterval) → x ≡ get_or xs (passed - 1) x → (u : ℕ) → u ≤ bound → IsInOne xs u → u ≤ min x.last bound
  last_before rising some inside x is u low one =
      grind (arith, cases_lt one.1.0 passed, rising.lasts one.1.0 (passed - 1) one.0, point.1 one.1.0 one.0, get_or_default xs (passed - 1) one.0 x, one.1.2)
