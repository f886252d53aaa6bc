-- The position of a determinant's scan, the determinant's safety there, and the scan's result.
use Rattle.std.specs.Prelude.{◌≡◌, ℕ, ◌<◌, ◌≤◌, true, false, List, ◌+◌, ◌⊎◌, Contains}
use Rattle.causal_audit.specs.Inside.Common.{nat_cmp, FinSet, contains, len, union, Det, Entry, instant, is_stable, is_down, logs, All, IsNonDecreasingBy, Reaches, AreLegalEntries}
use Rattle.std.specs.FinSet.{is_subset}
use Rattle.causal_name.specs.Sets.{count_below}
use Rattle.causal_audit.specs.Laws.{down_or_holding}
use Rattle.causal_audit.specs.declared.safety_scan.det_safety.DetSafety.{DetSafety}
use Rattle.causal_audit.specs.declared.safety_scan.det_safety.DetSafety.TheVariants.{Safe, AtRisk, AtRiskWithoutReceiver}
use Rattle.causal_audit.specs.Inside.PositionLists.{IsCursor}
use Rattle.causal_audit.specs.Inside.Index.Departures.{process_at}
use Rattle.causal_audit.specs.Inside.SafetyScan.Persistence.{MentionsNone, RestartsNone}
use Rattle.causal_audit.specs.Inside.DeliveryStates.{HasExactly}
use Rattle.causal_audit.specs.declared.safety_scan.SafetyScan.{SafetyScan}
use Rattle.causal_audit.specs.declared.safety_scan.ScanPosition.{ScanPosition}
use Rattle.causal_audit.specs.declared.safety_scan.det_safety.SafetyInterval.{SafetyInterval}
use Rattle.causal_audit.specs.declared.safety_scan.at_risk_intervals.AtRiskIntervals.{AtRiskIntervals}

-- d is at risk at the instant u: it is not stable, at most the given number of processes are down or hold it, and some
-- process that its receiver reaches is neither down nor holds it
pub record IsAtRiskAt (n most : ℕ) (past : List Entry) (d : Det) (u : ℕ) : Type 0 where
  pub unstable : is_stable (instant past u) d ≡ false
  pub few : count_below n (down_or_holding (instant past u) d) ≤ most
  pub left_over : (i : ℕ) × (j : ℕ) × (process_at past i ≡ d.dest.0) × Reaches past i j × (down_or_holding (instant past u) d (process_at past j) ≡ false)

-- d is at risk at the instant u, and its receiver is neither down nor holds it
pub record IsAtRiskWithoutReceiverAt (n most : ℕ) (past : List Entry) (d : Det) (u : ℕ) : Type 0 where
  pub thin : IsAtRiskAt n most past d u
  pub receiver : down_or_holding (instant past u) d d.dest.0 ≡ false

-- with this safety at the instant u, d is not at risk, or not at risk without its receiver
abbrev pub RulesOut : DetSafety → ℕ → ℕ → List Entry → Det → ℕ → Type 0
RulesOut Safe n most past d u = IsAtRiskAt n most past d u → ⊥
RulesOut AtRisk n most past d u = IsAtRiskWithoutReceiverAt n most past d u → ⊥
RulesOut AtRiskWithoutReceiver n most past d u = Unit {0}

-- the safety follows from the set of processes that are down or hold d: they are more than may crash or all that its
-- receiver reaches, or its receiver is one of them
abbrev pub IsSafetyOf : DetSafety → ℕ → ℕ → FinSet nat_cmp → FinSet nat_cmp → Type 0
IsSafetyOf Safe most receiver reached set = (most < len set) ⊎ (is_subset reached set ≡ true)
IsSafetyOf AtRisk most receiver reached set = contains set receiver ≡ true
IsSafetyOf AtRiskWithoutReceiver most receiver reached set = Unit {0}

-- these processes are down or hold d, the holders are among them, and d's safety follows from them alone
pub record AreWatched (safety : DetSafety) (most receiver : ℕ) (reached down holders watched : FinSet nat_cmp) : Type 0 where
  pub gone : (p : ℕ) → contains watched p ≡ true → contains (union down holders) p ≡ true
  pub holding : (p : ℕ) → contains holders p ≡ true → contains watched p ≡ true
  pub stands : IsSafetyOf safety most receiver reached watched

-- d is safe as long as its holders are up and more than this number of processes are down, as they are now
pub record IsDownBound (most : ℕ) (down holders : FinSet nat_cmp) (count : ℕ) : Type 0 where
  pub rest : count + len holders ≡ most
  pub more : count < len down

-- a scan of d is at an instant: the mentions and transitions ahead, the down processes, the holders of d, and its
-- safety
pub record IsScanPosition (look : SafetyScan) (scan_position : ScanPosition) : Type 0 where
  pub within : scan_position.t ≤ look.end
  pub mentions : IsCursor look.mentions.now scan_position.t scan_position.ahead
  pub transitions : scan_position.transitions.transitions.now ≡ look.run.transitions.now
  pub down : HasExactly scan_position.down_and_holders.down (λ p. is_down (instant look.run.trace.now.recording.past scan_position.t) p)
  pub holders : HasExactly scan_position.down_and_holders.holders (λ p. logs (instant look.run.trace.now.recording.past scan_position.t) p look.det)
  pub stands : IsSafetyOf scan_position.safety look.limit look.det.dest.0 look.reached (union scan_position.down_and_holders.down scan_position.down_and_holders.holders)

-- up to the instant `change` no holder of d restarts, and d has the safety of the scan's position
pub record IsKeptUntil (look : SafetyScan) (scan_position : ScanPosition) (change : ℕ) : Type 0 where
  pub unrestarted : RestartsNone look.run.trace.now.recording.past scan_position.down_and_holders.holders scan_position.t change
  pub stands : (u : ℕ) → scan_position.t ≤ u → u ≤ change → RulesOut scan_position.safety look.run.trace.now.recording.processes look.limit look.run.trace.now.recording.past look.det u

-- if the entries are legal and none before the instant `change` mentions d, the scan's position is kept until then
abbrev pub IsKeptUnmentioned : SafetyScan → ScanPosition → ℕ → Type 0
IsKeptUnmentioned look scan_position change =
    AreLegalEntries look.run.trace.now.recording.processes look.run.trace.now.recording.past
    → MentionsNone look.run.trace.now.recording.past look.det scan_position.t change → IsKeptUntil look scan_position change

-- a scan moved from the instant t to `next` and passed the interval s: d has this safety at each instant of s, and is
-- not at risk after s and before `next`
pub record IsIntervalPassed (look : SafetyScan) (t next : ℕ) (s : SafetyInterval) : Type 0 where
  pub first : s.first ≡ t
  pub order : t ≤ s.last
  pub last : s.last < next
  pub within : next ≤ look.end + 1
  pub stands : (u : ℕ) → t ≤ u → u ≤ s.last → RulesOut s.safety look.run.trace.now.recording.processes look.limit look.run.trace.now.recording.past look.det u
  pub after : (u : ℕ) → s.last < u → u < next → IsAtRiskAt look.run.trace.now.recording.processes look.limit look.run.trace.now.recording.past look.det u → ⊥

-- an instant is in one of these intervals
abbrev pub IsInOne : List SafetyInterval → ℕ → Type 0
IsInOne stretches u = (s : SafetyInterval) × Contains stretches s × (s.first ≤ u) × (u ≤ s.last)

-- the intervals ascend, by their first and by their last instants
pub record AreAscendingIntervals (stretches : List SafetyInterval) : Type 0 where
  pub firsts : IsNonDecreasingBy (λ (s : SafetyInterval). s.first) stretches
  pub lasts : IsNonDecreasingBy (λ (s : SafetyInterval). s.last) stretches

-- if the intervals ascend, no instant up to `bound` in one of them comes after `last`
abbrev pub EndsBy : List SafetyInterval → ℕ → ℕ → Type 0
EndsBy stretches bound last = AreAscendingIntervals stretches → (u : ℕ) → u ≤ bound → IsInOne stretches u → u ≤ last

-- of the instants after the first mention and before t, d is at risk at none after `last`, and at risk without its
-- receiver only in the intervals, which ascend
pub record AreAtRiskIntervals (n most : ℕ) (past : List Entry) (d : Det) (t : ℕ) (at_risk : AtRiskIntervals) : Type 0 where
  pub last : (u : ℕ) → at_risk.from < u → u < t → IsAtRiskAt n most past d u → u ≤ at_risk.last
  pub without_receiver : (u : ℕ) → at_risk.from < u → u < t → IsAtRiskWithoutReceiverAt n most past d u → IsInOne at_risk.without_receiver.items u
  pub bound : at_risk.last ≤ t
  pub rising : AreAscendingIntervals at_risk.without_receiver.items
  pub firsts_below : All (λ (s : SafetyInterval). s.first < t) at_risk.without_receiver.items
  pub lasts_below : All (λ (s : SafetyInterval). s.last < t) at_risk.without_receiver.items

-- this is the result of a scan up to the instant t
abbrev pub IsScanResult : SafetyScan → ℕ → AtRiskIntervals → Type 0
IsScanResult look t at_risk = AreAtRiskIntervals look.run.trace.now.recording.processes look.limit look.run.trace.now.recording.past look.det t at_risk

-- by the scan's result, the delivery at k may be uncovered at the instant u: its determinant is at risk, and its effect
-- has left its receiver, or the receiver has not crashed since and the determinant is at risk without it
pub record MayBeOpen (at_risk : AtRiskIntervals) (k spread crash u : ℕ) : Type 0 where
  pub made : k < u
  pub thin : u ≤ at_risk.last
  pub left : (spread < u) ⊎ ((u ≤ crash) × IsInOne at_risk.without_receiver.items u)
