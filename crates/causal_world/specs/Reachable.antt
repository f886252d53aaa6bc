-- The worlds that processes without shared memory reach, and what is true of each.
use Rattle.std.specs.Prelude.{◌≡◌, ℕ, suc, ◌<◌, ◌≤◌, true, false, [], ◌∷◌, None}
use Rattle.causal_name.specs.declared.Det.{Det}
use Rattle.causal_trace.specs.declared.entry.Entry.TheVariants.{Crash, Restart}
use Rattle.causal_trace.specs.Judgement.{IsSafeTrace}
use Rattle.causal_steps.specs.Invariant.{NoSlotIsShared}
use Rattle.causal_world.specs.World.{World, volatile_of}
use Rattle.causal_world.specs.Steps.{WorldStep}

-- n processes have begun, and stable storage, which is number n; greater numbers are those of no process
pub record IsInitialWorld (n : ℕ) (w : World) : Type 0 where
  pub past : w.past ≡ []
  pub up : (p : ℕ) → p < n → w.rounds.down p ≡ false
  pub storage : w.rounds.down n ≡ false
  pub absent : (p : ℕ) → suc n ≤ p → w.rounds.down p ≡ true
  pub lanes : (p : ℕ) → w.rounds.lane p ≡ 0
  pub floors : (p q : ℕ) → w.rounds.floors p q ≡ 0
  pub no_rounds : (p : ℕ) → w.rounds.rounds p ≡ None
  pub no_holders : (p : ℕ) (d : Det) (q : ℕ) → w.knows_holder p d q ≡ false
  pub no_stable : (p : ℕ) (d : Det) → w.knows_stable p d ≡ false
  pub no_packets : (i : ℕ) → w.packets i ≡ None
  pub nothing_stored : (d : Det) → w.stored d ≡ false
  pub nothing_landed : (i : ℕ) → w.landed i ≡ false

pub data IsReachableWorld (n f : ℕ) : World → Type 0 where
  opening : (w : World) → IsInitialWorld n w → IsReachableWorld n f w
  next_world : (w x : World) → IsReachableWorld n f w → WorldStep n f w x → IsReachableWorld n f x

-- each instant of the recording is safe for f: no crash that f allows leaves an orphan
abbrev pub WorldsAreSafe : Type 0
WorldsAreSafe = (n f : ℕ) (w : World) → IsReachableWorld n f w → IsSafeTrace (record { processes = n; past = w.past }) f

-- no two determinants that survive, in logs or in transit, share a slot
abbrev pub WorldsShareNoSlot : Type 0
WorldsShareNoSlot = (n f : ℕ) (w : World) → IsReachableWorld n f w → NoSlotIsShared n w.past (volatile_of n w)

-- a process that has crashed comes up again: the steps allow a recovery
abbrev pub RecoveriesAreReachable : Type 0
RecoveriesAreReachable = (w : World) × IsReachableWorld 2 1 w × (w.past ≡ Restart (record { 0 = 1 }) [] ∷ Crash (record { 0 = 1 }) ∷ [])
