-- The invariant of a world of processes without shared memory.
use Rattle.std.specs.Prelude.{◌≡◌, ℕ, suc, ◌<◌, ◌≤◌, Bool, true, false, None, Some, ◌⊎◌}
use Rattle.causal_name.specs.declared.Det.{Det}
use Rattle.causal_trace.specs.Past.{is_down, logs, is_stable, deliveries}
use Rattle.causal_steps.specs.Reachable.{IsReachableState}
use Rattle.causal_rounds.specs.Rounds.{RecoveryState, Round, RoundInvariant}
use Rattle.causal_rounds.specs.Gathered.{DetInvariant}
use Rattle.causal_world.specs.World.{Packet, World, GatheredFrom, volatile_of, det_state_of}
use Rattle.causal_world.specs.Steps.{WorldStep}

-- numbers of no process: they are down for ever, and count as having replied
pub record AbsentAreDown (n : ℕ) (w : RecoveryState) : Type 0 where
  pub down : (p : ℕ) → n ≤ p → w.down p ≡ true
  pub no_round : (p : ℕ) → n ≤ p → w.rounds p ≡ None
  pub replied : (s p : ℕ) (r : Round) → w.rounds s ≡ Some r → n ≤ p → r.replied p ≡ true

-- stable storage is number n: it never goes down, and restarts never
pub record IsStorage (n : ℕ) (w : RecoveryState) : Type 0 where
  pub up : w.down n ≡ false
  pub no_round : w.rounds n ≡ None
  pub first_lane : w.lane n ≡ 0

-- what is stored was carried by a packet that was stored, and what that carries is stored; what is stable is stored
pub record StoresRight (w : World) : Type 0 where
  pub stored_from : (d : Det) → w.stored d ≡ true → (i : ℕ) × (p : Packet) × (w.packets i ≡ Some p) × (w.landed i ≡ true) × (p.parcel.carries d ≡ true)
  pub landed_stored : (i : ℕ) → w.landed i ≡ true → (p : Packet) × (w.packets i ≡ Some p) × ((d : Det) → p.parcel.carries d ≡ true → w.stored d ≡ true)
  pub stable_stored : (d : Det) → is_stable w.past d ≡ true → w.stored d ≡ true

-- stable storage replies to a round after all others; the round has then gathered all that is stored of its process's
-- own deliveries
pub record ReadsLast (n : ℕ) (w : RecoveryState) (gathered : ℕ → Det → Bool) (stored : Det → Bool) : Type 0 where
  pub last : (s : ℕ) (r : Round) (q : ℕ) → w.rounds s ≡ Some r → r.replied n ≡ true → q < n → (q ≡ s → ⊥) → r.replied q ≡ true
  pub own_gathered : (s : ℕ) (r : Round) (d : Det) → w.rounds s ≡ Some r → r.replied n ≡ true → stored d ≡ true → d.dest.0 ≡ s → gathered s d ≡ true

pub record WorldInvariant (n f : ℕ) (w : World) : Type 0 where
  -- legal steps of the general protocol reach the world
  pub reached : IsReachableState n f w.past (volatile_of n w)
  pub rounds : RoundInvariant w.rounds
  pub dets : (d : Det) → DetInvariant (det_state_of n w d)
  pub absent : AbsentAreDown (suc n) w.rounds
  -- a process is down as the entries say
  pub down : (p : ℕ) → p < n → w.rounds.down p ≡ is_down w.past p
  -- what was sent, was sent from a lane that has begun
  pub lanes : (i : ℕ) (p : Packet) → w.packets i ≡ Some p → p.lane ≤ w.rounds.lane p.parcel.from
  -- what a round has gathered is stored, or was carried to it, from the lane of its view, by a process that has
  -- replied
  pub gathered_from : (s : ℕ) (r : Round) (d : Det) → w.rounds.rounds s ≡ Some r → w.gathered s d ≡ true → GatheredFrom w s r d ⊎ (w.stored d ≡ true)
  pub storage : IsStorage n w.rounds
  pub stores : StoresRight w
  pub reads : ReadsLast n w.rounds w.gathered w.stored
  -- a process that is up logs what is stored of its own deliveries that are still to be repeated
  pub own_logged : (p : ℕ) (d : Det) → p < n → w.rounds.down p ≡ false → d.dest.0 ≡ p → deliveries w.past p ≤ d.rsn → w.stored d ≡ true → logs w.past p d ≡ true

-- each step preserves the invariant
abbrev pub WorldStepsPreserve : Type 0
WorldStepsPreserve = (n f : ℕ) (w x : World) → WorldStep n f w x → WorldInvariant n f w → WorldInvariant n f x
