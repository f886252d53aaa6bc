-- The legal steps: what an entry, or a step without one, may do to what is known and in transit.
-- They are so weak that a runtime in one program makes them, and so do processes without shared memory. A step may lose
-- anything in transit.
use Rattle.std.specs.Prelude.{◌≡◌, ℕ, ◌<◌, true, false, not, ◌&&◌, ◌||◌, ◌==◌, List, ◌∷◌, length, None, Some, ◌⊎◌}
use Rattle.causal_name.specs.declared.Pid.{Pid}
use Rattle.causal_name.specs.declared.MsgName.{MsgName}
use Rattle.causal_name.specs.declared.Det.{Det}
use Rattle.causal_name.specs.Names.{same_det, message_of}
use Rattle.causal_name.specs.Sets.{count_below}
use Rattle.causal_trace.specs.declared.entry.Entry.{Entry}
use Rattle.causal_trace.specs.declared.entry.Entry.TheVariants.{Send, Deliver, Stable, Crash, Restart, Forget}
use Rattle.causal_trace.specs.Past.{list_has, is_down, logs, is_stable, message_at, det_from}
use Rattle.causal_trace.specs.Dependence.{AreForward}
use Rattle.causal_steps.specs.Recovery.{must_recover, HasOrRecovers}
use Rattle.causal_steps.specs.Transit.{TransitParcel, VolatileState, IsInTransit, IsLoggedBySome, IsCarried, Survives}
use Rattle.causal_steps.specs.Invariant.{StepInvariant}

-- nothing new is in transit
abbrev pub HasNothingNew : VolatileState → VolatileState → Type 0
HasNothingNew v w = (t : TransitParcel) → IsInTransit w t → IsInTransit v t

-- nothing new but this
abbrev pub HasOneNew : VolatileState → VolatileState → TransitParcel → Type 0
HasOneNew v w new = (t : TransitParcel) → IsInTransit w t → IsInTransit v t ⊎ (t ≡ new)

-- all processes know the holders that they knew, and nothing new to be stable
pub record KnowsTheSame (v w : VolatileState) : Type 0 where
  pub holders : (p : ℕ) (d : Det) (q : ℕ) → w.knows_holder p d q ≡ v.knows_holder p d q
  pub stable : (p : ℕ) (d : Det) → w.knows_stable p d ≡ true → v.knows_stable p d ≡ true

-- what p, which is up, sends of its log: nothing that it does not log or know
pub record IsOfLog (n : ℕ) (past : List Entry) (p : ℕ) (v : VolatileState) (t : TransitParcel) : Type 0 where
  pub process : p < n
  pub up : is_down past p ≡ false
  pub from : t.from ≡ p
  -- p logs what it carries
  pub logged : (d : Det) → t.carries d ≡ true → logs past p d ≡ true
  -- p knows the holders that it names, and it carries their determinants
  pub known_holders : (d : Det) (q : ℕ) → t.names_holder d q ≡ true → (v.knows_holder p d q ≡ true) × (t.carries d ≡ true)
  -- p knows to be stable what it calls stable
  pub known_stable : (d : Det) → t.names_stable d ≡ true → v.knows_stable p d ≡ true
  -- it names p as a holder of what it carries
  pub names_sender : (d : Det) → t.carries d ≡ true → t.names_holder d p ≡ true

-- a message is sent
pub record IsSendStep (n f : ℕ) (past : List Entry) (from : ℕ) (v w : VolatileState) (new : TransitParcel) : Type 0 where
  pub of_log : IsOfLog n past from v new
  pub position : new.send ≡ Some (length past)
  -- what it leaves out of the log is known to be stable, or has more than f known holders
  pub left_out : (d : Det) → logs past from d ≡ true → (new.carries d ≡ true) ⊎ ((v.knows_stable from d ≡ true) ⊎ (f < count_below n (v.knows_holder from d)))
  pub same_knowledge : KnowsTheSame v w
  pub one_new : HasOneNew v w new

-- p learns holders of what it logs from something in transit, or that something is stable
pub record IsLearnStep (n : ℕ) (past : List Entry) (p : ℕ) (v w : VolatileState) : Type 0 where
  pub new_holders : (r : ℕ) (d : Det) (q : ℕ) → w.knows_holder r d q ≡ true
      → (v.knows_holder r d q ≡ true) ⊎ ((r ≡ p) × (logs past p d ≡ true) × ((t : TransitParcel) × IsInTransit v t × (t.names_holder d q ≡ true)))
  pub keeps_holders : (r : ℕ) (d : Det) (q : ℕ) → v.knows_holder r d q ≡ true → w.knows_holder r d q ≡ true
  pub new_stable : (r : ℕ) (d : Det) → w.knows_stable r d ≡ true → (v.knows_stable r d ≡ true) ⊎ (is_stable past d ≡ true)
  pub nothing_new : HasNothingNew v w

-- a step without an entry: a process sends something that is no message, or learns something
pub data IsSilentStep (n : ℕ) (past : List Entry) (v w : VolatileState) : Type 0 where
  emits : (p : ℕ) (new : TransitParcel) → IsOfLog n past p v new → new.send ≡ None → KnowsTheSame v w → HasOneNew v w new → IsSilentStep n past v w
  learns : (p : ℕ) → IsLearnStep n past p v w → IsSilentStep n past v w

-- a message that is in transit is delivered
pub record IsDeliverStep (n : ℕ) (past : List Entry) (to : Pid) (send rsn : ℕ) (listed : List Det) (v w : VolatileState) : Type 0 where
  pub process : to.0 < n
  pub up : is_down past to.0 ≡ false
  -- the message of the send entry at that position
  pub message : MsgName
  pub sent : message_at past send ≡ Some message
  pub delivered : TransitParcel
  pub in_transit : IsInTransit v delivered
  pub position : delivered.send ≡ Some send
  -- no determinant that the receiver has or recovers names another message for the slot of this delivery
  pub only : (d : Det) → HasOrRecovers past d to.0 → d.dest ≡ to → d.rsn ≡ rsn → message_of d ≡ message
  -- the delivery lists its own determinant and what the message carries
  pub lists : (d : Det) → list_has listed d ≡ (same_det d (det_from to rsn message) || delivered.carries d)
  -- the receiver learns the holders that the message names, and itself
  pub new_holders : (p : ℕ) (d : Det) (q : ℕ) → w.knows_holder p d q ≡ true → (v.knows_holder p d q ≡ true) ⊎ ((to.0 ≡ p) × (list_has listed d ≡ true) × ((delivered.names_holder d q ≡ true) ⊎ (q ≡ to.0)))
  pub knows_itself : (d : Det) → list_has listed d ≡ true → w.knows_holder to.0 d to.0 ≡ true
  pub keeps_holders : (p : ℕ) (d : Det) (q : ℕ) → v.knows_holder p d q ≡ true → w.knows_holder p d q ≡ true
  pub new_stable : (p : ℕ) (d : Det) → w.knows_stable p d ≡ true → v.knows_stable p d ≡ true
  pub nothing_new : HasNothingNew v w

-- a process goes down, and all that it knew is lost
pub record IsCrashStep (n f : ℕ) (past : List Entry) (who : ℕ) (v w : VolatileState) : Type 0 where
  -- fewer than f were down
  pub few : count_below n (is_down past) < f
  pub holders : (p : ℕ) (d : Det) (q : ℕ) → w.knows_holder p d q ≡ (not (who == p) && v.knows_holder p d q)
  pub new_stable : (p : ℕ) (d : Det) → w.knows_stable p d ≡ true → v.knows_stable p d ≡ true
  pub nothing_new : HasNothingNew v w

-- a process comes up with the log that it has gathered
pub record IsRestartStep (n : ℕ) (past : List Entry) (who : ℕ) (listed : List Det) (v w : VolatileState) : Type 0 where
  pub process : who < n
  pub down : is_down past who ≡ true
  pub lists_survivors : (d : Det) → list_has listed d ≡ true → Survives n past v d
  -- it lists what it has to recover, where that is logged or still in transit and not stable
  pub recovers : (d : Det) → must_recover past who d ≡ true → IsLoggedBySome n past d ⊎ IsCarried w d → (list_has listed d ≡ true) ⊎ (is_stable past d ≡ true)
  -- of what it lists it knows holders that some process knew or something in transit named, and itself
  pub new_holders : (p : ℕ) (d : Det) (q : ℕ) → w.knows_holder p d q ≡ true
      → (v.knows_holder p d q ≡ true) ⊎ ((who ≡ p) × (list_has listed d ≡ true) × ((q ≡ who) ⊎ (((r : ℕ) × (r < n) × (v.knows_holder r d q ≡ true)) ⊎ ((t : TransitParcel) × IsInTransit v t × (t.names_holder d q ≡ true)))))
  pub knows_itself : (d : Det) → list_has listed d ≡ true → w.knows_holder who d who ≡ true
  pub keeps_holders : (p : ℕ) (d : Det) (q : ℕ) → v.knows_holder p d q ≡ true → w.knows_holder p d q ≡ true
  pub new_stable : (p : ℕ) (d : Det) → w.knows_stable p d ≡ true → (v.knows_stable p d ≡ true) ⊎ (is_stable past d ≡ true)
  pub nothing_new : HasNothingNew v w

-- a determinant that survives becomes stable
pub record IsStableStep (n : ℕ) (past : List Entry) (det : Det) (v w : VolatileState) : Type 0 where
  pub survived : Survives n past v det
  pub same_holders : (p : ℕ) (d : Det) (q : ℕ) → w.knows_holder p d q ≡ v.knows_holder p d q
  pub new_stable : (p : ℕ) (d : Det) → w.knows_stable p d ≡ true → (v.knows_stable p d ≡ true) ⊎ (same_det d det ≡ true)
  pub nothing_new : HasNothingNew v w

-- a process forgets determinants that it knows to be stable
pub record IsForgetStep (n : ℕ) (past : List Entry) (who : ℕ) (listed : List Det) (v w : VolatileState) : Type 0 where
  pub process : who < n
  pub known_stable : (d : Det) → list_has listed d ≡ true → v.knows_stable who d ≡ true
  pub holders : (p : ℕ) (d : Det) (q : ℕ) → w.knows_holder p d q ≡ (not (who == p && list_has listed d) && v.knows_holder p d q)
  pub new_stable : (p : ℕ) (d : Det) → w.knows_stable p d ≡ true → v.knows_stable p d ≡ true
  pub nothing_new : HasNothingNew v w

-- a legal step: one without an entry, or one entry more
pub data IsStep (n f : ℕ) (past : List Entry) (v : VolatileState) : List Entry → VolatileState → Type 0 where
  silent : {w : VolatileState} → IsSilentStep n past v w → IsStep n f past v past w
  sends : {w : VolatileState} (from to : Pid) (ssn : ℕ) (new : TransitParcel) → IsSendStep n f past from.0 v w new → IsStep n f past v (Send from to ssn ∷ past) w
  delivers : {w : VolatileState} (to : Pid) (send rsn : ℕ) (listed : List Det) → IsDeliverStep n past to send rsn listed v w → IsStep n f past v (Deliver to send rsn listed ∷ past) w
  crashes : {w : VolatileState} (who : Pid) → IsCrashStep n f past who.0 v w → IsStep n f past v (Crash who ∷ past) w
  restarts : {w : VolatileState} (who : Pid) (listed : List Det) → IsRestartStep n past who.0 listed v w → IsStep n f past v (Restart who listed ∷ past) w
  writes : {w : VolatileState} (det : Det) → IsStableStep n past det v w → IsStep n f past v (Stable det ∷ past) w
  forgets : {w : VolatileState} (who : Pid) (listed : List Det) → IsForgetStep n past who.0 listed v w → IsStep n f past v (Forget who listed ∷ past) w

-- each legal step preserves the invariant
abbrev pub EachStepPreserves : Type 0
EachStepPreserves = (n f : ℕ) (past next : List Entry) (v w : VolatileState) → IsStep n f past v next w → AreForward next → StepInvariant n f past v → StepInvariant n f next w
