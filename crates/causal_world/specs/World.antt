-- Processes without shared memory: what each knows, what was sent, and who has replied to whom.
-- What was sent is never taken back: it may be taken at any later time, any number of times, or never, while it is
-- acceptable.
use Rattle.std.specs.Prelude.{◌≡◌, ◌≤◌, ℕ, suc, Bool, true, false, not, ◌==◌, ◌&&◌, ◌||◌, nat_lt, nat_le, List, Option, None, Some, if◌then◌else◌}
use Rattle.causal_name.specs.declared.Det.{Det}
use Rattle.causal_name.specs.Sets.{any_below}
use Rattle.causal_trace.specs.declared.entry.Entry.{Entry}
use Rattle.causal_trace.specs.Past.{logs, is_stable}
use Rattle.causal_steps.specs.Recovery.{must_recover}
use Rattle.causal_steps.specs.Transit.{TransitParcel, VolatileState}
use Rattle.causal_rounds.specs.Rounds.{RecoveryState, Round, number}
use Rattle.causal_rounds.specs.Gathered.{Carrier, DetState}

-- something sent: what it may bring to a log, the lane that sent it, and the process to which it was sent
pub record Packet : Type 0 where
  pub parcel : TransitParcel
  pub lane : ℕ
  pub to : ℕ

-- the entries so far, who has replied to whom, which holders each process knows, what it knows to be stable, all that
-- was sent, which determinants each round has gathered, what is in stable storage, and which packets were stored.
-- Stable storage is number n: a write is a packet to it
pub record World : Type 0 where
  pub past : List Entry
  pub rounds : RecoveryState
  pub knows_holder : ℕ → Det → ℕ → Bool
  pub knows_stable : ℕ → Det → Bool
  pub packets : ℕ → Option Packet
  pub gathered : ℕ → Det → Bool
  pub stored : Det → Bool
  pub landed : ℕ → Bool

abbrev pub carrier_of : Packet → Carrier
carrier_of p = record { from = p.parcel.from; lane = p.lane; to = p.to }

-- whether those of n processes that have not replied to the round of s are as its view has them
abbrev pub is_open : ℕ → RecoveryState → ℕ → Round → Bool
is_open n w s r = not (any_below n (λ q. not (q == s) && (not (r.replied q) && not (number w q == r.view q))))

-- whether the round, if there is one, accepts what this process sent from this lane
abbrev pub round_accepts : ℕ → RecoveryState → Carrier → Option Round → Bool
round_accepts n w t None = false
round_accepts n w t (Some r) = is_open n w t.to r && (r.replied t.from && nat_le (r.view t.from) t.lane)

-- whether its receiver may take it, now or later
abbrev pub is_acceptable : ℕ → RecoveryState → Carrier → Bool
is_acceptable n w t = if w.down t.to then ((not (w.down t.from) && t.lane == w.lane t.from) || round_accepts n w t (w.rounds t.to)) else nat_le (w.floors t.to t.from) t.lane

-- the parcel, if it may be taken, or was stored
abbrev pub if_in_transit : ℕ → RecoveryState → Bool → Option Packet → Option TransitParcel
if_in_transit n w landed None = None
if_in_transit n w landed (Some p) = if landed || is_acceptable n w (carrier_of p) then Some p.parcel else None

-- what is known and in transit in a world of n processes
abbrev pub volatile_of : ℕ → World → VolatileState
volatile_of n w = record {
  knows_holder = λ p d q. w.knows_holder p d q;
  knows_stable = λ p d. w.knows_stable p d;
  parcels = λ i j. if_in_transit (suc n) w.rounds (w.landed i) (w.packets i);
}

-- the packet as a carrier of d, if it carries d
abbrev pub if_carries : Det → Option Packet → Option Carrier
if_carries d None = None
if_carries d (Some p) = if p.parcel.carries d then Some (carrier_of p) else None

-- the state of one determinant
abbrev pub det_state_of : ℕ → World → Det → DetState
det_state_of n w d = record {
  state = w.rounds;
  logs = λ p. (nat_lt p n && logs w.past p d) || (p == n && w.stored d);
  must_recover = λ p. nat_lt p n && must_recover w.past p d;
  stable = is_stable w.past d;
  carriers = λ i. if_carries d (w.packets i);
  gathered = λ s. w.gathered s d;
}

-- where what a round has gathered came from: a packet to it, from a lane that its view does not refuse, of a process
-- that has replied
abbrev pub GatheredFrom : World → ℕ → Round → Det → Type 0
GatheredFrom w s r d = (i : ℕ) × (p : Packet) × (w.packets i ≡ Some p) × (p.to ≡ s) × (p.parcel.carries d ≡ true) × (r.replied p.parcel.from ≡ true) × (r.view p.parcel.from ≤ p.lane)
