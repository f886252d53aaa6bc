-- The present lanes, after one more entry.
use Rattle.std.proofs.lemmas.Grind.{common_steps}
use Rattle.std.proofs.Common.{ℕ, ◌≡◌, ◌<◌, ◌≤◌, false, cond, ◌==◌, List, [], ◌∷◌, length, get_or, Option, None, refl, arith}
use Rattle.std.specs.Prelude.{IfSome, All}
use Rattle.std.specs.Option.{option_map_or}
use Rattle.std.proofs.lemmas.List.{get_or-set_same, get_or-set_other, length-set}
use Rattle.causal_name.specs.declared.Pid.{Pid}
use Rattle.causal_trace.specs.declared.entry.Entry.{Entry}
use Rattle.causal_trace.specs.declared.lanes.LaneState.{LaneState}
use Rattle.causal_trace.specs.Past.{lane, has_delivered}
use Rattle.causal_trace.specs.Rows.{rows_within, first_fault, AreLegalEntries}
use Rattle.causal_trace.specs.Inside.Index.{lane_state, lane_after, subject, lanes_after, lanes_after_of, ArePresentLanes, CountersFit}
use Rattle.causal_trace.proofs.Lemmas.CountBounds.{sends_few, deliveries_few}
use Rattle.causal_name.specs.declared.MsgName.{MsgName}
use Rattle.causal_trace.specs.Inside.Chains.{receipts, is_newest_in}

lanes_at : (subj : Option Pid) (n : ℕ) (e : Entry) (past : List Entry) (lanes : List LaneState) → ArePresentLanes n past lanes → (p : ℕ) (d : LaneState) → p < n → get_or (lanes_after_of subj e lanes) p d ≡ cond (option_map_or (λ q. q.0 == p) subj false) (lane_after e (lane_state past p)) (lane_state past p)
lanes_at subj n e past lanes are p d h = grind (arith, get_or-set_same, get_or-set_other)

-- an entry keeps the number of lanes
pub lanes_length : (subj : Option Pid) (e : Entry) (lanes : List LaneState) → length (lanes_after_of subj e lanes) ≡ length lanes
lanes_length subj e lanes = grind (arith, length-set)

-- the lanes after an entry are those of the past with it
pub lanes_push : (n : ℕ) (e : Entry) (past : List Entry) (lanes : List LaneState) → ArePresentLanes n past lanes → ArePresentLanes n (e ∷ past) (lanes_after e lanes)
lanes_push n e past lanes are = grind (arith, common_steps, lanes_length, lanes_at)

lane_few : (past : List Entry) (p : ℕ) → lane past p ≤ length past
lane_few [] p = omega arith
lane_few (e ∷ past) p = grind (arith, lane_few past p)

-- while a run has fewer entries than the limit, each lane's counters can count one more
pub lanes_have_room : (n : ℕ) (past : List Entry) (lanes : List LaneState) → ArePresentLanes n past lanes → length past < 16777216 → All CountersFit lanes
lanes_have_room n past lanes are short k d below = grind (arith, are.each k d, lane_few, sends_few, deliveries_few)

-- the process of a legal entry is a process of the run
pub subject_there : (n : ℕ) (past : List Entry) (e : Entry) → first_fault n past e ≡ None → IfSome (subject e) (λ p. p.0 < n)
unfolding rows_within
subject_there n past e h = grind arith

-- no receipt belongs to a future lane
none_ahead : (past : List Entry) (m : MsgName) (p : Pid) (l : ℕ) → lane past p.0 < l → is_newest_in p l (receipts past m) ≡ false
none_ahead [] m p l h = refl
none_ahead (e ∷ past) m p l h = grind (arith, none_ahead past m p l)

-- a process's present lane has delivered a message if and only if the newest receipt of the process belongs to this
-- lane
pub received_told : (past : List Entry) (p : Pid) (m : MsgName) → has_delivered past p.0 m ≡ is_newest_in p (lane past p.0) (receipts past m)
received_told [] p m = refl
received_told (e ∷ past) p m = grind (arith, none_ahead, received_told past p m)

-- a number that is not a process has delivered no message
pub received_there : (n : ℕ) (past : List Entry) (p : ℕ) (m : MsgName) → AreLegalEntries n past → n ≤ p → has_delivered past p m ≡ false
received_there n [] p m h far = refl
received_there n (e ∷ past) p m h far = grind (arith, subject_there, received_there n past p m h.0 far)
