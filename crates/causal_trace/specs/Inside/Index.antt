-- What a trace stores besides its entries: the present lanes, the chains of deliveries and the sorted deliveries.
use Rattle.std.specs.Prelude.{◌≡◌, ℕ, ◌+◌, ◌<◌, ◌≤◌, Bool, true, false, List, length, slice_index_or, slice_set, Option, Some, None, IfSome}
use Rattle.causal_name.specs.declared.Pid.{Pid}
use Rattle.causal_name.specs.declared.MsgName.{MsgName}
use Rattle.causal_name.specs.declared.Det.{Det}
use Rattle.causal_name.specs.Names.{message_of}
use Rattle.causal_trace.specs.declared.entry.Entry.{Entry}
use Rattle.causal_trace.specs.declared.entry.Entry.TheVariants.{Send, Deliver, Stable, Crash, Restart, Forget}
use Rattle.causal_trace.specs.declared.lanes.LaneState.{LaneState}
use Rattle.causal_trace.specs.Limits.{max_entries}
use Rattle.causal_trace.specs.Past.{is_down, lane, sends, deliveries, restarts, deliveries_in, message_at}
use Rattle.causal_trace.specs.Numbers.{delivered_dets, number_of}
use Rattle.causal_trace.specs.Rows.{Recording}
use Rattle.causal_trace.specs.Bounds.{IsBounded}
use Rattle.causal_trace.specs.Inside.Chains.{Heads, AreLinked, HasHead, ChainsState, chain, head_of, heads_of, receipt_index, receipts}
use Rattle.causal_trace.specs.Inside.SortedDeliveries.{AreDeliveries}
use Rattle.causal_trace.specs.declared.chains.ReceiptNode.{ReceiptNode}
use Rattle.causal_trace.specs.declared.sorted_deliveries.SortedDeliveries.{SortedDeliveries}

-- the present lane (incarnation) of p
abbrev pub lane_state : List Entry → ℕ → LaneState
lane_state past p = record { down = is_down past p; restarts = lane past p; sends = sends past p; deliveries = deliveries past p }

-- the lane of a process before any entry
abbrev pub first_lane : LaneState
first_lane = record { down = false; restarts = 0; sends = 0; deliveries = 0 }

-- the lane of the entry's process after the entry
abbrev pub lane_after : Entry → LaneState → LaneState
lane_after (Send from to ssn) l = record { down = l.down; restarts = l.restarts; sends = l.sends + 1; deliveries = l.deliveries }
lane_after (Deliver to send rsn listed) l = record { down = l.down; restarts = l.restarts; sends = l.sends; deliveries = l.deliveries + 1 }
lane_after (Crash who) l = record { down = true; restarts = l.restarts; sends = l.sends; deliveries = l.deliveries }
lane_after (Restart who listed) l = record { down = false; restarts = l.restarts + 1; sends = 0; deliveries = 0 }
lane_after (Stable det) l = l
lane_after (Forget who listed) l = l

-- the process that acts in an entry
abbrev pub subject : Entry → Option Pid
subject (Send from to ssn) = Some from
subject (Deliver to send rsn listed) = Some to
subject (Stable det) = None
subject (Crash who) = Some who
subject (Restart who listed) = Some who
subject (Forget who listed) = Some who

-- the lanes after an entry of this process; no other lane changes
abbrev pub lanes_after_of : Option Pid → Entry → List LaneState → List LaneState
lanes_after_of None e lanes = lanes
lanes_after_of (Some p) e lanes = slice_set lanes p.0 (lane_after e (slice_index_or lanes p.0 first_lane))

-- the lanes after an entry
abbrev pub lanes_after : Entry → List LaneState → List LaneState
lanes_after e lanes = lanes_after_of (subject e) e lanes

-- the list contains the present lanes of n processes
pub record ArePresentLanes (n : ℕ) (past : List Entry) (lanes : List LaneState) : Type 0 where
  pub count : length lanes ≡ n
  pub each : (p : ℕ) (d : LaneState) → p < n → slice_index_or lanes p d ≡ lane_state past p

-- each counter can count one more entry
pub record CountersFit (l : LaneState) : Type 0 where
  pub restarts : l.restarts < max_entries
  pub sends : l.sends < max_entries
  pub deliveries : l.deliveries < max_entries

-- each message of the run has a head
abbrev pub HasHeads : List Entry → Heads → Type 0
HasHeads past heads = (k : ℕ) → IfSome (message_at past k) (HasHead heads)

-- heads and nodes represent the deliveries of a run of n processes
pub record AreChains (n : ℕ) (past : List Entry) (heads : Heads) (nodes : List ReceiptNode) : Type 0 where
  pub count : length heads ≡ n
  pub linked : AreLinked heads nodes
  pub counted : length nodes ≡ deliveries_in past
  pub sent : (p : ℕ) → p < n → sends past p ≤ length (heads_of heads p)
  pub named : HasHeads past heads
  pub each : (m : MsgName) → chain nodes (head_of heads m) ≡ receipts past m
  pub numbered : length nodes ≡ length (delivered_dets past)
  pub placed : (k : ℕ) (d : Det) → receipt_index k d nodes (head_of heads (message_of d)) ≡ number_of k (delivered_dets past) d

-- a recording, and what a trace stores besides it
pub record IsIndexed (r : Recording) (n_listed n_restarts : ℕ) (by_process : List LaneState) (by_message : ChainsState) (by_det : SortedDeliveries) : Type 0 where
  pub kept : IsBounded r n_listed
  pub restarted : n_restarts ≡ restarts r.past
  pub lanes : ArePresentLanes r.processes r.past by_process
  pub chains : AreChains r.processes r.past by_message.heads by_message.nodes
  pub sorted : AreDeliveries by_det (delivered_dets r.past)

-- whether the entry is a restart
abbrev pub is_restart : Entry → Bool
is_restart (Restart who listed) = true
is_restart _ = false
