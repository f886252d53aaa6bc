-- What a trace stores besides its entries, after one more entry.
use Rattle.std.proofs.lemmas.Grind.{common_steps}
use Rattle.std.proofs.Common.{ℕ, ◌≡◌, ◌+◌, ◌<◌, ◌≤◌, true, cond, List, [], ◌∷◌, length, Some, None, refl, ap, subst, arith}
use Rattle.std.specs.Prelude.{replicate, IfSome}
use Rattle.std.specs.Option.{option_map}
use Rattle.std.proofs.lemmas.Bool.{false≢true, eqb-true}
use Rattle.std.proofs.lemmas.List.{length-set, length-replicate, get_or-replicate, get_or_past}
use Rattle.causal_name.specs.Names.{message_of}
use Rattle.causal_name.specs.declared.Pid.{Pid}
use Rattle.causal_name.specs.declared.MsgName.{MsgName}
use Rattle.causal_name.specs.declared.Det.{Det}
use Rattle.causal_trace.specs.declared.entry.Entry.{Entry}
use Rattle.causal_trace.specs.declared.entry.Entry.TheVariants.{Send, Deliver, Stable}
use Rattle.causal_trace.specs.declared.chains.MessageReceipt.{MessageReceipt}
use Rattle.causal_trace.specs.declared.chains.ReceiptNode.{ReceiptNode}
use Rattle.causal_trace.specs.declared.lanes.LaneState.{LaneState}
use Rattle.causal_trace.specs.declared.sorted_deliveries.SortedDeliveries.{SortedDeliveries}
use Rattle.causal_trace.specs.Inside.SortedDeliveries.{AreDeliveries}
use Rattle.causal_trace.specs.Limits.{IsProcessCount}
use Rattle.causal_trace.specs.Past.{listed_by, lane, sends, restarts, deliveries_in, is_send_to, message_sent, message_at, det_from, det_of}
use Rattle.causal_trace.specs.Numbers.{delivered_dets, number_of}
use Rattle.causal_trace.specs.Rows.{Recording, rows_within, first_fault}
use Rattle.causal_trace.specs.State.{with_entry}
use Rattle.causal_trace.specs.Inside.Index.{AreChains, HasHeads, first_lane, lanes_after, IsIndexed, is_restart}
use Rattle.causal_trace.specs.Inside.Chains.{Heads, HasHead, ChainsState, head_of, receipt_index, heads_of, heads_after, nodes_after, with_next_head, with_head, with_message}
use Rattle.causal_trace.proofs.ReceiptChains.{head_leads, head_lengths, message_leads, message_longer, message_there, receipt_leads}
use Rattle.causal_trace.proofs.DeliveryPlaces.{receipt_placed, place_before}
use Rattle.causal_trace.proofs.Lemmas.EntryFacts.{delivers_sent}
use Rattle.causal_trace.proofs.Lemmas.WellFormed.{kept_push}
use Rattle.causal_trace.proofs.LaneRecords.{lanes_push, subject_there}

-- a run has at most as many restarts as entries
pub restarts_few : (past : List Entry) → restarts past ≤ length past
restarts_few [] = omega arith
restarts_few (e ∷ past) = grind (arith, restarts_few past)

-- a run has at most as many deliveries as entries
pub deliveries_in_few : (past : List Entry) → deliveries_in past ≤ length past
deliveries_in_few [] = omega arith
deliveries_in_few (e ∷ past) = grind (arith, deliveries_in_few past)

sends_one : (e : Entry) (p : ℕ) → is_send_to p e ≡ true → (m : MsgName) × (message_sent e ≡ Some m)
sends_one (Send from to ssn) p h = (record { source = from; ssn = ssn }, refl)
sends_one e p h = absurd (false≢true h)

-- a legal delivery has a message
pub delivers_message : (n : ℕ) (past : List Entry) (to : Pid) (send rsn : ℕ) (listed : List Det) → first_fault n past (Deliver to send rsn listed) ≡ None → (m : MsgName) × (message_at past send ≡ Some m)
delivers_message n past to send rsn listed h = grind (arith, sends_one, delivers_sent)

-- the number of a legal send is its sender's next number
numbered_next : (n : ℕ) (past : List Entry) (from to : Pid) (ssn : ℕ) → first_fault n past (Send from to ssn) ≡ None → ssn ≡ sends past from.0
unfolding rows_within
numbered_next n past from to ssn h = grind (arith, eqb-true)

named_grown : (past : List Entry) (heads new : Heads) → ((m : MsgName) → HasHead heads m → HasHead new m) → HasHeads past heads → HasHeads past new
named_grown past heads new grown older k =
    elim (message_at past k) as (λ o. IfSome o (HasHead heads) → IfSome o (HasHead new)) [ None ↦ λ _. tt | Some m ↦ grown m ] (older k)

module _ (n : ℕ) (past : List Entry) (c : ChainsState) (are : AreChains n past c.heads c.nodes) where
  -- the case of a send
  chains_sent : (from to : Pid) (ssn : ℕ) → from.0 < n → ssn ≡ sends past from.0 → AreChains n (Send from to ssn ∷ past) (with_message c.heads (record { source = from; ssn = ssn })) c.nodes
  chains_sent from to ssn below is =
      grind (
        arith,
        common_steps,
        message_there,
        length-set c.heads from.0 (with_next_head (heads_of c.heads from.0) ssn),
        are.linked,
        message_longer,
        named_grown,
        message_leads,
      )

  -- the case of a delivery
  chains_delivered : (to : Pid) (send rsn l : ℕ) (listed : List Det) (m : MsgName) → message_at past send ≡ Some m → l ≡ lane past to.0 → AreChains n (Deliver to send rsn listed ∷ past) (with_head c.heads m (Some (length c.nodes))) (record { receipt = record { dest = to; lane = l; rsn = rsn }; next = head_of c.heads m } ∷ c.nodes)
  chains_delivered to send rsn l listed m at is =
      let has : HasHead c.heads m = subst (λ o. IfSome o (HasHead c.heads)) at (are.named send) in
      let receipt : MessageReceipt = record { dest = to; lane = l; rsn = rsn } in
      record {
        count = grind (arith, length-set);
        linked = grind (arith, head_leads, are.linked);
        counted = grind arith;
        sent = λ p h. grind (arith, head_lengths c.heads m p (Some (length c.nodes)) has.source);
        named = grind (arith, named_grown past c.heads (with_head c.heads m (Some (length c.nodes))) (λ q h. grind (arith, length-set, head_lengths)) are.named);
        each = λ q. grind (arith, receipt_leads);
        numbered = grind arith;
        placed = λ k d. grind (arith, receipt_placed c.heads c.nodes m k d receipt has are.linked, are.placed k d);
      }

  -- the chains after one more entry
  pub chains_push : (e : Entry) (l : ℕ) → first_fault n past e ≡ None → ((d : Det) → det_of past e ≡ Some d → l ≡ lane past d.dest.0) → AreChains n (e ∷ past) (heads_after (message_sent e) (det_of past e) c) (nodes_after (message_sent e) (det_of past e) l c)
  chains_push (Send from to ssn) l next at = chains_sent from to ssn (subject_there n past (Send from to ssn) next) (numbered_next n past from to ssn next)
  chains_push (Deliver to send rsn listed) l next at =
      grind (
        arith,
        chains_delivered to send rsn l listed (delivers_message n past to send rsn listed next).0 (delivers_message n past to send rsn listed next).1 (at (det_from to rsn (delivers_message n past to send rsn listed next).0) (ap (option_map (det_from to rsn)) (delivers_message n past to send rsn listed next).1)),
      )
  chains_push e l next at = grind arith

-- the initial index is that of no entries
pub indexed_none : (n : ℕ) (lanes : List LaneState) (c : ChainsState) (sorted : SortedDeliveries) → IsProcessCount n → lanes ≡ replicate n first_lane → c.heads ≡ replicate n [] → c.nodes ≡ [] → AreDeliveries sorted [] → IsIndexed (record { processes = n; past = [] }) 0 0 lanes c sorted
indexed_none n lanes c sorted count all_fresh no_chains no_nodes unused = grind (arith, common_steps, length-replicate, get_or-replicate, get_or_past)

-- the index after a legal entry is that of the past with it
pub indexed_push : (r : Recording) (e : Entry) (listed restarted l : ℕ) (lanes : List LaneState) (c new : ChainsState) (sorted resorted : SortedDeliveries) → IsIndexed r listed restarted lanes c sorted → first_fault r.processes r.past e ≡ None → ((d : Det) → det_of r.past e ≡ Some d → l ≡ lane r.past d.dest.0) → new.heads ≡ heads_after (message_sent e) (det_of r.past e) c → new.nodes ≡ nodes_after (message_sent e) (det_of r.past e) l c → AreDeliveries resorted (delivered_dets (e ∷ r.past)) → IsIndexed (with_entry r e) (listed + length (listed_by e)) (restarted + cond (is_restart e) 1 0) (lanes_after e lanes) new resorted
indexed_push r e listed restarted l lanes c new sorted resorted was next at heads nodes deliveries =
    grind (
      arith,
      kept_push r e listed was.kept next,
      lanes_push r.processes e r.past lanes was.lanes,
      chains_push r.processes r.past c was.chains e l next at,
    )

-- a stable entry leaves the index unchanged
pub indexed_stable : (r : Recording) (det : Det) (listed restarted : ℕ) (lanes : List LaneState) (c : ChainsState) (sorted : SortedDeliveries) → IsIndexed r listed restarted lanes c sorted → first_fault r.processes r.past (Stable det) ≡ None → IsIndexed (with_entry r (Stable det)) listed restarted lanes c sorted
indexed_stable r det listed restarted lanes c sorted was next = grind (arith, kept_push, lanes_push)

-- the index depends on the heads and the nodes of the chains only, and on the deliveries in the sorted set
pub indexed_same : (r : Recording) (listed restarted : ℕ) (lanes : List LaneState) (c new : ChainsState) (sorted resorted : SortedDeliveries) → IsIndexed r listed restarted lanes c sorted → new.heads ≡ c.heads → new.nodes ≡ c.nodes → AreDeliveries resorted (delivered_dets r.past) → IsIndexed r listed restarted lanes new resorted
indexed_same r listed restarted lanes c new sorted resorted was heads nodes deliveries = grind arith

-- the search from a delivery finds the next older one
pub older_place : (n : ℕ) (past : List Entry) (heads : Heads) (nodes : List ReceiptNode) (m : ℕ) (d : Det) → AreChains n past heads nodes → number_of (m + 1) (delivered_dets past) d ≡ Some m → receipt_index m d nodes (Some m) ≡ number_of m (delivered_dets past) d
older_place n past heads nodes m d are newest = grind (arith, place_before d nodes (head_of heads (message_of d)) m)
