use Rattle.std.proofs.lemmas.Grind.{common_steps}
use Rattle.std.proofs.Common.{◌≡◌, ◌+◌, length, reverse, ◌++◌, ◌∷◌, take, drop, None, arith, sym, ap, ◌∙◌}
use Rattle.std.proofs.lemmas.List.{take_at, length-reverse, reverse-append}
use Rattle.causal_trace.specs.Past.{deliveries_in, listed_by, message_sent, det_of, lane}
use Rattle.causal_trace.specs.Rows.{first_fault}
use Rattle.causal_trace.specs.State.{past_at, with_entry}
use Rattle.causal_trace.specs.Bounds.{IsBounded}
use Rattle.causal_trace.specs.Inside.Index.{lanes_after, subject}
use Rattle.causal_trace.specs.Numbers.{delivered_dets}
use Rattle.causal_trace.specs.Inside.Chains.{heads_after, nodes_after}
use Rattle.causal_trace.specs.Inside.SortedDeliveries.{AreDeliveries}
use Rattle.causal_trace.proofs.Lemmas.WellFormed.{kept_push}
use Rattle.causal_trace.proofs.Lemmas.Instants.{past_whole}
use Rattle.causal_trace.proofs.LaneRecords.{subject_there, lanes_have_room, lanes_length}
use Rattle.causal_trace.proofs.TraceIndex.{indexed_push, restarts_few, deliveries_in_few}
use Rattle.causal_trace.proofs.trace.Trace.append.Goals as goal
use Rattle.causal_trace.proofs.trace.Trace.append.Goals.{After-det_of_next-own}

-- the entry's determinant, from the entries of the value
own_is : (c : After-det_of_next-own) → c.det_of_next-own.result ≡ det_of (reverse c.self.inside.entries.items) c.args.entry
own_is c = c.det_of_next-own.ensures ∙ ap (λ es. det_of (past_at es (length es)) c.args.entry) c.as_slice.ensures.value ∙ ap (λ past. det_of past c.args.entry) (past_whole c.self.inside.entries.items)

next : (c : After-det_of_next-own) → first_fault c.self.inside.processes (reverse c.self.inside.entries.items) c.args.entry ≡ None
next c = ap (λ s. first_fault s.recording.processes s.recording.past c.args.entry) c.self.view_is ∙ c.requires

kept : (c : After-det_of_next-own) → IsBounded (with_entry (record { processes = c.self.inside.processes; past = reverse c.self.inside.entries.items }) c.args.entry) (c.self.inside.listed + length (listed_by c.args.entry))
kept c = kept_push _ c.args.entry _ c.self.invariant.kept (next c)

pub receipt_lane-lane-requires : goal.receipt_lane-lane-requires
receipt_lane-lane-requires c = grind (arith, common_steps, own_is, subject_there, next)

pub count_entry-requires-clause-there : goal.count_entry-requires-clause-there
count_entry-requires-clause-there c = grind (arith, subject_there, next)

pub count_entry-requires-clause-room : goal.count_entry-requires-clause-room
count_entry-requires-clause-room c = grind (arith, kept, lanes_have_room)

pub overflow_add-self : goal.overflow_add-self
overflow_add-self c = grind (arith, restarts_few)

pub overflow_cast-self : goal.overflow_cast-self
overflow_cast-self c = grind (arith, kept)

pub overflow_add-self-2 : goal.overflow_add-self-2
overflow_add-self-2 c = grind (arith, kept)

pub add_to_chains-requires-clause-sent : goal.add_to_chains-requires-clause-sent
add_to_chains-requires-clause-sent c = grind (arith, subject_there, next)

pub add_to_chains-requires-clause-delivered : goal.add_to_chains-requires-clause-delivered
add_to_chains-requires-clause-delivered c = grind (arith, own_is ((goal.at.add_to_chains-requires-clause-delivered c).After-det_of_next-own))

pub add_to_chains-requires-clause-few : goal.add_to_chains-requires-clause-few
add_to_chains-requires-clause-few c = grind (arith, kept, deliveries_in_few)

pub add_next-requires : goal.add_next-requires
add_next-requires c = grind (arith, c.self.invariant.kept.short, length-reverse)

pub invariant_of-self-2 : goal.invariant_of-self-2
invariant_of-self-2 c =
    let d : After-det_of_next-own = (goal.at.invariant_of-self-2 c).After-det_of_next-own in
    let long : length c.count_entry.new.lanes ≡ c.self.inside.lanes.len = ap length c.count_entry.ensures ∙ lanes_length (subject c.args.entry) c.args.entry _ ∙ ap length c.as_mut_slice.ensures.value ∙ sym c.self.inside.lanes.ok.0 in
    let lanes : take c.self.inside.lanes.len (c.count_entry.new.lanes ++ drop (length c.count_entry.new.lanes) c.self.inside.lanes.items) ≡ lanes_after c.args.entry c.self.inside.lanes.items =
    take_at c.count_entry.new.lanes _ c.self.inside.lanes.len long ∙ c.count_entry.ensures ∙ ap (lanes_after c.args.entry) c.as_mut_slice.ensures.value in
    let items = c.self.inside.entries.items in
    let dets = delivered_dets (reverse items) in
    let read : past_at c.as_slice-2.result.now (length c.as_slice-2.result.now) ≡ reverse items =
    ap (λ es. past_at es (length es)) (c.as_slice-2.ensures.value ∙ c.reserve.ensures.items) ∙ past_whole items in
    let count : length dets ≡ c.deliveries-number.result =
    sym c.self.invariant.chains.numbered ∙ c.self.invariant.chains.counted ∙ ap (λ s. deliveries_in s.recording.past) c.self.view_is ∙ sym c.deliveries-number.ensures in
    let sorted : AreDeliveries c.add_next.new.self (delivered_dets (c.args.entry ∷ reverse items)) =
    c.add_next.ensures (reverse items) (sym read) count c.self.invariant.sorted in
    rw (c.push_reserved.ensures.items, c.reserve.ensures.items, c.listed_count.ensures, c.restarts_in.ensures, lanes, reverse-append)
    (indexed_push _ c.args.entry _ _ c.receipt_lane-lane.result _ c.self.inside.chains c.add_to_chains.new.chains c.self.inside.sorted c.add_next.new.self c.self.invariant (next d)
    (λ e h. c.receipt_lane-lane.ensures e (own_is d ∙ h) ∙ ap (λ s. lane s.recording.past e.dest.0) (sym c.self.view_is))
    (c.in_ok-add_to_chains.ensures.heads ∙ ap (λ o. heads_after (message_sent c.args.entry) o c.self.inside.chains) (own_is d))
    (c.in_ok-add_to_chains.ensures.nodes ∙ ap (λ o. nodes_after (message_sent c.args.entry) o c.receipt_lane-lane.result c.self.inside.chains) (own_is d))
    sorted)

pub returns-clause-formed : goal.returns-clause-formed
returns-clause-formed c = grind (arith, reverse-append, kept)
