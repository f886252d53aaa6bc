use Rattle.std.proofs.lemmas.Grind.{common_steps}
use Rattle.std.proofs.Common.{◌≡◌, ◌≢◌, ℕ, ◌+◌, ◌<◌, [], ◌∷◌, ◌++◌, Some, length, get_or, refl, ap, ◌∙◌, arith}
use Rattle.std.proofs.Math.ListN.{length-set}
use Rattle.std.proofs.lemmas.List.{length-map}
use Rattle.causal_clock.specs.declared.lane.LaneColumns.{LaneColumns}
use Rattle.causal_clock.specs.Timeline.{Timeline}
use Rattle.causal_clock.specs.Inside.Columns.{SameOrNoNews}
use Rattle.causal_clock.specs.Inside.Fields.{events_of, lane_places, counts_in}
use Rattle.causal_clock.proofs.Columns.{raised_alike}
use Rattle.causal_clock.proofs.Lanes.{column_was, told_was}
use Rattle.causal_clock.proofs.Fields.{tells_event, lengths_in, columns_in, keeps_unchanged, told_in, alike, read_lane, next_clock}
use Rattle.causal_clock.proofs.Clocks.receive.Goals as goal

pub index-from-requires : goal.index-from-requires
index-from-requires c = grind (arith, tells_event)

pub counts_for-requires : goal.counts_for-requires
counts_for-requires c = grind (arith, common_steps, tells_event, column_was)

pub invariant_of-self-in_err-reserve_counts : goal.invariant_of-self-in_err-reserve_counts
invariant_of-self-in_err-reserve_counts c =
    grind (arith, length-set {A = LaneColumns}, keeps_unchanged (events_of c.self.inside) (lane_places c.self.inside) c.self.inside.lanes.items c.args.lane c.index_mut-own.result.now c.reserve_counts.new.self (rw (← c.self.view_is) at c.requires.lane) c.index_mut-own.ensures.value c.reserve_counts.ensures.events c.reserve_counts.ensures.same c.self.invariant.keeps)

pub append_counts-requires-clause-few : goal.append_counts-requires-clause-few
append_counts-requires-clause-few c =
    let own = read_lane c.self.inside c.args.lane c.index_mut-own.result.now c.self.invariant (rw (← c.self.view_is) at c.requires.lane) c.index_mut-own.ensures.value in
    let room : length (events_of c.self.inside) < 16777216 = rw (← c.self.view_is) at c.requires.room in
    omega (arith, own.1, room, c.reserve_counts.ensures.events)

pub append-requires-clause-place : goal.append-requires-clause-place
append-requires-clause-place c =
    let own = read_lane c.self.inside c.args.lane c.index_mut-own.result.now c.self.invariant (rw (← c.self.view_is) at c.requires.lane) c.index_mut-own.ensures.value in
    let room : length (events_of c.self.inside) < 16777216 = rw (← c.self.view_is) at c.requires.room in
    omega (arith, own.1, room, c.append_counts.ensures.events, c.reserve_counts.ensures.events)

pub invariant_of-self-2 : goal.invariant_of-self-2
invariant_of-self-2 c =
    let lt : c.args.lane < length c.self.inside.lanes.items = rw (← c.self.view_is) at c.requires.lane in
    let k = c.self.invariant.keeps in
    let es = events_of c.self.inside in
    let lanes = c.self.inside.lanes.items in
    let x = c.index_mut-own.result.now in
    let counts = c.in_ok-counts.counts.items in
    let sent = tells_event c.self.inside c.args.send_event _ c.self.invariant (rw (← c.self.view_is) at c.requires.sent) c.index-sent.ensures in
    let many : length c.in_ok-counts.counts.items ≡ length c.self.inside.lanes.items = rw (← c.self.view_is) at (c.in_ok-counts.ensures.count ∙ c.lanes-count.ensures.counted) in
    let lengths = length-map lanes (λ x. x.events) in
    let row : c.index-to.result.now.row.items ≡ c.index_mut-own.result.now.row.items = grind (arith, common_steps, told_was) in
    let each : (source : ℕ) → source < length (lengths_in c.self.inside.lanes.items) → source ≢ c.args.lane → SameOrNoNews (get_or c.index_mut-own.result.now.row.items source 0) (get_or c.in_ok-counts.counts.items source 0) (counts_in (events_of c.self.inside) (columns_in c.self.inside.lanes.items) c.args.send_event source) =
    grind (arith, told_in, columns_in, column_was) in
    let both = alike es (lane_places c.self.inside) (lengths_in lanes) (columns_in lanes) k c.args.send_event c.args.lane sent.inside x.row.items counts (omega (arith, many, lengths)) c.in_ok-counts.ensures.own each in
    let events_are : c.append_counts.new.self.events ≡ c.index_mut-own.result.now.events = c.append_counts.ensures.events ∙ c.reserve_counts.ensures.events in
    next_clock c.self.inside c.self.invariant (record { lane = c.args.lane; send = Some c.args.send_event }) lt x c.append.new.lane c.index_mut-own.ensures.value (λ s is. grind (arith, sent.inside))
    (rw (← c.self.view_is) at c.requires.room) (c.append.ensures.counted ∙ ap (λ n. n + 1) events_are)
    (λ source. grind (arith, c.append.ensures.same, c.append_counts.ensures.raised source, c.reserve_counts.ensures.same source, c.as_slice-2.ensures.value, raised_alike, x.kept.told source x.events x.kept.within, both source)) _
    (c.append.ensures.appended ∙ (λ i. c.reserve.ensures.items i ++ record { event = record { lane = c.args.lane; send = Some c.args.send_event }; place = events_are i } ∷ [])) refl refl

pub index-sent-requires : goal.index-sent-requires
index-sent-requires c =
    let sent : c.args.send_event < length (events_of c.self.inside) = rw (← c.self.view_is) at c.requires.sent in
    omega (arith, sent, length-map c.self.inside.placed_events.items (λ x. x.event), c.self.inside.placed_events.ok)

pub index-to-requires : goal.index-to-requires
index-to-requires c =
    let lt : c.args.lane < length c.self.inside.lanes.items = rw (← c.self.view_is) at c.requires.lane in
    omega (arith, lt, c.self.inside.lanes.ok)

pub index_mut-own-requires : goal.index_mut-own-requires
index_mut-own-requires c =
    let lt : c.args.lane < length c.self.inside.lanes.items = rw (← c.self.view_is) at c.requires.lane in
    omega (arith, lt, c.self.inside.lanes.ok)

pub append_counts-requires-clause-room : goal.append_counts-requires-clause-room
append_counts-requires-clause-room c = rw c.as_slice-2.ensures.value (rw c.as_slice.ensures.value at c.in_ok-reserve_counts.ensures.room)

pub append-requires-clause-few : goal.append-requires-clause-few
append-requires-clause-few c =
    let room : length (events_of c.self.inside) < 16777216 = rw (← c.self.view_is) at c.requires.room in
    omega (arith, room, c.reserve.ensures.len, length-map c.self.inside.placed_events.items (λ x. x.event), c.self.inside.placed_events.ok)

pub returns-clause-number : goal.returns-clause-number
returns-clause-number c =
    omega (arith, c.append.ensures.number, c.reserve.ensures.len, length-map c.self.inside.placed_events.items (λ x. x.event), c.self.inside.placed_events.ok, ap (λ (t : Timeline). length t.events) c.self.view_is)
