use Rattle.std.proofs.Common.{ℕ, ◌<◌, ◌≤◌, length, get_or, set, arith}
use Rattle.std.proofs.Math.Seq.{map-set_same}
use Rattle.causal_trace.specs.Inside.Chains.{least_room}
use Rattle.causal_trace.proofs.Rooms.{room, least_at, least_each, least_grown, room_set}
use Rattle.causal_trace.proofs.chains.reserve_each.Goals as goal
use Rattle.causal_trace.proofs.chains.reserve_each.Goals.{After-reserve}

inside : (c : After-reserve) → c.loop-list.list-index < length c.loop-list.lists
inside c = omega (arith, c.loop-list-test.true, c.loop-list.auto.lists)

grown : (c : After-reserve) → (other : ℕ) → least_room c.args.lists.now other ≤ least_room (set c.loop-list.lists c.loop-list.list-index c.reserve.new.self) other
grown c other =
    let here : room (get_or c.loop-list.lists c.loop-list.list-index c.list-item.result) ≤ room c.reserve.new.self = omega (arith, c.reserve.ensures.capacity, c.reserve.ensures.len) in
    omega (arith, c.loop-list.invariant.grown other, least_grown c.loop-list.lists c.loop-list.list-index other c.reserve.new.self c.list-item.result (inside c) here)

pub returns-in_err-reserve-clause-items : goal.returns-in_err-reserve-clause-items
returns-in_err-reserve-clause-items c = grind (arith, map-set_same)

pub returns-in_err-reserve-clause-grown : goal.returns-in_err-reserve-clause-grown
returns-in_err-reserve-clause-grown c = grind (arith, grown)

pub returns-in_err-reserve-clause-full : goal.returns-in_err-reserve-clause-full
returns-in_err-reserve-clause-full c =
    let d : After-reserve = (goal.at.returns-in_err-reserve-clause-full c).After-reserve in
    let few : (other : ℕ) → least_room c.args.lists.now other < c.args.room = λ other.
    omega (arith, c.loop-list.invariant.grown other, least_at c.loop-list.lists other c.loop-list.list-index c.list-item.result (inside d), c.in_err-reserve.ensures.full, (get_or c.loop-list.lists c.loop-list.list-index c.list-item.result).ok.1) in
    grind (arith, few)

pub loop-list-preserved : goal.loop-list-preserved
loop-list-preserved c = grind (arith, map-set_same, grown, room_set, inside)

pub returns-clause-ok : goal.returns-clause-ok
returns-clause-ok c = grind (arith, least_each)
