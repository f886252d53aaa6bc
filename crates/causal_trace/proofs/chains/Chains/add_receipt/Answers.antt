use Rattle.std.proofs.Common.{◌<◌, Some, length, ap, arith}
use Rattle.std.specs.Prelude.{◌-◌, vec_capacity, vec_len}
use Rattle.std.specs.Vec.{with_item}
use Rattle.std.proofs.lemmas.List.{map-set, get_or-map, length-map, length-reverse}
use Rattle.causal_trace.proofs.Rooms.{least_falls, least_other, room, least_set}
use Rattle.causal_trace.proofs.chains.Chains.add_receipt.Goals as goal

pub returns-in_err-push-clause-spare : goal.returns-in_err-push-clause-spare
returns-in_err-push-clause-spare c = grind (arith, least_falls)

pub returns-in_err-push-clause-full : goal.returns-in_err-push-clause-full
returns-in_err-push-clause-full c = grind (arith, least_other)

pub returns-clause-heads : goal.returns-clause-heads
returns-clause-heads c = grind (arith, length-map, get_or-map, length-reverse, map-set)

pub returns-clause-spare : goal.returns-clause-spare
returns-clause-spare c =
    let lists = c.self.inside.heads.items in
    let inside : c.args.message.source.0 < length lists = omega (arith, c.requires.head.source, ap (λ s. length s.heads) c.self.view_is, length-map lists (λ list. list.items)) in
    let old = vec_capacity c.self.inside.nodes - vec_len c.self.inside.nodes in
    let new = vec_capacity c.push.new.self - vec_len c.push.new.self in
    omega (arith, ap (λ s. s.spare) c.self.view_is, least_set lists c.args.message.source.0 old new (with_item c.index_mut.result.now c.args.message.ssn (Some c.len-place.result)) c.index_mut.result.now inside (omega (arith, ap room c.index_mut.ensures.value)) (omega (arith, c.in_ok-push.ensures.len, c.in_ok-push.ensures.capacity)))

pub invariant_of-self-in_err-push : goal.invariant_of-self-in_err-push
invariant_of-self-in_err-push c = grind (arith, returns-in_err-push-clause-spare)

pub invariant_of-self-2 : goal.invariant_of-self-2
invariant_of-self-2 c = grind (arith, returns-clause-spare)
