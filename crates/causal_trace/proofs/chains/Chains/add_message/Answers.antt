use Rattle.std.proofs.Common.{◌≡◌, ◌<◌, length, get_or, ap, arith}
use Rattle.std.proofs.Math.Seq.{map-set_same}
use Rattle.std.proofs.lemmas.Bool.{cond-true, eq-eqb}
use Rattle.std.proofs.lemmas.List.{map-set, get_or-map, length-map}
use Rattle.causal_trace.proofs.Rooms.{room, least_at, least_set}
use Rattle.causal_trace.proofs.chains.Chains.add_message.Goals as goal
use Rattle.causal_trace.proofs.chains.Chains.add_message.Goals.{After-index_mut-heads}

inside : (c : After-index_mut-heads) → c.args.message.source.0 < length c.self.inside.heads.items
inside c = omega (arith, c.requires, ap (λ s. length s.heads) c.self.view_is, length-map c.self.inside.heads.items (λ list. list.items))

-- the spare capacity of the list, by its index
here : (c : After-index_mut-heads) → room c.index_mut-heads.result.now ≡ room (get_or c.self.inside.heads.items c.args.message.source.0 c.index_mut-heads.result.now)
here c = ap room c.index_mut-heads.ensures.value

pub returns-in_err-push-clause-same : goal.returns-in_err-push-clause-same
returns-in_err-push-clause-same c = grind (arith, map-set_same)

pub returns-in_err-push-clause-spare : goal.returns-in_err-push-clause-spare
returns-in_err-push-clause-spare c =
    let d = (goal.at.returns-in_err-push-clause-spare c).After-index_mut-heads in
    grind (arith, here d, least_set, inside d)

pub returns-in_err-push-clause-full : goal.returns-in_err-push-clause-full
returns-in_err-push-clause-full c =
    let d = (goal.at.returns-in_err-push-clause-full c).After-index_mut-heads in
    grind (arith, here d, least_at, inside d)

pub returns-clause-heads : goal.returns-clause-heads
returns-clause-heads c = grind (arith, get_or-map, inside, map-set, cond-true, eq-eqb)

pub returns-clause-spare : goal.returns-clause-spare
returns-clause-spare c =
    let d = (goal.at.returns-clause-spare c).After-index_mut-heads in
    grind (arith, here d, least_set, inside d)

pub invariant_of-self-in_err-push : goal.invariant_of-self-in_err-push
invariant_of-self-in_err-push c =
    let d = (goal.at.invariant_of-self-in_err-push c).After-index_mut-heads in
    grind (arith, here d, c.self.invariant, c.saturating_sub-self-inside.ensures, least_set, inside d)

pub invariant_of-self-2 : goal.invariant_of-self-2
invariant_of-self-2 c =
    let d = (goal.at.invariant_of-self-2 c).After-index_mut-heads in
    grind (arith, here d, c.self.invariant, c.saturating_sub-self-inside.ensures, least_set, inside d)
