use Rattle.std.proofs.Common.{None, refl, ◌∙◌, [], ◌∷◌, ◌++◌, arith}
use Rattle.causal_clock.proofs.Fields.{read_lane, next_clock}
use Rattle.causal_clock.proofs.Clocks.local.Goals as goal

pub append-requires-clause-place : goal.append-requires-clause-place
append-requires-clause-place c = grind (arith, read_lane)

pub invariant_of-self-2 : goal.invariant_of-self-2
invariant_of-self-2 c =
    next_clock c.self.inside c.self.invariant (record { lane = c.args.lane; send = None }) (rw (← c.self.view_is) at c.requires.lane) c.index_mut.result.now c.append.new.lane c.index_mut.ensures.value (λ s is. cc)
    (rw (← c.self.view_is) at c.requires.room) c.append.ensures.counted (λ source. grind (arith, c.append.ensures.same)) _
    (c.append.ensures.appended ∙ (λ i. c.reserve.ensures.items i ++ record { event = record { lane = c.args.lane; send = None }; place = c.index_mut.result.now.events } ∷ [])) refl refl
