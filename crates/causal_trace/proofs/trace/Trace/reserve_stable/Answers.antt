use Rattle.causal_trace.proofs.trace.Trace.reserve_stable.Goals as goal

pub invariant_of-self : goal.invariant_of-self
invariant_of-self c = rw c.reserve.ensures.items c.self.invariant
