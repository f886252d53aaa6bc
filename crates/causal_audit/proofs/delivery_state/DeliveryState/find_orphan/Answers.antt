use Rattle.causal_audit.proofs.Common.{◌<◌, arith, sym, ◌∙◌, ap, len, union, difference}
use Rattle.causal_holders.specs.Members.{IsLeast}
use Rattle.causal_audit.proofs.Exposure.{not_many, not_none, least_orphan_is}
use Rattle.causal_audit.proofs.delivery_state.DeliveryState.find_orphan.Goals as goal

pub returns-then-len-from : goal.returns-then-len-from
returns-then-len-from c n past k d formed at state =
    let many : c.args.f < len (union c.args.self.down c.args.self.holders) = omega (arith, c.len.ensures.counted, c.from.ensures, ap len c.union-crash.ensures) in
    not_many n c.args.f past k d formed at c.args.self state many

pub returns-in_default : goal.returns-in_default
returns-in_default c n past k d formed at state =
    grind (arith, not_none n c.args.f past k d formed at c.args.self state (sym c.minus.ensures ∙ c.in_default.ensures))

pub returns : goal.returns
returns c n past k d formed at state =
    let least : IsLeast (difference c.args.self.dependents c.args.self.holders) c.in-Some.orphan = rw c.minus.ensures at c.in-Some.ensures in
    rw c.union-crash.ensures (least_orphan_is n c.args.f past k d formed at c.args.self state c.if-self.false (omega (arith, c.len.ensures.counted, c.from.ensures, ap len c.union-crash.ensures)) c.in-Some.orphan least)
