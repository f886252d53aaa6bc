use Rattle.std.proofs.Common.{refl}
use Rattle.nixu_node.proofs.recovery.restart.Goals as goal

pub returns-in-Ok-clause-ok : goal.returns-in-Ok-clause-ok
returns-in-Ok-clause-ok c is =
    let so = c.in-Ok.ensures in
    record { after = so.ok; restarted = (c.in-Ok.restarted, refl, record { clock = so.clock; listed = so.listed; reserved = so.reserved }) }
