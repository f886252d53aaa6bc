use Rattle.causal_audit.proofs.Common.{arith, nat_cmp_total, difference, contains-union, contains-difference}
use Rattle.std.proofs.lemmas.Bool.{not_from_false}
use Rattle.causal_audit.proofs.group.suspects.lacking_places.Goals as goal

pub loop-p-preserved : goal.loop-p-preserved
loop-p-preserved c j lack =
    grind (
      arith,
      contains-union nat_cmp_total c.loop-p.lacked (difference c.set_at-depends.result c.set_at.result) j,
      contains-difference nat_cmp_total c.set_at-depends.result c.set_at.result j,
      not_from_false,
    )
