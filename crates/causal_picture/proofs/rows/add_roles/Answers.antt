use Rattle.std.proofs.Common.{arith}
use Rattle.std.specs.Cmp.{nat_cmp_total}
use Rattle.std.specs.FinSet.{contains-union}
use Rattle.causal_picture.proofs.rows.add_roles.Goals as goal

pub returns-in-Some : goal.returns-in-Some
returns-in-Some c p = grind (arith, contains-union nat_cmp_total c.add.result c.in-Some.orphan.holders p, c.add.ensures p)
