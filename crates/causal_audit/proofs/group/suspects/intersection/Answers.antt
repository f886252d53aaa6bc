use Rattle.causal_audit.proofs.Common.{◌≡◌, Bool, ◌&&◌, not, arith, nat_cmp_total, nat_tests, contains, difference, contains-difference}
use Rattle.causal_audit.proofs.group.suspects.intersection.Goals as goal

common : (a b : Bool) → (a && not (a && not b)) ≡ (a && b)
common a b = grind (arith, nat_tests)

pub returns : goal.returns
returns c j =
    grind (
      arith,
      contains-difference nat_cmp_total c.args.one (difference c.args.one c.args.other) j,
      contains-difference nat_cmp_total c.args.one c.args.other j,
      common (contains c.args.one j) (contains c.args.other j),
    )
