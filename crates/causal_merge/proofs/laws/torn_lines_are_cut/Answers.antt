use Rattle.std.proofs.Common.{arith, refl}
use Rattle.causal_merge.specs.TornLines.{begins_torn, is_torn_byte}
use Rattle.causal_merge.proofs.laws.torn_lines_are_cut.Goals as goal

pub returns-clause-example : goal.returns-clause-example
unfolding begins_torn is_torn_byte
returns-clause-example c = record { long = omega arith; begins = refl; bytes = refl; quotes = refl; closed = refl; no_sooner = refl }
