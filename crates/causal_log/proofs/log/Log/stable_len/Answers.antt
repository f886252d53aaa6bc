use Rattle.std.proofs.Common.{arith}
use Rattle.causal_log.proofs.Lemmas.LogLists.{stable_and_unstable}
use Rattle.causal_log.proofs.log.Log.stable_len.Goals as goal

pub overflow_sub-result : goal.overflow_sub-result
overflow_sub-result c = omega (arith, stable_and_unstable c.args.self.now.map, c.len.ensures, c.unstable_len.ensures)

pub returns : goal.returns
returns c = omega (arith, stable_and_unstable c.args.self.now.map, c.len.ensures, c.unstable_len.ensures)
