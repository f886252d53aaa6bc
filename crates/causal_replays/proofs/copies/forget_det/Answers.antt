use Rattle.std.proofs.Common.{arith}
use Rattle.causal_replays.proofs.NumberLemmas.{numbers_match}
use Rattle.causal_replays.proofs.copies.forget_det.Goals as goal

pub returns-clause-held : goal.returns-clause-held
returns-clause-held c d i p at = grind (arith, c.remove_holder.ensures.held i p, numbers_match c.args.trace.now.recording.past d c.args.det i c.number_of-number.result at c.number_of-number.ensures.value)
