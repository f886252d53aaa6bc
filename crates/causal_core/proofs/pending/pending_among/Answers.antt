use Rattle.std.proofs.Common.{arith}
use Rattle.causal_core.proofs.Cells.{sent_there}
use Rattle.causal_core.proofs.pending.pending_among.Goals as goal

pub count_sent-count-requires : goal.count_sent-count-requires
count_sent-count-requires c = grind (arith, sent_there)
