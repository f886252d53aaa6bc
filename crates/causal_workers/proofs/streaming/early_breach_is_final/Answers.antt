use Rattle.causal_workers.proofs.EarlyLemmas.{early_is_final}
use Rattle.causal_workers.proofs.streaming.early_breach_is_final.Goals as goal

pub returns : goal.returns
returns c = early_is_final
