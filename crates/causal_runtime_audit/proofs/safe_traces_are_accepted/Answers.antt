use Rattle.causal_runtime_audit.proofs.SafeAccepts as accepting
use Rattle.causal_runtime_audit.proofs.safe_traces_are_accepted.Goals as goal

pub returns : goal.returns
returns c = accepting.safe_accepted
