use Rattle.causal_protocol.proofs.StepKeeps as step
use Rattle.causal_protocol.proofs.Lemmas.StepAppends as tell
use Rattle.causal_protocol.proofs.laws.replies_match_entries.Goals as goal

pub returns : goal.returns
returns c = record { refused = step.refusals_change_nothing; entries = tell.replies_tell_entries }
