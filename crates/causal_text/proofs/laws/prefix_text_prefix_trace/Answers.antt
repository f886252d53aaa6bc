use Rattle.causal_text.proofs.Lemmas.GoesOn.{texts_go_on}
use Rattle.causal_text.proofs.laws.prefix_text_prefix_trace.Goals as goal

pub returns : goal.returns
returns c = texts_go_on
