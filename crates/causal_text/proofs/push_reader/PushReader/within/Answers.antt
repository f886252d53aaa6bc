use Rattle.causal_text.proofs.Begun.{none_begins}
use Rattle.causal_text.proofs.push_reader.PushReader.within.Goals as goal

pub returns-clause-none : goal.returns-clause-none
returns-clause-none c = none_begins
