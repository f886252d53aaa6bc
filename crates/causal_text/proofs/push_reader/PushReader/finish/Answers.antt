use Rattle.std.proofs.Common.{arith}
use Rattle.causal_text.proofs.Stops.{fed_spells, end_stops}
use Rattle.causal_text.proofs.push_reader.PushReader.finish.Goals as goal

pub returns-in-Ok-clause-ok : goal.returns-in-Ok-clause-ok
returns-in-Ok-clause-ok c = grind (arith, fed_spells)

pub returns-in-Err-clause-err : goal.returns-in-Err-clause-err
returns-in-Err-clause-err c = rw (← c.self.view_is) (λ most b s. end_stops _ most _ b _ s.0 c.in-Err.ensures.value c.in-Err.ensures.memory (c.in-Err.ensures.before b) s.1)
