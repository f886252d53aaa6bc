use Rattle.std.proofs.Common.{arith}
use Rattle.causal_text.proofs.Stops.{fed_more, fed_refusal}
use Rattle.causal_text.proofs.push_reader.PushReader.feed.Goals as goal

pub returns-in-Ok-clause-ok : goal.returns-in-Ok-clause-ok
returns-in-Ok-clause-ok c = grind (arith, fed_more)

pub returns-in-Err-clause-err : goal.returns-in-Err-clause-err
returns-in-Err-clause-err c = rw (← c.self.view_is) (λ most b s. fed_refusal _ most _ b _ _ s.0 (λ other. c.in-Err.ensures.err other b) (c.in-Err.ensures.line b) (c.in-Err.ensures.before b) s.1)
