use Rattle.causal_text.proofs.Begun.{newly_begins}
use Rattle.causal_text.proofs.Stops.{line_read, line_stops}
use Rattle.causal_text.proofs.push_reader.PushReader.push_line.Goals as goal

pub returns-in-Ok-clause-ok : goal.returns-in-Ok-clause-ok
returns-in-Ok-clause-ok c = rw (← c.self.view_is) (λ most b s. (s.0, line_read _ most _ _ b _ s.0 c.requires c.in-Ok.ensures.value s.1))

pub returns-in-Err-clause-err : goal.returns-in-Err-clause-err
returns-in-Err-clause-err c = rw (← c.self.view_is) (λ most b s. line_stops _ most _ b _ _ s.0 c.requires c.in-Err.ensures.value c.in-Err.ensures.line c.in-Err.ensures.before s.1)

pub returns-in-Ok-clause-new_prefixes : goal.returns-in-Ok-clause-new_prefixes
returns-in-Ok-clause-new_prefixes c = rw (← c.self.view_is) (λ most b r s x. newly_begins most _ b _ r s.1.0 c.requires x)
