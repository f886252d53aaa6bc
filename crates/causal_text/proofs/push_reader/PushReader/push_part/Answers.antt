use Rattle.causal_text.proofs.Begun.{still_begins}
use Rattle.causal_text.proofs.Stops.{part_read, part_stops}
use Rattle.causal_text.proofs.push_reader.PushReader.push_part.Goals as goal

pub returns-in-Ok-clause-ok : goal.returns-in-Ok-clause-ok
returns-in-Ok-clause-ok c = rw (← c.self.view_is) (λ most b s. (s.0, part_read _ most _ _ b _ s.0 c.requires c.in-Ok.ensures.ok c.in-Ok.ensures.room s.1))

pub returns-in-Err-clause-err : goal.returns-in-Err-clause-err
returns-in-Err-clause-err c = rw (← c.self.view_is) (λ most b s. part_stops _ most _ b _ _ s.0 c.requires c.in-Err.ensures.err c.in-Err.ensures.line c.in-Err.ensures.before s.1)

pub returns-in-Ok-clause-no_new_prefix : goal.returns-in-Ok-clause-no_new_prefix
returns-in-Ok-clause-no_new_prefix c = rw (← c.self.view_is) (λ most b r s x. still_begins most _ b _ r s.1.0 c.requires x)
