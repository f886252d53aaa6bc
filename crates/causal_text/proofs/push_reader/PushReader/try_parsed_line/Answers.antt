use Rattle.std.specs.Prelude.{Option, Some, None, IfNone}
use Rattle.causal_text.proofs.Stops.{line_read}
use Rattle.causal_text.proofs.push_reader.PushReader.try_parsed_line.Goals as goal

none_gives : {A : Type 0} {P Q : Type 0} (o : Option A) → (P → Q) → IfNone o P → IfNone o Q
none_gives None f p = f p
none_gives (Some x) f p = tt

pub returns-clause-read : goal.returns-clause-read
returns-clause-read c = rw (← c.self.view_is) (none_gives c.try_parsed_line.result (λ is. λ most b s. (s.0, line_read _ most _ _ b _ s.0 c.requires.0 is s.1)) c.try_parsed_line.ensures.read)
