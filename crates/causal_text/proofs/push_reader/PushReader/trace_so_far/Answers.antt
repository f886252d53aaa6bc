use Rattle.causal_text.proofs.Begun.{so_far_says, so_far_none}
use Rattle.causal_text.proofs.push_reader.PushReader.trace_so_far.Goals as goal

pub returns-clause-spells : goal.returns-clause-spells
returns-clause-spells c = rw (← c.self.view_is) (so_far_says c.trace_so_far.result (λ t. t.now.recording) _ _ c.trace_so_far.ensures.some)

pub returns-clause-none : goal.returns-clause-none
returns-clause-none c = rw (← c.self.view_is) (so_far_none c.trace_so_far.result _ _ c.trace_so_far.ensures.none)
