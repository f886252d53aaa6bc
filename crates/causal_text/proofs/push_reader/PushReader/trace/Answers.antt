use Rattle.std.proofs.Common.{arith}
use Rattle.causal_text.proofs.Begun.{trace_says, trace_only, trace_none}
use Rattle.causal_text.proofs.push_reader.PushReader.trace.Goals as goal

pub returns-clause-spells : goal.returns-clause-spells
returns-clause-spells c = grind (arith, trace_says)

pub returns-clause-unique : goal.returns-clause-unique
returns-clause-unique c = rw (← c.self.view_is) (trace_only c.trace.result (λ t. t.now.recording) _ _ c.trace.ensures.some)

pub returns-clause-none : goal.returns-clause-none
returns-clause-none c = rw (← c.self.view_is) (trace_none c.trace.result _ _ c.trace.ensures.none)
