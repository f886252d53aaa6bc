use Rattle.causal_text.proofs.reader.PieceReader.trace_so_far.Goals as goal

pub returns-clause-none : goal.returns-clause-none
returns-clause-none c = rw (← c.self.view_is) c.trace_so_far.ensures.none
