use Rattle.causal_text.proofs.reader.PieceReader.trace.Goals as goal

pub returns-clause-none : goal.returns-clause-none
returns-clause-none c = rw (← c.self.view_is) c.trace.ensures.none
