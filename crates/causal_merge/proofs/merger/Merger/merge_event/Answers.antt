use Rattle.causal_merge.proofs.merger.Merger.merge_event.Goals as goal

pub returns-in-Ok-clause-ok : goal.returns-in-Ok-clause-ok
returns-in-Ok-clause-ok c = λ before h. c.in-Ok.ensures.ok before c.args.placed.line h
