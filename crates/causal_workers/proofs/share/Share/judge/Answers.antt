use Rattle.causal_workers.proofs.share.Share.judge.Goals as goal

pub returns-clause-found : goal.returns-clause-found
returns-clause-found g c = rw c.part.ensures at c.earliest_breach.ensures
