use Rattle.causal_answers.proofs.members.push_verdict.Goals as goal

pub returns-in-Exceeded : goal.returns-in-Exceeded
returns-in-Exceeded c = rw c.in-Exceeded.is c.push_excess.ensures

pub returns-in-Orphan : goal.returns-in-Orphan
returns-in-Orphan c = rw c.in-Orphan.is c.push_orphan.ensures
