use Rattle.std.proofs.Common.{arith}
use Rattle.causal_log.proofs.MergeLemmas.{drop_got, next_after}
use Rattle.causal_log.proofs.changed_batch.first_after.Goals as goal

pub returns-in-Some-clause-after : goal.returns-in-Some-clause-after
returns-in-Some-clause-after c =
    rw (drop_got c.args.kept.now c.args.place c.in-Some.field-0 c.in-Some.ensures.found, c.in-Some.ensures.same) at c.requires.ascending

pub returns-in-Some-clause-elsewhere : goal.returns-in-Some-clause-elsewhere
returns-in-Some-clause-elsewhere c = λ q apart.
    rw (drop_got c.args.kept.now c.args.place c.in-Some.field-0 c.in-Some.ensures.found, c.in-Some.ensures.same, apart)

pub returns-in-None-clause-after : goal.returns-in-None-clause-after
returns-in-None-clause-after c = grind (arith, next_after)
