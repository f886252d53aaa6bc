use Rattle.std.proofs.Common.{arith, rules, append_assoc}
use Rattle.causal_picture.proofs.Shown.{range_first, each_shown}
use Rattle.causal_picture.proofs.marks.marks_of.Goals as goal

pub loop-position-preserved : goal.loop-position-preserved
loop-position-preserved c = grind (arith, range_first c.loop-position.position c.end_of-end.result c.loop-position-test.true, append_assoc)

pub returns-clause-each : goal.returns-clause-each
returns-clause-each c =
    grind (
      arith,
      each_shown c.args.trace.now.recording.processes c.args.trace.now.recording.past c.args.range c.loop-position.marks.items c.end_of-end.ensures.formed.accepted c.requires (search rules),
    )
