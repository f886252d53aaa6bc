use Rattle.std.proofs.Common.{arith}
use Rattle.causal_explain.proofs.WayLemmas.{walk_more, walk_over}
use Rattle.causal_explain.proofs.paths.path_to.Goals as goal

pub loop-preserved : goal.loop-preserved
loop-preserved c = record {
  walked = λ past i ways fewest.
      rw c.push_reserved-in-loop.ensures.items
      (walk_more past i c.args.nearest.position c.args.nearest.steps c.loop.counter c.loop.position c.loop.chain.items c.previous_event-position.result c.loop-test.true
      (c.loop.invariant.walked past i ways fewest) (λ n at. c.previous_event-position.ensures past i n ways at));
  len = omega (arith, c.push_reserved-in-loop.ensures.len, c.loop.invariant.len);
  room = omega (arith, c.push_reserved-in-loop.ensures.capacity, c.loop.invariant.room);
}

pub returns : goal.returns
returns c past i ways fewest = grind (arith, walk_over)
