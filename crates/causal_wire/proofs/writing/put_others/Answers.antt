use Rattle.std.proofs.Common.{arith, ◌∙◌, ◌++◌}
use Rattle.causal_wire.specs.Bytes.{others_bytes}
use Rattle.causal_wire.proofs.Holders.{len_others, others_begun, others_more, others_written}
use Rattle.causal_wire.proofs.writing.put_others.Goals as goal

pub overflow_cast-len : goal.overflow_cast-len
overflow_cast-len c = omega (arith, len_others c.args.others c.args.source c.len.ensures.members (omega (arith, c.ranges.source.fits)) c.requires, c.len.ensures.counted)

pub loop-other-init : goal.loop-other-init
loop-other-init c =
    others_begun c.args.out.now.items c.push.new.self.items c.args.others c.into_iter-other-iterator.result c.len.result c.in_ok-push.ensures.items
    (c.into_iter-other-iterator.ensures.into_iter_gives ∙ c.iter-other-items.ensures) c.len.ensures.counted (c.ascending_law.ensures.counted c.args.others c.len.ensures.members)

pub loop-other-preserved : goal.loop-other-preserved
loop-other-preserved c =
    others_more (c.args.out.now.items ++ others_bytes c.args.others) c.push-in-loop-other.new.self.items c.loop-other.out.items c.in-Some.other c.loop-other.other-iterator c.next.new.self
    c.in_ok-push-2.ensures.items c.in-Some.ensures.steps c.loop-other.invariant

pub returns : goal.returns
returns c = others_written (c.args.out.now.items ++ others_bytes c.args.others) c.loop-other.out.items c.loop-other.other-iterator c.in-None.ensures.steps.0 c.loop-other.invariant
