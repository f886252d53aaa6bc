use Rattle.std.proofs.Common.{◌∙◌}
use Rattle.causal_holders.specs.Members.{ascending}
use Rattle.causal_answers.proofs.SetMembers.{listed-none, listed-next}
use Rattle.causal_answers.proofs.members.members_of.Goals as goal

pub loop-process-init : goal.loop-process-init
loop-process-init c =
    listed-none ascending _ c.into_iter-process-iterator.result c.args.processes c.new-members.ensures.items
    (c.into_iter-process-iterator.ensures.into_iter_gives ∙ c.iter-process-items.ensures)

pub loop-process-preserved : goal.loop-process-preserved
loop-process-preserved c =
    listed-next ascending c.loop-process.members.items c.push.new.self.items _ c.in-Some.process
    c.loop-process.process-iterator c.next.new.self c.loop-process.invariant c.in-Some.ensures.steps c.in_ok-push.ensures.items
