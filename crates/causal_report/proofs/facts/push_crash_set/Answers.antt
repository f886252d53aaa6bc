use Rattle.std.proofs.Common.{◌++◌, ◌∙◌, ap, map}
use Rattle.std.specs.FinSet.{FinSet}
use Rattle.std.specs.Ordering.{nat_cmp}
use Rattle.causal_holders.specs.Members.{ascending}
use Rattle.causal_facts.specs.declared.fact.Fact.TheVariants.{Crash}
use Rattle.causal_report.proofs.SetMembers.{made-next}
use Rattle.causal_report.proofs.facts.push_crash_set.Goals as goal

pub loop-process-init : goal.loop-process-init
loop-process-init c =
    ap (λ (rest : FinSet nat_cmp). c.args.found.now.items ++ map Crash (ascending rest))
    (c.into_iter-process-iterator.ensures.into_iter_gives ∙ c.iter-process-items.ensures)

pub loop-process-preserved : goal.loop-process-preserved
loop-process-preserved c =
    made-next ascending Crash c.loop-process.found.items c.push.new.self.items _ c.in-Some.process
    c.loop-process.process-iterator c.next.new.self c.loop-process.invariant c.in-Some.ensures.steps c.in_ok-push.ensures.items
