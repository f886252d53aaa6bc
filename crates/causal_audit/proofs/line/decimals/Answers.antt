use Rattle.std.proofs.Common.{◌∙◌, string_bytes}
use Rattle.causal_holders.specs.Members.{ascending}
use Rattle.causal_audit.proofs.Commas.{written-none, written-next}
use Rattle.causal_audit.proofs.line.decimals.Goals as goal

pub loop-process-init : goal.loop-process-init
loop-process-init c =
    written-none ascending string_bytes c.new-numbers.result.items c.into_iter-process-iterator.result c.args.processes
    c.new-numbers.ensures.items (c.into_iter-process-iterator.ensures.into_iter_gives ∙ c.iter-process-items.ensures)

pub loop-process-preserved : goal.loop-process-preserved
loop-process-preserved c =
    written-next ascending string_bytes c.loop-process.numbers.items c.push.new.self.items c.in_ok-format.field-0 c.in-Some.process
    c.loop-process.process-iterator c.next.new.self c.args.processes c.loop-process.invariant c.in-Some.ensures.steps c.in_ok-format.ensures.ok c.in_ok-push.ensures.items
