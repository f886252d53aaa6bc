use Rattle.causal_audit.proofs.Common.{ap, arith, deliveries_in}
use Rattle.std.proofs.lemmas.List.{length-take}
use Rattle.causal_audit.proofs.DeliveryNumbers.{instants_fewer}
use Rattle.causal_audit.proofs.Steps.{begins}
use Rattle.causal_audit.proofs.index.mentions.lists_needed.Goals as goal

pub returns-then-needs_all_lists : goal.returns-then-needs_all_lists
returns-then-needs_all_lists c = omega (arith, c.deliveries.ensures, instants_fewer c.args.trace.now.recording.past c.args.end)

pub deliveries_in-requires : goal.deliveries_in-requires
deliveries_in-requires c = omega (arith, c.entries.ensures.few, length-take c.args.end c.entries.result.now)

pub returns : goal.returns
returns c = omega (arith, c.deliveries_in.ensures, ap deliveries_in (begins c.args.trace.now.recording c.entries.result.now c.entries.ensures.value c.args.end c.requires))
