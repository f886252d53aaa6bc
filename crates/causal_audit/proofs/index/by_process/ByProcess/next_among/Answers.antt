use Rattle.causal_audit.proofs.Common.{arith}
use Rattle.causal_audit.specs.Inside.Index.Lists.{lists_in}
use Rattle.causal_audit.proofs.index.Filings.{none_crashes, none_rest, rest_less}
use Rattle.causal_audit.proofs.index.by_process.ByProcess.next_among.Goals as goal

pub loop-process-preserved : goal.loop-process-preserved
loop-process-preserved c = record {
  late = c.next_of-next.ensures.bounds.0;
  early = omega (arith, c.next_of-next.ensures.bounds.1, c.loop-process.invariant.early);
  none =
      rw c.remove.ensures
      (rest_less (lists_in c.args.self.now.lists.items) c.args.members c.loop-process.rest c.args.from c.loop-process.next c.next_of-next.result c.in-Some.process
      c.next_of-next.ensures.bounds.1 c.next_of-next.ensures.none c.loop-process.invariant.none);
}

pub returns-clause-none : goal.returns-clause-none
returns-clause-none c past are = none_rest past _ c.args.members c.args.from c.loop-process.next are (rw c.in_default.ensures at c.loop-process.invariant.none)

pub returns-clause-crashed : goal.returns-clause-crashed
returns-clause-crashed c past are = none_crashes past _ c.args.members c.args.from c.loop-process.next are (rw c.in_default.ensures at c.loop-process.invariant.none)
