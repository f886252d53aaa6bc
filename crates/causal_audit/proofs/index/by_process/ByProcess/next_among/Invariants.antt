use Rattle.causal_audit.proofs.Common.{◌≤◌, len}
use Rattle.causal_audit.specs.Inside.Index.Lists.{lists_in}
use Rattle.causal_audit.proofs.index.Filings.{RestNone}
use Rattle.causal_audit.proofs.index.by_process.ByProcess.next_among.Given as goal

-- the least over the processes that are done
abbrev pub invariant-loop-process : goal.invariant-loop-process
invariant-loop-process l = record {
  late : l.from ≤ l.next;
  early : l.next ≤ l.end;
  none : RestNone (lists_in l.self.lists.items) l.fn.members l.rest l.from l.next;
}

abbrev pub decreases-loop-process : goal.decreases-loop-process
decreases-loop-process l = len l.rest
