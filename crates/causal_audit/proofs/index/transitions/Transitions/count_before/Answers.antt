use Rattle.causal_audit.proofs.Common.{rules, IsNonDecreasing, IsPartitionPoint-from_clause, IsPartitionedBy-ltb}
use Rattle.std.proofs.Math.Dec.{ltb}
use Rattle.causal_audit.proofs.index.Cursors.{split_below}
use Rattle.causal_audit.proofs.index.transitions.Transitions.count_before.Goals as goal

pub returns : goal.returns
returns c =
    let list = c.deref.result.now in
    let passed = c.partition_point.result in
    let ascending : IsNonDecreasing list = rw c.deref.ensures.value c.args.self.now.ascending in
    let point = IsPartitionPoint-from_clause (λ y. ltb y c.args.t) list passed c.partition_point.ensures.partitioned (IsPartitionedBy-ltb (λ x. x) list c.args.t ascending) (λ a r f' k. search rules) in
    record {
      inside = rw (← c.deref.ensures.value) c.partition_point.ensures.bound;
      point = rw (← c.deref.ensures.value) (split_below list c.args.t passed point);
    }
