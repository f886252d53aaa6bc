use Rattle.std.proofs.Common.{arith, refl}
use Rattle.causal_audit.proofs.Common.{rules, IsPartitionPoint-from_clause, IsPartitionedBy-ltb}
use Rattle.std.proofs.Math.Dec.{ltb}
use Rattle.causal_audit.proofs.index.Cursors.{split_below}
use Rattle.causal_audit.proofs.index.cursor.Cursor.new.Goals as goal

pub returns : goal.returns
returns c =
    let point = IsPartitionPoint-from_clause (λ y. ltb y c.args.from) c.args.list.now c.partition_point.result c.partition_point.ensures.partitioned (IsPartitionedBy-ltb (λ x. x) c.args.list.now c.args.from c.requires.ascending) (λ a r f' k. search rules) in
    record { over = refl; passed = λ i v low. (split_below c.args.list.now c.args.from c.partition_point.result point).0 i v (omega arith) low }
