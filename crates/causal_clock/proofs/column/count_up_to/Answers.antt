use Rattle.std.proofs.Common.{◌-◌, length, take, drop, arith, rules}
use Rattle.std.proofs.Math.Dec.{leb}
use Rattle.std.proofs.lemmas.List.{length-drop, take_all}
use Rattle.std.proofs.lemmas.List.Sorted.{IsPartitionPoint-from_clause}
use Rattle.causal_clock.proofs.Columns.{parted, partitioned}
use Rattle.causal_clock.proofs.column.count_up_to.Goals as goal

pub returns : goal.returns
returns c =
    let rises = c.args.column.now in
    let start = c.search_start-start.result in
    let tail = take_all (length rises - start) (drop start rises) (omega (arith, length-drop start rises)) in
    parted rises c.args.place start c.partition_point.result c.search_start-start.ensures.inside c.search_start-start.ensures.passed
    (rw tail at (IsPartitionPoint-from_clause (λ y. leb y.place c.args.place) (take (length rises - start) (drop start rises)) c.partition_point.result c.partition_point.ensures.partitioned
    (rw tail (partitioned rises c.args.place start c.requires.strictly)) (λ a r f' k. search rules)))
    (rw tail at c.partition_point.ensures.bound)
