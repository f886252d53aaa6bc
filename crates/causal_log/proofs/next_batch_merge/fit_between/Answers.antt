use Rattle.std.proofs.Common.{arith}
use Rattle.std.proofs.lemmas.Bool.{and_from}
use Rattle.std.proofs.lemmas.List.{drop_all}
use Rattle.std.proofs.lemmas.Option.{slice_get-get_or}
use Rattle.causal_log.proofs.MergeLemmas.{apart_between, drop_ascends, drop_got}
use Rattle.causal_log.proofs.next_batch_merge.fit_between.Goals as goal

pub returns-in-Some : goal.returns-in-Some
returns-in-Some c = λ low.
    grind (arith, apart_between c.args.items.now c.args.kept.now c.in-Some-Some.first.now c.in-Some-Some.last.now c.item_index.result, drop_got c.args.kept.now c.item_index.result c.in-Some.next.now, drop_ascends c.args.kept.now c.item_index.result, slice_get-get_or, and_from)

pub returns-in-None : goal.returns-in-None
returns-in-None c = λ low.
    grind (arith, apart_between c.args.items.now c.args.kept.now c.in-Some-Some.first.now c.in-Some-Some.last.now c.item_index.result, drop_all, slice_get-get_or)
