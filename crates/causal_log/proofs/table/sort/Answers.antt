use Rattle.std.proofs.Common.{rules}
use Rattle.std.proofs.lemmas.List.Sorted.{answers_always}
use Rattle.causal_log.proofs.EntryLemmas.{moved_log, moved_ascend}
use Rattle.causal_log.proofs.table.sort.Goals as goal

pub returns-clause-same : goal.returns-clause-same
returns-clause-same c = moved_log c.args.entries.now.items c.sort_by_key.new.self.items c.sort_by_key.ensures.permutation c.requires

pub returns-clause-ascending : goal.returns-clause-ascending
returns-clause-ascending c =
    moved_ascend c.args.entries.now.items c.sort_by_key.new.self.items c.sort_by_key.ensures.permutation c.requires
    (c.in_ok-sort_by_key.ensures.sorted (λ e. e.0) (answers_always _ _ _ (λ f a r q k. search rules)))
