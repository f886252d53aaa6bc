use Rattle.std.proofs.Common.{rules, arith}
use Rattle.std.proofs.lemmas.List.Sorted.{All-permutation, IsPermutation-map, answers_always}
use Rattle.std.specs.Map.{values_of}
use Rattle.causal_log.specs.Inside.Tables.{HasSlotKey, IsNotLater}
use Rattle.causal_log.proofs.EntryLemmas.{moved_log, moved_ascend, still_distinct}
use Rattle.causal_log.proofs.TableLemmas.{values_sorted}
use Rattle.causal_log.proofs.table.Table.sort.Goals as goal

pub invariant_of-self-2 : goal.invariant_of-self-2
invariant_of-self-2 c =
    let es = c.self.inside.entries.entries in
    let fs = c.sort_by_key.new.self.entries in
    let moved = c.sort_by_key.ensures.reordered.0 in
    record {
      distinct = still_distinct (values_of es) (values_of fs) (IsPermutation-map (λ e. e.1) es fs moved) c.self.invariant.distinct;
      keyed = All-permutation (HasSlotKey c.self.inside.numbers) es fs moved c.self.invariant.keyed;
      ended = All-permutation (IsNotLater c.self.inside.last) es fs moved c.self.invariant.ended;
      few = omega (arith, c.sort_by_key.ensures.reordered.1, c.self.invariant.few);
      numbers_fit = c.self.invariant.numbers_fit;
      entries_fit = omega (arith, c.sort_by_key.ensures.room.0, c.self.invariant.entries_fit);
    }

pub returns-clause-same : goal.returns-clause-same
returns-clause-same c =
    rw (← c.self.view_is) (moved_log (values_of c.self.inside.entries.entries) _ (IsPermutation-map (λ e. e.1) c.self.inside.entries.entries _ c.sort_by_key.ensures.reordered.0) c.self.invariant.distinct)

pub returns-clause-ascending : goal.returns-clause-ascending
returns-clause-ascending c =
    let es = c.self.inside.entries.entries in
    let fs = c.sort_by_key.new.self.entries in
    moved_ascend (values_of es) (values_of fs) (IsPermutation-map (λ e. e.1) es fs c.sort_by_key.ensures.reordered.0) c.self.invariant.distinct
    (values_sorted fs (c.in_ok-sort_by_key.ensures.sorted (λ e. e.1.0) (answers_always _ _ _ (λ f a r q k. search rules))))
