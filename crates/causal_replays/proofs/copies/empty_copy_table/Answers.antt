use Rattle.std.proofs.Common.{◌∙◌, ap, arith}
use Rattle.std.proofs.Math.ListN.{replicate}
use Rattle.causal_replays.proofs.LogLemmas.{logged_none}
use Rattle.causal_replays.proofs.HolderLemmas.{none_hold}
use Rattle.causal_replays.proofs.copies.empty_copy_table.Goals as goal

pub returns-clause-unheld : goal.returns-clause-unheld
returns-clause-unheld c = none_hold c.in_ok-vec.field-0.items c.args.count (c.in_ok-vec.ensures.items_if_clones_equal (λ y h. h) ∙ ap (λ s. replicate c.args.count s) c.none.ensures)

pub returns-clause-sized : goal.returns-clause-sized
returns-clause-sized c = record {
  holders = grind (arith, c.in_ok-vec.ensures.len);
  stable = grind (arith, c.in_ok-vec-2.ensures.len);
  logs = c.in_ok-empty_process_lists.ensures.count;
  logged = logged_none _ _ 256 c.in_ok-empty_process_lists.ensures.empty (returns-clause-unheld c);
}
