use Rattle.std.proofs.Common.{arith}
use Rattle.std.proofs.lemmas.Bool.{or_left, or_right}
use Rattle.causal_log.specs.Knowledge.{held_by}
use Rattle.causal_log.specs.Inside.Merges.{log_after_items}
use Rattle.causal_log.proofs.Lemmas.KnowledgeGrows.{absorbed_logged}
use Rattle.causal_log.proofs.KnownLemmas.{joined_nothing}
use Rattle.causal_log.proofs.MergeLemmas.{in_its_place, own_met, own_out, own_in}
use Rattle.causal_log.proofs.next_batch_merge.insert_own.Goals.{then-is_some-via-then-is_some, then-is_some-via-else-is_some+then-names_det}
use Rattle.causal_log.proofs.next_batch_merge.insert_own.Goals as goal

pub returns-in-Some : goal.returns-in-Some
returns-in-Some c = grind (arith, in_its_place, own_met)

pub returns-then-is_some : goal.returns-then-is_some
returns-then-is_some c = grind (arith, or_left, or_right, own_out, absorbed_logged)

pub returns : goal.returns
returns c = grind (arith, joined_nothing, own_in c.args.delivery.now.f (log_after_items c.args.delivery.now) c.args.delivery.now.own (held_by c.args.delivery.now.me) c.as_slice-items.result.now c.item_index-place.result, absorbed_logged)
