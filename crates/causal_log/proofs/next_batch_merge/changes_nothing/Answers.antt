use Rattle.std.proofs.Common.{◌≡◌, [], arith}
use Rattle.std.proofs.lemmas.List.{nil_from_length}
use Rattle.causal_log.specs.Knowledge.{held_by}
use Rattle.causal_log.specs.Inside.Merges.{log_after_items}
use Rattle.causal_log.proofs.MergeLemmas.{absorbed_known, learned_known, still_out}
use Rattle.causal_log.proofs.KnownLemmas.{held_out}
use Rattle.causal_log.proofs.next_batch_merge.changes_nothing.Goals as goal

pub returns-then-delivery-eq0 : goal.returns-then-delivery-eq0
returns-then-delivery-eq0 c = λ told is.
    let d = c.args.delivery.now in
    let nothing : d.items.now ≡ [] = nil_from_length d.items.now (grind arith) in
    let empty : c.args.kept.now ≡ [] = nil_from_length c.args.kept.now (grind arith) in
    grind (arith, nothing, empty, still_out d.f (log_after_items d) d.own (held_by d.me) [] [], held_out d.f d.me)

pub returns-then-are_known_to_hold : goal.returns-then-are_known_to_hold
returns-then-are_known_to_hold c = grind (arith, absorbed_known, learned_known)
