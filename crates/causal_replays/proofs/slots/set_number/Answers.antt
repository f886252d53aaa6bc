use Rattle.std.proofs.Common.{◌<◌, length, arith}
use Rattle.std.proofs.lemmas.Result.{on_ok_weaker}
use Rattle.causal_replays.proofs.SlotLemmas.{written}
use Rattle.causal_replays.proofs.slots.set_number.Goals as goal

pub returns-clause-set : goal.returns-clause-set
returns-clause-set c =
    let there : c.from.result < length c.args.slots.now.items = grind (arith, c.requires, c.from.ensures, c.from.type_inv) in
    on_ok_weaker c.write_at.result
    (λ wrote p r. rw (← c.from.ensures) (written c.args.slots.now.items c.from.result c.index_mut.result.now c.write_at.new.list c.args.slot.rsn c.args.number there c.index_mut.ensures.value wrote p r))
    c.write_at.ensures
