use Rattle.std.proofs.Common.{◌≡◌, ◌<◌, length, sym, ◌∙◌, arith}
use Rattle.causal_replays.specs.Inside.Holdings.{logged_numbers}
use Rattle.causal_replays.proofs.LogLemmas.{list_read, logged_less, emptied}
use Rattle.causal_replays.proofs.holdings.clear_log.Goals as goal

pub remove_from_each-requires : goal.remove_from_each-requires
remove_from_each-requires c k h =
    let there : c.args.who < length c.args.logs.now.items = grind (arith, c.requires.logs, c.ranges.who) in
    let e : logged_numbers c.args.logs.now.items c.args.who ≡ c.as_slice.result.now =
    list_read c.args.logs.now.items c.args.who c.index_mut-log.result.now there (rw c.from.ensures at c.index_mut-log.ensures.value) ∙ sym c.as_slice.ensures.value in
    grind (arith, (rw e at (c.requires.logged.below c.args.who)) k h)

pub returns-clause-held : goal.returns-clause-held
returns-clause-held c =
    let there : c.args.who < length c.args.logs.now.items = grind (arith, c.requires.logs, c.ranges.who) in
    emptied _ _ c.args.logs.now.items c.index_mut-log.result.now c.args.who there (rw c.from.ensures at c.index_mut-log.ensures.value) c.requires.logged
    (λ i m. c.remove_from_each.ensures.removed i (rw c.as_slice.ensures.value m)) c.remove_from_each.ensures.others c.remove_from_each.ensures.fewer

pub returns-clause-logged : goal.returns-clause-logged
returns-clause-logged c =
    let there : c.args.who < length c.args.logs.now.items = grind (arith, c.requires.logs, c.ranges.who) in
    rw c.from.ensures
    (logged_less c.args.holders.now.items _ c.args.logs.now.items c.clear.new.self c.args.who (grind (arith, c.remove_from_each.ensures.count)) there c.clear.ensures.items (returns-clause-held c) c.requires.logged)
