use Rattle.std.proofs.Common.{◌<◌, length, arith}
use Rattle.std.proofs.lemmas.List.{length-set}
use Rattle.causal_replays.proofs.HolderLemmas.{held_added}
use Rattle.causal_replays.proofs.LogLemmas.{logged_more}
use Rattle.causal_replays.proofs.holdings.add_holder.Goals as goal

pub returns-clause-held : goal.returns-clause-held
returns-clause-held c i p = grind (arith, held_added)

pub returns-clause-logged : goal.returns-clause-logged
returns-clause-logged c =
    let holders = c.args.holders.now.items in
    let there : c.args.who < length c.args.logs.now.items = grind (arith, c.requires.logs, c.ranges.who) in
    rw c.from.ensures
    (logged_more holders _ _ c.index_mut.result.now c.push.new.self c.args.number c.args.who (grind (arith, c.requires.number)) (length-set holders c.args.number c.insert.new.self) there
    (rw c.from.ensures at c.index_mut.ensures.value) c.in_ok-push.ensures.items (returns-clause-held c) c.requires.logged)
