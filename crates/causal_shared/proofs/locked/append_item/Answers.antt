use Rattle.std.proofs.Common.{rules, refl}
use Rattle.causal_core.specs.CoreView.{core_run}
use Rattle.causal_shared.specs.History.{history_item}
use Rattle.causal_shared.proofs.Histories.{Keeps-note}
use Rattle.causal_shared.proofs.locked.append_item.Goals as goal

pub returns-clause-is_consistent : goal.returns-clause-is_consistent
returns-clause-is_consistent g c = λ old is_consistent step first call.
    let item = history_item c.args.turn.seat c.args.turn.call c.args.told.0 c.args.told.1 c.args.turn.first in
    Keeps-note old (core_run c.args.core.now) c.args.history.now.items c.args.seats.now.items item c.len-place.result c.entry_count.result _ _ is_consistent step (search rules) first call (search rules) c.entry_count.ensures c.push_reserved.ensures.items refl
