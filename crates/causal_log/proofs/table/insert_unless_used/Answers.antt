use Rattle.std.proofs.Common.{◌≡◌, None, arith, rules}
use Rattle.indexmap.specs.IndexMap.{get}
use Rattle.indexmap.proofs.CallerLemmas.{insert_entry-new}
use Rattle.causal_log.specs.Inside.Tables.{same_slot_key}
use Rattle.causal_log.proofs.table.insert_unless_used.Goals as goal

pub returns-in-Ok-Vacant-clause-entries : goal.returns-in-Ok-Vacant-clause-entries
returns-in-Ok-Vacant-clause-entries c =
    let none : get same_slot_key c.args.entries.now c.args.key ≡ None = search rules in
    grind (arith, c.in-Ok-Vacant.ensures.update.1 c.args.entry, insert_entry-new same_slot_key c.args.entries.now c.args.key c.args.entry none)
