use Rattle.std.proofs.Common.{arith}
use Rattle.indexmap.proofs.CallerLemmas.{insert_entry-new}
use Rattle.causal_log.specs.Inside.Tables.{same_slot_key}
use Rattle.causal_log.proofs.table.insert_new.Goals as goal

pub returns-clause-entries : goal.returns-clause-entries
returns-clause-entries c =
    grind (arith, insert_entry-new same_slot_key c.args.entries.now c.args.key c.args.entry c.requires.new, c.insert.ensures.succeeds c.requires.room, c.insert.ensures.entries)
