use Rattle.causal_log.proofs.EntryLemmas.{own_entries}
use Rattle.causal_log.proofs.log.Log.piggyback_items.Goals as goal

pub returns-in_default : goal.returns-in_default
returns-in_default c = rw (← c.self.view_is) (rw (c.entries.ensures.entries, ← own_entries c.self.inside.entries.entries (c.self.invariant.ascending c.if-self.true)) at c.chosen_items.ensures)
