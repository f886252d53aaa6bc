use Rattle.std.proofs.Common.{◌∙◌, ap, sym}
use Rattle.std.specs.FinMap as fin
use Rattle.causal_log.specs.Logs.{log_of}
use Rattle.causal_log.proofs.EntryLemmas.{own_entries}
use Rattle.causal_log.proofs.table.in_order.Goals as goal

pub returns : goal.returns
returns c = sym (own_entries c.sort.new.entries.items c.in_ok-sort.ensures.ascending) ∙ ap fin.entries (c.in_ok-sort.ensures.same ∙ ap log_of c.in_ok-copy.ensures.items)
