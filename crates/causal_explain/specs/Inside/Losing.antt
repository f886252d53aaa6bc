-- The kind of entry by which a log lost a determinant.
use Rattle.std.specs.Prelude.{Option, Some}
use Rattle.causal_trace.specs.declared.entry.Entry.{Entry}
use Rattle.causal_trace.specs.declared.entry.Entry.TheVariants as entry
use Rattle.causal_facts.specs.declared.process_fact.LostBy.{LostBy}
use Rattle.causal_facts.specs.declared.process_fact.LostBy.TheVariants.{Crash, Forgetting}

-- a crash if the entry is one, else a forgetting
abbrev pub lost_by : Option Entry → LostBy
lost_by (Some (entry.Crash who)) = Crash
lost_by _ = Forgetting
