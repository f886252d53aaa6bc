-- Where the entries of a merged trace come from.
use Rattle.causal_merge.specs.declared.event.EventAtLine.{EventAtLine}
use Rattle.causal_merge.specs.declared.origins.Origin.{Origin}

-- the line and the clock of an event
abbrev pub origin_of : EventAtLine → Origin
origin_of e = record { line = e.line; clock = e.event.clock }
