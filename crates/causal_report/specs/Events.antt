-- The event of a trace entry.
use Rattle.std.specs.Prelude.{ℕ}
use Rattle.std.specs.Option.{option_map_or}
use Rattle.causal_trace.specs.declared.entry.Entry.{Entry}
use Rattle.causal_trace.specs.declared.entry.Entry.TheVariants as entry
use Rattle.causal_trace.specs.Past.{entry_at}
use Rattle.causal_trace.specs.Rows.{Recording}
use Rattle.causal_facts.specs.declared.event.ChainEvent.{ChainEvent}
use Rattle.causal_facts.specs.declared.event.ChainEvent.TheVariants.{Send, Delivery, Other}

-- a send, a delivery, or neither
abbrev pub chain_event_of : Entry → ChainEvent
chain_event_of (entry.Send from to ssn) = Send from.0 to.0 ssn
chain_event_of (entry.Deliver to send rsn listed) = Delivery to.0 send
chain_event_of _ = Other

-- the event at a position; `Other` if there is no entry
abbrev pub event_at : Recording → ℕ → ChainEvent
event_at r position = option_map_or chain_event_of (entry_at r.past position) Other
