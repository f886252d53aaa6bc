-- The cause that an entry may be.
use Rattle.std.specs.Prelude.{List, [], ◌∷◌, Option, Some, None}
use Rattle.causal_trace.specs.declared.entry.Entry.{Entry}
use Rattle.causal_trace.specs.declared.entry.Entry.TheVariants.{Send, Deliver, Stable, Crash, Restart, Forget}
use Rattle.causal_facts.specs.declared.cause.Cause.{Cause}
use Rattle.causal_facts.specs.declared.cause.Cause.TheVariants as cause

-- the cause that an entry may be
abbrev pub cause_from_entry : Entry → Option Cause
cause_from_entry (Deliver to send rsn listed) = Some (cause.Delivery to.0 send)
cause_from_entry (Restart who listed) = Some (cause.Restart who.0)
cause_from_entry (Forget who listed) = Some (cause.Forgetting who.0)
cause_from_entry (Crash who) = Some (cause.Crash who.0)
cause_from_entry (Send from to ssn) = None
cause_from_entry (Stable det) = None

-- the cause that a state's newest entry may be
abbrev pub newest_cause : List Entry → Option Cause
newest_cause [] = None
newest_cause (e ∷ past) = cause_from_entry e
