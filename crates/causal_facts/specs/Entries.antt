-- The entries of facts.
use Rattle.std.specs.Prelude.{ℕ, ◌-◌, nat_le, if◌then◌else◌, Option, Some, None}
use Rattle.causal_facts.specs.declared.fact.Fact.{Fact}
use Rattle.causal_facts.specs.declared.fact.Fact.TheVariants as fact

-- the last entry before an instant; none before the first
abbrev pub entry_before : ℕ → Option ℕ
entry_before instant = if nat_le 1 instant then Some (instant - 1) else None

-- the position of the entry on whose line of the trace's text the fact is; None if it has no line, or its line is the
-- header's
abbrev pub entry_of : Fact → Option ℕ
entry_of (fact.Down down) = Some down.since
entry_of (fact.Delivery delivery det) = Some delivery
entry_of (fact.Cause instant cause) = entry_before instant
entry_of (fact.Unstable instant) = entry_before instant
entry_of (fact.Holder holding) = Some holding.since
entry_of fact.NoHolder = None
entry_of (fact.Loss loss) = Some loss.lost
entry_of (fact.Crash process) = None
entry_of (fact.Chain position event) = Some position
entry_of (fact.Unlisted position event is_own) = Some position
entry_of fact.Listed = None
entry_of (fact.Underway position send to) = Some position
entry_of (fact.Orphan process) = None
entry_of (fact.Closest closest) = Some closest.delivery
entry_of fact.Never = None
entry_of (fact.Strayed stray) = None
entry_of (fact.Logged delivery holding) = Some holding.since
entry_of (fact.Stable delivery) = None
