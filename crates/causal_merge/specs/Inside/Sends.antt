-- The invariant of `Sends`.
use Rattle.std.specs.Prelude.{◌≡◌, ℕ, ◌<◌, List, slice_index}
use Rattle.std.specs.Ordering.{nat_cmp, ordering_then}
use Rattle.std.specs.declared.cmp.Ordering.{Ordering}
use Rattle.std.specs.BTreeMap.{get}
use Rattle.causal_trace.specs.declared.entry.Entry.{Entry}
use Rattle.causal_trace.specs.Past.{lane}
use Rattle.causal_merge.specs.declared.sends.SendName.{SendName}
use Rattle.causal_merge.specs.declared.sends.Sends.{Sends}
use Rattle.causal_merge.specs.EventMerge.{send_position}

-- the order of sends: by source, lane (incarnation) and number
abbrev pub send_cmp : SendName → SendName → Ordering
send_cmp a b = ordering_then (nat_cmp a.source.0 b.source.0) (ordering_then (nat_cmp a.lane b.lane) (nat_cmp a.ssn b.ssn))

-- the positions and lanes are those of this past
pub record IsSendsOf (sends : Sends) (past : List Entry) : Type 0 where
  pub positions : (name : SendName) → get send_cmp sends.positions name ≡ send_position past name
  pub lanes : (p : ℕ) → p < 256 → slice_index sends.lanes p ≡ lane past p
