-- The events of a run in the merge order.
use Rattle.std.specs.Prelude.{◌≡◌, ℕ, List}
use Rattle.causal_trace.specs.Limits.{IsProcessCount}
use Rattle.causal_merge.specs.declared.event.RecorderLine.{RecorderLine}
use Rattle.causal_merge.specs.declared.merge.OrderedRun.{OrderedRun}
use Rattle.causal_merge.specs.ReadLines.{events_in, torn_in, HasAllHeaders}
use Rattle.causal_merge.specs.Order.{IsMergedOrder}
use Rattle.causal_merge.specs.Merges.{ParsesTo}

-- the fields are those of the lines of this text, none of which has an error, and no header is missing
pub record IsOrderedRun (most : ℕ) (text : List ℕ) (o : OrderedRun) : Type 0 where
  pub contents : List RecorderLine
  pub parses : ParsesTo most text contents
  pub whole : HasAllHeaders contents o.run
  pub few : IsProcessCount o.run.processes
  pub ordered : IsMergedOrder (events_in contents) o.events.items
  pub torn_lines : o.torn.items ≡ torn_in contents
