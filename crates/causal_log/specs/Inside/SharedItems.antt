-- The items of a batch, which all its owners share.
use Rattle.std.specs.Prelude.{List, [], Option, None, Some, vec_items}
use Rattle.std.specs.Arc.{arc_value}
use Rattle.std.specs.declared.sync.Arc.{Arc}
use Rattle.std.specs.Global.{Global, Vec}
use Rattle.causal_log.specs.declared.batch.Item.{Item}

-- the items; none if nothing is shared
abbrev pub shared_items : Option (Arc (Vec Item) Global) → List Item
shared_items None = []
shared_items (Some shared) = vec_items (arc_value shared)
