-- Appending an item preserves the lock's invariant.
use Rattle.std.specs.Prelude.{◌≡◌, List}
use Rattle.causal_protocol.specs.Run.{Run}
use Rattle.causal_protocol.specs.Steps.{Steps}
use Rattle.causal_shared.specs.declared.item.Item.{Item}
use Rattle.causal_shared.specs.declared.item.SeatRecord.{SeatRecord}
use Rattle.causal_shared.specs.History.{run_length, item_count, HasDeliveryOf}
use Rattle.causal_shared.specs.LockInvariant.{LockInvariant}

-- if the item records the step to this run, the invariant of the old lists implies that of the new ones
abbrev pub PreservesInvariant : Run → Item → List Item → List SeatRecord → List Item → List SeatRecord → Type 0
PreservesInvariant new item items seats items' seats' =
    (old : Run) → LockInvariant old items seats → Steps old item.request item.reply new → item.first ≡ run_length old
    → item.call ≡ item_count seats item.seat → HasDeliveryOf new.recording.past item → LockInvariant new items' seats'
