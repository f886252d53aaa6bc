use Rattle.std.proofs.Common.{◌∙◌}
use Rattle.causal_wire.specs.Bytes.{item_bytes}
use Rattle.causal_wire.proofs.Holders.{flat_map-next}
use Rattle.causal_wire.proofs.writing.put_items.Goals as goal

pub loop-item-preserved : goal.loop-item-preserved
loop-item-preserved c =
    c.in_ok-put_item.ensures
    ∙ flat_map-next item_bytes c.args.items.now c.loop-item.item-index c.item-item.result c.put_u32.new.out.items c.loop-item.out.items c.loop-item-test.true c.item-item.is c.loop-item.invariant
