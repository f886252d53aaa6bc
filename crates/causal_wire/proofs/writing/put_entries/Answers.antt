use Rattle.std.proofs.Common.{◌∙◌}
use Rattle.causal_wire.specs.Bytes.{entry_bytes}
use Rattle.causal_wire.proofs.Holders.{flat_map-next}
use Rattle.causal_wire.proofs.writing.put_entries.Goals as goal

pub loop-entry-preserved : goal.loop-entry-preserved
loop-entry-preserved c =
    c.in_ok-put_entry.ensures
    ∙ flat_map-next entry_bytes c.args.entries.now c.loop-entry.entry-index c.entry-item.result c.put_u32.new.out.items c.loop-entry.out.items c.loop-entry-test.true c.entry-item.is c.loop-entry.invariant
