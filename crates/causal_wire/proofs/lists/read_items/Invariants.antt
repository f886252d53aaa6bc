use Rattle.std.proofs.Common.{◌≡◌, ◌-◌}
use Rattle.causal_wire.specs.Reading.{read_list, item_det, read_item, read_items}
use Rattle.causal_wire.proofs.Loop.{with_front}
use Rattle.causal_wire.proofs.lists.read_items.Given as goal

abbrev pub invariant-loop : goal.invariant-loop
invariant-loop l =
    with_front l.items.items (read_list item_det (read_item l.n l.source.0) l.last (l.count - l.counter) l.rest) ≡ read_items l.n l.source.0 l.bytes
