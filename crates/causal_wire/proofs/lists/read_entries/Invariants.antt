use Rattle.std.proofs.Common.{◌≡◌, ◌-◌}
use Rattle.causal_wire.specs.Reading.{read_list, entry_det, read_entry, read_entries}
use Rattle.causal_wire.proofs.Loop.{with_front}
use Rattle.causal_wire.proofs.lists.read_entries.Given as goal

abbrev pub invariant-loop : goal.invariant-loop
invariant-loop l =
    with_front l.entries.items (read_list entry_det (read_entry l.n l.source.0) l.last (l.count - l.counter) l.rest) ≡ read_entries l.n l.source.0 l.bytes
