use Rattle.std.proofs.Common.{◌≡◌, ◌-◌}
use Rattle.causal_wire.specs.Reading.{read_list, nothing, read_next_number}
use Rattle.causal_wire.proofs.Loop.{with_front}
use Rattle.causal_wire.proofs.lists.read_view.Given as goal

abbrev pub invariant-loop : goal.invariant-loop
invariant-loop l =
    with_front l.view.items (read_list nothing read_next_number tt (l.n - l.counter) l.rest) ≡ read_list nothing read_next_number tt l.n l.bytes
