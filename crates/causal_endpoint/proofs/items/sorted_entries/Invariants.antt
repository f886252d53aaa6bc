use Rattle.std.proofs.Common.{◌≡◌, map, take}
use Rattle.std.specs.FinMap as fin
use Rattle.causal_endpoint.specs.Items.{wire_entry}
use Rattle.causal_endpoint.proofs.items.sorted_entries.Given as goal

abbrev pub invariant-loop-i : goal.invariant-loop-i
invariant-loop-i l = l.written.items ≡ map (wire_entry l.source) (take l.i (fin.entries l.sorted.map))
