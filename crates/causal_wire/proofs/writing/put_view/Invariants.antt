use Rattle.std.proofs.Common.{◌≡◌, ◌++◌, take}
use Rattle.causal_wire.specs.Bytes.{view_bytes}
use Rattle.causal_wire.proofs.writing.put_view.Given as goal

abbrev pub invariant-loop-number : goal.invariant-loop-number
invariant-loop-number l = l.out.items ≡ l.fn.out.items ++ view_bytes (take l.number-index l.view)
