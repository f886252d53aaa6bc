use Rattle.std.proofs.Common.{◌≡◌, ◌-◌, drop}
use Rattle.causal_name.specs.Names.{is_ascending}
use Rattle.causal_trace.proofs.scans.is_ascending.Given as goal

-- the result depends on the rest of the list and the determinant before it
abbrev pub invariant-loop-i : goal.invariant-loop-i
invariant-loop-i l = is_ascending (drop (l.i - 1) l.dets) ≡ is_ascending l.dets
