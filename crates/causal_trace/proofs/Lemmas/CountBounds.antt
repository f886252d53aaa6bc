-- Counts of a recording are at most its length.
use Rattle.std.proofs.Common.{ℕ, ◌≤◌, List, [], ◌∷◌, length, arith}
use Rattle.causal_trace.specs.declared.entry.Entry.{Entry}
use Rattle.causal_trace.specs.Past.{sends, deliveries}

-- a process has sent at most as many messages as there are entries
pub sends_few : (past : List Entry) (p : ℕ) → sends past p ≤ length past
sends_few [] p = omega arith
sends_few (e ∷ past) p = grind (arith, sends_few past p)

-- a process has delivered at most as many messages as there are entries
pub deliveries_few : (past : List Entry) (p : ℕ) → deliveries past p ≤ length past
deliveries_few [] p = omega arith
deliveries_few (e ∷ past) p = grind (arith, deliveries_few past p)
