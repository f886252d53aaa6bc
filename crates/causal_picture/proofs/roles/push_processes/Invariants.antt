use Rattle.std.proofs.Common.{◌≡◌, ◌++◌, ℕ, List, string_bytes}
use Rattle.causal_picture.proofs.roles.push_processes.Given as goal

-- a text was appended
abbrev pub invariant-loop-process : goal.invariant-loop-process
invariant-loop-process l = (added : List ℕ) × (string_bytes l.out ≡ string_bytes l.fn.out ++ added)
