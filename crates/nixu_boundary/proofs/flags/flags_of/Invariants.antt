use Rattle.std.proofs.Common.{◌≡◌, ℕ, ◌<◌, get_or, length}
use Rattle.std.specs.Prelude.{if◌then◌else◌}
use Rattle.std.specs.FinSet.{contains}
use Rattle.nixu_boundary.proofs.flags.flags_of.Given as goal

-- the bytes of lower process numbers are set
abbrev pub invariant-loop-process : goal.invariant-loop-process
invariant-loop-process l = record {
  count : length l.flags ≡ 256;
  verdict : (p : ℕ) → p < l.process → get_or l.flags p 0 ≡ (if contains l.set p then 1 else 0);
}
