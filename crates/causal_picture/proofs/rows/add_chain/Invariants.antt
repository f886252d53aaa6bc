use Rattle.std.proofs.Common.{◌≡◌, ℕ, drop}
use Rattle.std.specs.Prelude.{◌||◌}
use Rattle.std.specs.List.{list_any}
use Rattle.std.specs.FinSet.{contains}
use Rattle.causal_picture.specs.Rows.{is_mark_of}
use Rattle.causal_picture.proofs.rows.add_chain.Given as goal

-- the set so far with the processes of the remaining positions has all members
abbrev pub invariant-loop-position : goal.invariant-loop-position
invariant-loop-position l =
    (p : ℕ) → (contains l.fn.members p || list_any (is_mark_of l.trace.recording.past p) l.chain) ≡ (contains l.all p || list_any (is_mark_of l.trace.recording.past p) (drop l.position-index l.chain))
