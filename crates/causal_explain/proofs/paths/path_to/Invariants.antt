use Rattle.std.proofs.Common.{◌≡◌, ◌≤◌, ◌+◌, List, ℕ}
use Rattle.std.specs.Prelude.{vec_len, vec_capacity}
use Rattle.causal_trace.specs.declared.entry.Entry.{Entry}
use Rattle.causal_explain.specs.Inside.ShortestPaths.{ArePathSteps, IsLeastDistance}
use Rattle.causal_explain.proofs.WayLemmas.{IsWalkedBack}
use Rattle.causal_explain.proofs.paths.path_to.Given as goal

-- the path is traced back by as many steps as there were rounds
abbrev pub invariant-loop : goal.invariant-loop
invariant-loop l = record {
  walked : (past : List Entry) (i : ℕ) → ArePathSteps past i l.ways → IsLeastDistance past i l.fn.nearest.position l.fn.nearest.steps
      → IsWalkedBack past i l.fn.nearest.position l.fn.nearest.steps l.counter l.position l.chain.items;
  len : vec_len l.chain ≡ l.counter + 1;
  room : l.fn.nearest.steps + 1 ≤ vec_capacity l.chain;
}
