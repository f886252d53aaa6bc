use Rattle.std.proofs.Common.{◌≡◌, length, take, drop}
use Rattle.std.specs.Vec.Iter.{into_iter_items}
use Rattle.causal_run.specs.Runs.{spares_in}
use Rattle.causal_run.specs.Inside.IssuedRequests.{ArePerformed}
use Rattle.causal_run.proofs.script_commands.issue_all.Given as goal

abbrev pub invariant-loop-command : goal.invariant-loop-command
invariant-loop-command g l = record {
  done : ArePerformed (take l.command-index l.commands) l.seat.view.items;
  spares : length (into_iter_items l.spares) ≡ spares_in (drop l.command-index l.commands);
}
