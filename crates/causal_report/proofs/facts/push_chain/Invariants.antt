use Rattle.std.proofs.Common.{◌≡◌, ◌++◌, drop, map}
use Rattle.causal_report.specs.Facts.{chain_fact}
use Rattle.causal_report.proofs.facts.push_chain.Given as goal

abbrev pub invariant-loop-position : goal.invariant-loop-position
invariant-loop-position l = l.found.items ++ map (chain_fact l.trace.recording) (drop l.position-index l.chain) ≡ l.fn.found.items ++ map (chain_fact l.trace.recording) l.chain
