use Rattle.std.proofs.Common.{arith}
use Rattle.std.proofs.lemmas.Result.{IfOk-weaker}
use Rattle.causal_explain.specs.declared.closest.Closest.TheVariants.{Never}
use Rattle.causal_explain.proofs.RangeLemmas.{leaves, none_ever, safe_none}
use Rattle.causal_explain.proofs.closest.closest_failure.Goals as goal

pub bisect-requires-clause-none : goal.bisect-requires-clause-none
bisect-requires-clause-none c = safe_none c.args.trace.now.recording c.args.f c.requires

pub returns-in-None-clause-closest : goal.returns-in-None-clause-closest
returns-in-None-clause-closest c = none_ever c.args.trace.now.recording (rw (c.in-None.is, c.processes.ensures.value) at c.in_ok-earliest_breach_early.ensures)

pub returns-in-None-clause-safe : goal.returns-in-None-clause-safe
returns-in-None-clause-safe c = leaves c.args.trace.now.recording c.args.f c.requires Never (returns-in-None-clause-closest c)

pub returns-in-Some-clause-safe : goal.returns-in-Some-clause-safe
returns-in-Some-clause-safe c = grind (arith, IfOk-weaker, leaves)
