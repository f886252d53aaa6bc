use Rattle.causal_run.proofs.script_process.ScriptProcessProcess.step.Goals as goal

pub returns-in-Ring-clause-ok : goal.returns-in-Ring-clause-ok
returns-in-Ring-clause-ok c = rw c.in-Ring.is c.step.ensures.ok

pub returns-in-Ring-clause-err : goal.returns-in-Ring-clause-err
returns-in-Ring-clause-err c = rw c.in-Ring.is c.step.ensures.err

pub returns-in-Echo-clause-ok : goal.returns-in-Echo-clause-ok
returns-in-Echo-clause-ok c = rw c.in-Echo.is c.step-in-Echo.ensures.ok

pub returns-in-Echo-clause-err : goal.returns-in-Echo-clause-err
returns-in-Echo-clause-err c = rw c.in-Echo.is c.step-in-Echo.ensures.err
