use Rattle.std.proofs.Common.{arith}
use Rattle.causal_explain.proofs.StandingLemmas.{stand_unchanged, stand_changed}
use Rattle.causal_explain.proofs.validity.apply_change.Goals as goal

pub returns-in-Nothing : goal.returns-in-Nothing
returns-in-Nothing c test e past is change h = stand_unchanged e past test c.args.standings.now ((rw c.in-Nothing.is at change) past) h

pub returns-in-Begins : goal.returns-in-Begins
returns-in-Begins c test e past is change h =
    let q = c.in-Begins.process in
    let told = (rw c.in-Begins.is at change) past in
    stand_changed e past test c.args.standings.now q c.begin_at.result (omega arith) told.1 (c.begin_at.ensures (test q) e past is told.0 (h q (omega arith))) h

pub returns-in-Ends : goal.returns-in-Ends
returns-in-Ends c test e past is change h =
    let q = c.in-Ends.process in
    let told = (rw c.in-Ends.is at change) past in
    stand_changed e past test c.args.standings.now q c.end_at.result (omega arith) told.1 (c.end_at.ensures (test q) e past is told.0 (h q (omega arith))) h
