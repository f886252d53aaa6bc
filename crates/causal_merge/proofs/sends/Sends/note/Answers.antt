use Rattle.std.proofs.Common.{arith, refl}
use Rattle.causal_merge.proofs.SendLemmas.{lane_le, lane_after, IsSendsOf-other, IsSendsOf-send}
use Rattle.causal_merge.proofs.sends.Sends.note.Goals as goal

pub returns-in-Restart-clause-ok : goal.returns-in-Restart-clause-ok
returns-in-Restart-clause-ok c = grind (arith, lane_le, lane_after)

pub returns-in_default-clause-ok : goal.returns-in_default-clause-ok
returns-in_default-clause-ok c = λ past h at. IsSendsOf-other c.args.self.now past c.args.entry.now c.in_default.not-Send c.in_default.not-Restart h

pub returns-in_ok-insert-in-Send-clause-ok : goal.returns-in_ok-insert-in-Send-clause-ok
returns-in_ok-insert-in-Send-clause-ok c = λ past h at.
    rw c.in-Send.is (IsSendsOf-send c.args.self.now _ past c.in-Send.from c.in-Send.to c.in-Send.ssn _ c.args.position refl (h.lanes c.in-Send.from.0 (omega arith)) c.in_ok-insert-in-Send.ensures.updates.0 at h)
