use Rattle.std.proofs.Common.{arith, rules}
use Rattle.std.proofs.lemmas.Bool.{false≢true}
use Rattle.causal_shared.specs.Locked.{locked_state}
use Rattle.causal_shared.proofs.Seats.{SeesEntries-is, not_seated}
use Rattle.causal_shared.proofs.seat.snapshot_locked.Goals as goal

pub returns-clause-seen : goal.returns-clause-seen
returns-clause-seen g c =
    SeesEntries-is (locked_state c.args.locked.now) c.args.seat.now.view c.set_seen.new.self.view c.in-Ok.snapshot c.args.tag c.len.result c.args.locked.now.is_consistent (c.matches_record.ensures.0 (search rules)) c.in-Ok.ensures.copy (search rules) (search rules)

pub returns-clause-sees : goal.returns-clause-sees
returns-clause-sees g c = rw c.number.ensures at c.in-Ok.ensures.ok

pub returns-then-not-matches_record-clause-wrong : goal.returns-then-not-matches_record-clause-wrong
returns-then-not-matches_record-clause-wrong g c = grind (arith, not_seated, false≢true)
