use Rattle.causal_shared.specs.Locked.{locked_state}
use Rattle.causal_shared.proofs.Seats.{section_some}
use Rattle.causal_shared.proofs.seat.record_reply.Goals as goal

pub returns : goal.returns
returns g c = rw c.in-Some.is (λ old may item.
    section_some old (locked_state c.args.locked.now) c.args.seat.now c.add_item.new.self.view c.args.request c.in-Some.reply c.args.first c.entry_count.result may item c.entry_count.ensures c.add_item.ensures)
