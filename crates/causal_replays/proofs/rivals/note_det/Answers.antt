use Rattle.std.proofs.Common.{ap}
use Rattle.std.specs.Option.{is_some}
use Rattle.causal_replays.proofs.RivalLemmas.{noted_set}
use Rattle.causal_replays.proofs.rivals.note_det.Goals as goal

pub number_of-number-requires : goal.number_of-number-requires
number_of-number-requires c = ap is_some c.requires.copied.1

pub returns-clause-noted : goal.returns-clause-noted
returns-clause-noted c test are =
    noted_set c.args.trace.now.recording.past c.args.copies.now c.args.slots.now.items c.args.least test c.args.det c.number_of-number.result c.number_of-number.ensures.value c.set_number.new.slots.items
    (rw c.slot.ensures at c.if-has_rival.ensures) (rw c.slot-2.ensures at c.in_ok-set_number.ensures.set) are
