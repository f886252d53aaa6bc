use Rattle.std.proofs.Common.{sym}
use Rattle.causal_trace.specs.Past.{deliveries_in}
use Rattle.causal_replays.proofs.NumberLemmas.{number_within}
use Rattle.causal_replays.proofs.rivals.has_rival.Goals as goal

pub has_copy-requires : goal.has_copy-requires
has_copy-requires c =
    let whole = c.args.trace.now.recording.past in
    let found = c.requires.of_slots c.args.slot.dest.0 c.args.slot.rsn c.in-Some.other (sym c.in-Some.ensures) in
    (deliveries_in whole, c.requires.sized, number_within whole found.0 c.in-Some.other found.1)
