use Rattle.std.proofs.Common.{arith}
use Rattle.std.proofs.lemmas.Bool.Decides.{eqb_tells}
use Rattle.std.proofs.lemmas.List.{get_or-set_same, get_or-set_other}
use Rattle.causal_replays.proofs.NumberLemmas.{numbers_match}
use Rattle.causal_replays.proofs.copies.store_det.Goals as goal

pub returns-clause-stored : goal.returns-clause-stored
returns-clause-stored c d i at =
    let j = c.number_of-number.result in
    let same = numbers_match c.args.trace.now.recording.past d c.args.det i j at c.number_of-number.ensures.value in
    grind (arith, same, eqb_tells i j, get_or-set_same, get_or-set_other, c.number_of-number.ensures.below, c.requires.sized.stable)
