use Rattle.std.proofs.Common.{arith}
use Rattle.std.proofs.lemmas.Result.{on_ok_weaker}
use Rattle.causal_replays.proofs.NumberLemmas.{numbers_match}
use Rattle.causal_replays.proofs.copies.log_det.Goals as goal

pub returns-clause-held : goal.returns-clause-held
returns-clause-held c =
    on_ok_weaker c.add_holder.result
    (λ held d i p at. grind (arith, held i p, numbers_match c.args.trace.now.recording.past d c.args.det i c.number_of-number.result at c.number_of-number.ensures.value)) c.add_holder.ensures.held
