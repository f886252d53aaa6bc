use Rattle.std.proofs.Common.{◌∙◌}
use Rattle.causal_log.specs.Slots.{first_of_slot}
use Rattle.causal_log.specs.Stores.{dets_in}
use Rattle.causal_core.proofs.RunAfterStep.{store_is}
use Rattle.causal_core.proofs.runtime.Core+S.named.Goals as goal

pub named_message-requires : goal.named_message-requires
named_message-requires g c =
    c.least_of-stored.ensures
    ∙ (λ i. first_of_slot c.args.q (c.next_rsn-rsn.ensures i) (dets_in (store_is _ c.args.self.now.run_data.run.recording.past c.args.self.now.stored i)))
