use Rattle.std.proofs.Common.{◌≡◌, ◌∙◌, ap, subst, IfOk}
use Rattle.causal_log.specs.Logs.{LogMap}
use Rattle.causal_log.specs.Stores.{dets_in}
use Rattle.causal_protocol.specs.Run.{memories_of, stable_of}
use Rattle.causal_core.specs.Inside.Memories.{memories_in}
use Rattle.causal_core.specs.Inside.Gathers.{gathered_log_of}
use Rattle.causal_core.proofs.RunAfterStep.{store_is}
use Rattle.causal_core.proofs.run_data.RunData.gather.Goals as goal

pub returns : goal.returns
returns g c =
    let r = c.args.self.now.run in
    let known : memories_in c.as_slice.result.now ≡ memories_of r = ap memories_in c.as_slice.ensures.value ∙ c.self.invariant.same ∙ ap (λ s. memories_of s.run) c.self.view_is in
    let stored : c.as_slice-2.result.now ≡ dets_in (stable_of r) = c.as_slice-2.ensures.value ∙ c.in_ok-stored.ensures ∙ ap dets_in (store_is _ r.recording.past c.requires) in
    subst (λ (x : LogMap). IfOk c.gather.result (λ log. log.map ≡ x)) (λ i. gathered_log_of (known i) (stored i) c.args.p) c.gather.ensures
