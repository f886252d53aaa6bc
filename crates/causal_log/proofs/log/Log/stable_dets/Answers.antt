use Rattle.std.proofs.Common.{◌∙◌, ap}
use Rattle.std.proofs.lemmas.Result.{IfOk-weaker}
use Rattle.causal_log.specs.Logs.{log_of, stable_in}
use Rattle.causal_log.proofs.log.Log.stable_dets.Goals as goal

pub returns : goal.returns
returns c = IfOk-weaker c.marked_dets.result _ _ (λ dets is. is ∙ ap (λ es. stable_in (log_of es)) c.entries.ensures.entries ∙ ap (λ log. stable_in log.map) c.self.view_is) c.marked_dets.ensures
