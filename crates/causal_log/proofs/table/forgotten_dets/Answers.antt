use Rattle.std.proofs.Common.{◌∙◌, ap, filter, rules}
use Rattle.std.proofs.lemmas.Fn.{filter_same}
use Rattle.std.proofs.lemmas.Result.{IfOk-weaker}
use Rattle.std.specs.Map.{keys_of}
use Rattle.causal_log.specs.Logs.{is_forgotten}
use Rattle.causal_log.proofs.table.forgotten_dets.Goals as goal

pub returns : goal.returns
returns c =
    let left = filter_same _ (is_forgotten c.args.next) _ (λ e b f call. search rules) _ _ c.retain.ensures.filtered in
    IfOk-weaker c.dets.result _ _ (λ dets is. is ∙ ap keys_of (c.as_slice.ensures.value ∙ left ∙ ap (filter (is_forgotten c.args.next)) c.in_ok-sorted.ensures)) c.dets.ensures
