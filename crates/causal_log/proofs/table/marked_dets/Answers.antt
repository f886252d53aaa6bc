use Rattle.std.proofs.Common.{◌∙◌, ap, cond, filter, not, rules}
use Rattle.std.proofs.lemmas.Fn.{filter_same}
use Rattle.std.proofs.lemmas.Result.{IfOk-weaker}
use Rattle.std.specs.Map.{keys_of}
use Rattle.causal_log.proofs.table.marked_dets.Goals as goal

pub returns : goal.returns
returns c =
    let left = filter_same _ (λ e. cond c.args.stable e.1.stable (not e.1.stable)) _ (λ e b f call. search rules) _ _ c.retain.ensures.filtered in
    IfOk-weaker c.dets.result _ _ (λ dets is. is ∙ ap keys_of (c.as_slice.ensures.value ∙ left ∙ ap (filter (λ e. cond c.args.stable e.1.stable (not e.1.stable))) c.in_ok-sorted.ensures)) c.dets.ensures
