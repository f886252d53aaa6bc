use Rattle.std.proofs.Common.{◌∙◌, ap}
use Rattle.std.specs.List.{list_any}
use Rattle.causal_name.specs.SameDets.{same_det_equiv}
use Rattle.causal_trace.specs.Past.{list_has}
use Rattle.causal_explain.proofs.holdings.lists_det.Goals as goal

pub returns : goal.returns
returns c = c.contains.ensures.value ∙ (λ i. list_any (λ d. same_det_equiv.symm d c.args.det i) c.as_slice.result.now) ∙ ap (λ ds. list_has ds c.args.det) c.as_slice.ensures
