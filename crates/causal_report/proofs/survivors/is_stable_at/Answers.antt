use Rattle.std.proofs.Common.{ap, take, ◌∙◌}
use Rattle.std.specs.List.{list_any}
use Rattle.causal_report.specs.Inside.Storing.{stores}
use Rattle.causal_report.proofs.StoredLemmas.{stored_in}
use Rattle.causal_report.proofs.survivors.is_stable_at.Goals as goal

pub returns : goal.returns
returns c =
    c.any_stores.ensures ∙ ap (λ xs. list_any (stores c.args.det) (take c.args.end xs)) c.entries.ensures.value ∙ stored_in c.args.trace.now.recording.past c.args.end c.args.det c.requires
