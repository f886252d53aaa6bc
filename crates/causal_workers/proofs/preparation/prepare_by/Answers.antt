use Rattle.std.proofs.Common.{ap, subst, ◌∙◌}
use Rattle.causal_audit.specs.Parts.{AreSufficient}
use Rattle.causal_audit.specs.Searches.{SearchScope}
use Rattle.causal_workers.proofs.preparation.prepare_by.Goals as goal

pub returns-clause-run : goal.returns-clause-run
returns-clause-run g c = c.in_ok-prepared.ensures.run ∙ ap (λ (s : SearchScope). s.run) c.in_ok-indexed.ensures.2

pub returns-clause-sufficient : goal.returns-clause-sufficient
returns-clause-sufficient g c =
    let scope = c.in_ok-indexed.ensures in
    (scope.0, scope.1, subst (λ (s : SearchScope). AreSufficient s.run s.f s.end c.in_ok-prepared.prepared) scope.2 c.in_ok-prepared.ensures.sufficient)
