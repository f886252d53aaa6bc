use Rattle.causal_audit.proofs.Common.{◌≡◌, arith, subst}
use Rattle.causal_audit.specs.Searches.{SearchScope, IncludeUnsafe, search_scope}
use Rattle.causal_audit.specs.Inside.Group.OpenDeliveries.{positions_of}
use Rattle.causal_audit.proofs.indexed_run.IndexedRun.open_deliveries.Goals as goal

pub returns : goal.returns
returns c =
    let s = c.self.inside in
    let r = c.args.trace.now.recording in
    let scopes : search_scope r s.f s.end ≡ c.args.self.now = grind arith in
    rw c.of.ensures (record {
      of = scopes;
      all = subst (λ (a : SearchScope). IncludeUnsafe a c.args.from c.args.to (positions_of c.in_ok-candidates.candidates.items)) scopes c.in_ok-candidates.ensures.all;
    })
