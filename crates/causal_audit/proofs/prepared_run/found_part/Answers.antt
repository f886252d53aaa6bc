use Rattle.causal_audit.proofs.Common.{◌≡◌, subst, arith, IsWellFormed}
use Rattle.causal_audit.specs.Parts.{AreSufficient}
use Rattle.causal_audit.specs.Searches.{SearchScope, search_scope}
use Rattle.causal_audit.specs.Inside.Group.OpenDeliveries.{AreAllOpen, AreFollowed}
use Rattle.causal_audit.proofs.prepared_run.WholeSearch.{all_found, followed_in, sufficient}
use Rattle.causal_audit.proofs.prepared_run.found_part.Goals as goal

formed : (c : goal.After-as_slice) → IsWellFormed c.args.indexed.now.run
formed c = subst (λ (a : SearchScope). IsWellFormed a.run) c.indexed.view_is c.indexed.invariant.searched.formed

all_open : (c : goal.After-as_slice) → AreAllOpen c.args.indexed.now c.as_slice.result.now
all_open c = rw c.as_slice.ensures.value (all_found c.args.indexed.now _ _ c.args.found.now c.found.view_is c.requires.found c.found.invariant (formed c))

scopes : (c : goal.After-as_slice) → c.args.indexed.now ≡ search_scope c.args.trace.now.recording c.indexed.inside.f c.indexed.inside.end
scopes c = grind arith

pub invariant_of-result : goal.invariant_of-result
invariant_of-result c = (subst (λ a. AreFollowed a c.as_slice.result.now) (scopes c) (all_open c).followed, omega arith)

pub returns : goal.returns
returns c =
    subst (λ a. AreSufficient c.args.indexed.now.run c.args.indexed.now.f c.args.indexed.now.end (followed_in a c.as_slice.result.now)) (scopes c)
    (sufficient c.args.indexed.now c.as_slice.result.now (formed c) (all_open c))
