use Rattle.std.proofs.lemmas.Grind.{common_steps}
use Rattle.causal_audit.proofs.Common.{sym, ap, subst, refl, ◌∙◌, arith, length-set, ◌+◌}
use Rattle.causal_audit.specs.Inside.Index.Lists.{with_added}
use Rattle.causal_audit.specs.Inside.Index.Packed.{HasSpareCapacity, ListsWithCapacities}
use Rattle.causal_audit.proofs.index.PackedSpans.{IsAdded, added}
use Rattle.causal_audit.proofs.index.packed_lists.PackedListsBuilder.add.Goals as goal
use Rattle.causal_audit.proofs.index.packed_lists.PackedListsBuilder.add.Goals.{After-index}

here : (c : After-index) → IsAdded c.self.inside.positions.items c.self.inside.spans.items c.args.number c.args.position c.index.result.now (record { begin = c.index.result.now.begin; end = c.index.result.now.end + 1 })
here c = added _ _ _ _ _ _ c.self.invariant.0 (subst (λ v. HasSpareCapacity v c.args.number) (sym c.self.view_is) c.requires) c.index.ensures refl refl

pub index_mut-requires : goal.index_mut-requires
index_mut-requires c = grind (arith, common_steps, (here (goal.at.index_mut-requires c).After-index).within)

pub overflow_add-end : goal.overflow_add-end
overflow_add-end c = omega (arith, (here (goal.at.overflow_add-end c).After-index).within, c.self.invariant.1)

pub invariant_of-self : goal.invariant_of-self
invariant_of-self c = ((here (goal.at.invariant_of-self c).After-index).packed, omega (arith, c.self.invariant.1, length-set c.self.inside.positions.items c.index.result.now.end c.args.position))

pub returns-clause-added : goal.returns-clause-added
returns-clause-added c = (here (goal.at.returns-clause-added c).After-index).lists ∙ ap (λ (v : ListsWithCapacities). with_added v.lists c.args.number c.args.position) c.self.view_is

pub returns-clause-capacities : goal.returns-clause-capacities
returns-clause-capacities c = (here (goal.at.returns-clause-capacities c).After-index).capacities ∙ ap (λ (v : ListsWithCapacities). v.capacities) c.self.view_is
