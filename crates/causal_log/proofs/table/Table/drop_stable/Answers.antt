use Rattle.std.proofs.Common.{◌≡◌, ◌∙◌, not, filter, ap, rules, arith}
use Rattle.causal_log.proofs.TableLemmas.{filtered_table, values_filter}
use Rattle.std.specs.Map.{values_of}
use Rattle.indexmap.proofs.CallerLemmas.{filter-RetainsPairs}
use Rattle.causal_log.proofs.table.Table.drop_stable.Goals as goal
use Rattle.causal_log.proofs.table.Table.drop_stable.Goals.{After-retain}

left : (c : After-retain) → c.retain.new.self.entries ≡ filter (λ e. not e.1.1.stable) c.self.inside.entries.entries
left c = filter-RetainsPairs _ (λ e. not e.1.1.stable) _ (λ k v b w g call. search rules) _ _ c.retain.ensures.filtered

pub invariant_of-self : goal.invariant_of-self
invariant_of-self c =
    filtered_table _ _ (λ e. not e.1.stable) _ _ _ _ _ c.self.invariant (left (goal.at.invariant_of-self c).After-retain) (omega (arith, c.retain.ensures.bound)) (omega (arith, c.retain.ensures.room.0, c.self.invariant.entries_fit))

pub returns-clause-left : goal.returns-clause-left
returns-clause-left c = ap values_of (left (goal.at.returns-clause-left c).After-retain) ∙ values_filter (λ e. not e.1.stable) c.self.inside.entries.entries ∙ ap (λ t. filter (λ e. not e.1.stable) t.entries) c.self.view_is
