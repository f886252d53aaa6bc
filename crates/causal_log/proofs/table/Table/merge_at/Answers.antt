use Rattle.std.proofs.Common.{◌≡◌, ◌∙◌, unwrap_or, ap, sym}
use Rattle.std.specs.Map.{values_of}
use Rattle.causal_log.specs.Knowledge.{union_with}
use Rattle.causal_log.proofs.TableLemmas.{values_set, keys_set, set_table, set_log}
use Rattle.causal_log.proofs.table.Table.merge_at.Goals as goal

pub invariant_of-self : goal.invariant_of-self
invariant_of-self c =
    set_table c.self.inside.entries.entries c.args.place c.index_mut-entry.result.now c.union_with-entry.result _ _ _ _ c.self.invariant c.index_mut-entry.ensures.value

pub returns-clause-put : goal.returns-clause-put
returns-clause-put c = λ det was at.
    let there = rw (← c.self.view_is) at at in
    let one : c.index_mut-entry.result.now ≡ (det, was) = ap (λ o. unwrap_or o c.index_mut-entry.result.now) (sym c.index_mut-entry.ensures.value ∙ there) in
    rw (← c.self.view_is, c.union_with-entry.ensures, one) (set_log c.self.inside.entries.entries c.args.place det was (union_with was c.args.news) c.self.invariant.distinct there)

pub returns-clause-keys : goal.returns-clause-keys
returns-clause-keys c =
    rw (← c.self.view_is, values_set) (keys_set (values_of c.self.inside.entries.entries) c.args.place c.index_mut-entry.result.now c.union_with-entry.result c.index_mut-entry.ensures.value)
