use Rattle.std.proofs.Common.{not, arith}
use Rattle.std.specs.FinMap as fin
use Rattle.std.proofs.lemmas.List.{length-map}
use Rattle.causal_log.specs.Logs.{log_of}
use Rattle.causal_log.proofs.Lemmas.Ascents.{filter_ascends}
use Rattle.causal_log.proofs.Lemmas.LogLists.{stable_and_unstable}
use Rattle.causal_log.proofs.EntryLemmas.{own_entries}
use Rattle.causal_log.proofs.PlaceLemmas.{same_passing, same_count, same_length}
use Rattle.causal_log.proofs.log.Log.drop_stable.Goals as goal

pub invariant_of-self : goal.invariant_of-self
invariant_of-self c = record { ascending = λ h. grind (arith, own_entries c.self.inside.entries.entries, filter_ascends (λ e. not e.1.stable) (log_of c.self.inside.entries.entries)); carries = tt }

-- the entries left are those of the map without the marked ones
pub returns-clause-left : goal.returns-clause-left
returns-clause-left c = grind (arith, same_passing c.self.inside.entries.entries c.drop_stable.ensures.distinct (λ e. not e.1.stable))

pub returns-clause-count : goal.returns-clause-count
returns-clause-count c =
    let es = c.self.inside.entries.entries in
    grind (arith, same_count es c.drop_stable.ensures.distinct (λ known. not known.stable), same_length es, fin.len-entries, length-map, stable_and_unstable (log_of es))
