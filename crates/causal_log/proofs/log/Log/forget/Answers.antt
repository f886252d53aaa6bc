use Rattle.std.proofs.Common.{not, arith}
use Rattle.causal_log.specs.Logs.{is_forgotten, log_of}
use Rattle.causal_log.proofs.Lemmas.Ascents.{filter_ascends}
use Rattle.causal_log.proofs.EntryLemmas.{own_entries}
use Rattle.causal_log.proofs.PlaceLemmas.{same_passing}
use Rattle.causal_log.proofs.log.Log.forget.Goals as goal

pub invariant_of-self : goal.invariant_of-self
invariant_of-self c = record { ascending = λ h. grind (arith, own_entries c.self.inside.entries.entries, filter_ascends (λ e. not (is_forgotten c.args.next e)) (log_of c.self.inside.entries.entries)); carries = tt }

-- the entries left are those of the map without the forgotten ones
pub returns-clause-left : goal.returns-clause-left
returns-clause-left c = grind (arith, same_passing c.self.inside.entries.entries c.forget.ensures.distinct (λ e. not (is_forgotten c.args.next e)))
