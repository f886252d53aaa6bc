-- Who has the determinant of a delivery at an instant.
use Rattle.std.specs.Prelude.{◌≡◌, ℕ, Bool, List, Some}
use Rattle.causal_name.specs.declared.Det.{Det}
use Rattle.causal_trace.specs.Past.{instant, det_at, is_stable}
use Rattle.causal_trace.specs.Rows.{Recording}
use Rattle.causal_facts.specs.declared.process_fact.Holding.{Holding}
use Rattle.causal_explain.specs.ProcessFacts.{AreHoldings}

-- who has the determinant of the delivery at position k at instant t: these processes, ascending, in their logs; and
-- whether stable storage has it
pub record AreSurvivorCopies (r : Recording) (t k : ℕ) (holdings : List Holding) (stable : Bool) : Type 0 where
  pub det : Det
  pub delivered : det_at r.past k ≡ Some det
  pub logged : AreHoldings r.processes (instant r.past t) det holdings
  pub stored : stable ≡ is_stable (instant r.past t) det
