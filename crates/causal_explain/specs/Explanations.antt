-- What an explanation of a breach states of the run.
use Rattle.std.specs.Prelude.{◌≡◌, false, Some}
use Rattle.causal_trace.specs.Past.{det_at, is_stable}
use Rattle.causal_trace.specs.Past as past
use Rattle.causal_trace.specs.Rows.{Recording}
use Rattle.causal_audit.specs.declared.breach.Breach.{Breach}
use Rattle.causal_explain.specs.declared.explanation.Explanation.{Explanation}
use Rattle.causal_explain.specs.Chains.{IsShortestChain, first_lacking}
use Rattle.causal_explain.specs.ProcessFacts.{AreDown, AreHoldings, AreLosses}
use Rattle.causal_explain.specs.Underway.{FirstUnderway}

-- All facts but the last are those at the breach's instant. The delivery, the crash set and the orphan are the breach's.
-- The determinant is the delivery's, and not stable. The lists of holders, losses and down processes are complete, and
-- the chain is a shortest.
pub record IsExplanation (r : Recording) (b : Breach) (x : Explanation) : Type 0 where
  pub delivery : x.delivery ≡ b.delivery
  pub instant : x.instant ≡ b.instant
  pub crash : x.crash ≡ b.crash
  pub orphan : x.orphan ≡ b.orphan
  pub det : det_at r.past b.delivery ≡ Some x.det
  pub unstable : is_stable (past.instant r.past b.instant) x.det ≡ false
  pub holders : AreHoldings r.processes (past.instant r.past b.instant) x.det x.holders.items
  pub losses : AreLosses r.processes (past.instant r.past b.instant) x.det x.losses.items
  pub down : AreDown r.processes (past.instant r.past b.instant) x.down.items
  pub chain : IsShortestChain (past.instant r.past b.instant) b.delivery b.orphan x.chain.items
  pub unlisted : x.unlisted ≡ first_lacking (past.instant r.past b.instant) x.det x.chain.items
  pub underway : FirstUnderway r.past b.instant x.det x.unlisted x.underway
