use Rattle.std.proofs.Common.{◌≡◌, ◌∙◌, ap, sym}
use Rattle.std.specs.Prelude.{Option, Some, Result, Ok, Err}
use Rattle.causal_core.specs.CoreView.{core_run}
use Rattle.causal_protocol.proofs.Lemmas.KeptByType.{invariant_safe, invariant_single}
use Rattle.causal_shared.specs.declared.fault.FinishFault.{FinishFault}
use Rattle.causal_shared.proofs.Totals.{found, total_is}
use Rattle.causal_shared.proofs.shared.finish_core.Goals as goal

-- the same error is found and returned
told : {A : Type 0} (a b : FinishFault) → ◌≡◌ {A = Option FinishFault} (Some a) (Some b) → ◌≡◌ {A = Result A FinishFault} (Err a) (Err b)
told a b e = ap Err (let is : a ≡ b = cc e in is)

not_err : {A : Type 0} (x : A) (fault : FinishFault) → ◌≡◌ {A = Result A FinishFault} (Ok x) (Err fault) → ⊥
not_err x fault e = cc

pub returns-in-Some-clause-missing : goal.returns-in-Some-clause-missing
returns-in-Some-clause-missing g c =
    let missing = c.finish_fault.ensures.missing in (λ e. missing.0 (c.in-Some.is ∙ found _ _ e), λ no. told _ _ (sym c.in-Some.is ∙ missing.1 no))

pub returns-in-Some-clause-mismatch : goal.returns-in-Some-clause-mismatch
returns-in-Some-clause-mismatch g c = λ n e. c.finish_fault.ensures.mismatch n (c.in-Some.is ∙ found _ _ e)

pub returns-in-Some-clause-opened : goal.returns-in-Some-clause-opened
returns-in-Some-clause-opened g c = λ e. c.finish_fault.ensures.opened (c.in-Some.is ∙ found _ _ e)

pub returns-in-None-clause-safe : goal.returns-in-None-clause-safe
returns-in-None-clause-safe g c = invariant_safe (core_run c.into_parts-core.result.0) c.into_parts-core.result.0.invariant_holds

pub returns-in-None-clause-single : goal.returns-in-None-clause-single
returns-in-None-clause-single g c = invariant_single (core_run c.into_parts-core.result.0) c.into_parts-core.result.0.invariant_holds

pub returns-in-None-clause-opening : goal.returns-in-None-clause-opening
returns-in-None-clause-opening g c = rw (c.into_parts-core.ensures.run, c.into_parts-core.ensures.history) c.in-None.ensures.settled.begins

pub returns-in-None-clause-seats : goal.returns-in-None-clause-seats
returns-in-None-clause-seats g c = rw c.into_parts-core.ensures.history c.in-None.ensures.settled.agree

pub returns-in-None-clause-others : goal.returns-in-None-clause-others
returns-in-None-clause-others g c = rw c.into_parts-core.ensures.history c.in-None.ensures.settled.seated

pub returns-in-None-clause-total : goal.returns-in-None-clause-total
returns-in-None-clause-total g c =
    let settled = c.in-None.ensures.settled in rw c.into_parts-core.ensures.history (total_is c.args.seats.now _ settled.complete.once settled.seated settled.agree)

pub returns-in-None-clause-missing : goal.returns-in-None-clause-missing
returns-in-None-clause-missing g c = (λ e. absurd (not_err _ _ e), λ no. absurd (no c.in-None.ensures.settled.complete))

pub returns-in-None-clause-mismatch : goal.returns-in-None-clause-mismatch
returns-in-None-clause-mismatch g c = λ n e. absurd (not_err _ _ e)

pub returns-in-None-clause-opened : goal.returns-in-None-clause-opened
returns-in-None-clause-opened g c = λ e. absurd (not_err _ _ e)
