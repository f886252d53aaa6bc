use Rattle.std.proofs.Common.{◌≡◌, refl}
use Rattle.std.specs.Prelude.{ℕ, Option, None, Some}
use Rattle.std.proofs.lemmas.Bool.{both_ways}
use Rattle.causal_shared.specs.declared.fault.FinishFault.{FinishFault}
use Rattle.causal_shared.specs.declared.fault.FinishFault.TheVariants.{Missing, Mismatch, Opening}
use Rattle.causal_shared.proofs.shared.finish_fault.Goals as goal

-- different errors, and none, are apart
missing_mismatch : (n : ℕ) → ◌≡◌ {A = Option FinishFault} (Some Missing) (Some (Mismatch n)) → ⊥
missing_mismatch n e = cc

missing_opening : ◌≡◌ {A = Option FinishFault} (Some Missing) (Some Opening) → ⊥
missing_opening e = cc

mismatch_missing : (n : ℕ) → ◌≡◌ {A = Option FinishFault} (Some (Mismatch n)) (Some Missing) → ⊥
mismatch_missing n e = cc

mismatch_opening : (n : ℕ) → ◌≡◌ {A = Option FinishFault} (Some (Mismatch n)) (Some Opening) → ⊥
mismatch_opening n e = cc

opening_missing : ◌≡◌ {A = Option FinishFault} (Some Opening) (Some Missing) → ⊥
opening_missing e = cc

opening_mismatch : (n : ℕ) → ◌≡◌ {A = Option FinishFault} (Some Opening) (Some (Mismatch n)) → ⊥
opening_mismatch n e = cc

none_some : (fault : FinishFault) → ◌≡◌ {A = Option FinishFault} None (Some fault) → ⊥
none_some fault e = cc

pub returns-clause-settled : goal.returns-clause-settled
returns-clause-settled g c = record {
  complete = c.is_complete.ensures.0 c.if-not-is_complete.false;
  agree = rw c.history.ensures at c.in_default.ensures.none;
  seated = rw c.history-2.ensures at (c.all_have_seats.ensures.0 c.if-not-all_have_seats.false);
  begins = rw (c.core.ensures, c.history-3.ensures) at (c.is_opening.ensures.0 c.if-not-is_opening.false);
}

pub returns-then-not-is_complete-clause-missing : goal.returns-then-not-is_complete-clause-missing
returns-then-not-is_complete-clause-missing g c = (λ _ all. both_ways _ c.if-not-is_complete.true (c.is_complete.ensures.1 all), λ _. refl)

pub returns-then-not-is_complete-clause-mismatch : goal.returns-then-not-is_complete-clause-mismatch
returns-then-not-is_complete-clause-mismatch g c = λ n e. absurd (missing_mismatch n e)

pub returns-then-not-is_complete-clause-opened : goal.returns-then-not-is_complete-clause-opened
returns-then-not-is_complete-clause-opened g c = λ e. absurd (missing_opening e)

pub returns-in-Some-clause-missing : goal.returns-in-Some-clause-missing
returns-in-Some-clause-missing g c = (λ e. absurd (mismatch_missing _ e), λ no. absurd (no (c.is_complete.ensures.0 c.if-not-is_complete.false)))

pub returns-in-Some-clause-opened : goal.returns-in-Some-clause-opened
returns-in-Some-clause-opened g c = λ e. absurd (mismatch_opening _ e)

pub returns-then-not-all_have_seats-clause-missing : goal.returns-then-not-all_have_seats-clause-missing
returns-then-not-all_have_seats-clause-missing g c = (λ e. absurd (mismatch_missing _ e), λ no. absurd (no (c.is_complete.ensures.0 c.if-not-is_complete.false)))

pub returns-then-not-all_have_seats-clause-opened : goal.returns-then-not-all_have_seats-clause-opened
returns-then-not-all_have_seats-clause-opened g c = λ e. absurd (mismatch_opening _ e)

pub returns-then-not-is_opening-clause-missing : goal.returns-then-not-is_opening-clause-missing
returns-then-not-is_opening-clause-missing g c = (λ e. absurd (opening_missing e), λ no. absurd (no (c.is_complete.ensures.0 c.if-not-is_complete.false)))

pub returns-then-not-is_opening-clause-mismatch : goal.returns-then-not-is_opening-clause-mismatch
returns-then-not-is_opening-clause-mismatch g c = λ n e. absurd (opening_mismatch n e)

pub returns-clause-missing : goal.returns-clause-missing
returns-clause-missing g c = (λ e. absurd (none_some _ e), λ no. absurd (no (c.is_complete.ensures.0 c.if-not-is_complete.false)))

pub returns-clause-mismatch : goal.returns-clause-mismatch
returns-clause-mismatch g c = λ n e. absurd (none_some _ e)

pub returns-clause-opened : goal.returns-clause-opened
returns-clause-opened g c = λ e. absurd (none_some _ e)
