-- The endings after a verdict.
use Rattle.std.proofs.Common.{◌≡◌, ◌≢◌, ◌⊎◌, inl, inr, refl, sym, subst}
use Rattle.causal_audit.specs.declared.verdict.Verdict.{Verdict}
use Rattle.causal_audit.specs.declared.verdict.Verdict.TheVariants.{Accept, Exceeded, Orphan}
use Rattle.causal_outcomes.specs.declared.ended.Ended.{Ended}
use Rattle.causal_outcomes.specs.declared.ended.Ended.TheVariants.{Accepted, Breached}

accepts : (verdict : Verdict) → (verdict ≡ Accept) ⊎ (verdict ≢ Accept)
accepts Accept = inl refl
accepts (Exceeded instant down) = inr (λ same. cc)
accepts (Orphan instant delivery crash orphan) = inr (λ same. cc)

by_answer : (P : Ended → Type 0) (verdict : Verdict) (e : Ended) → (verdict ≡ Accept → e ≡ Accepted) → (verdict ≢ Accept → e ≡ Breached) → (verdict ≡ Accept → P Accepted) → (verdict ≢ Accept → P Breached)
    → (verdict ≡ Accept) ⊎ (verdict ≢ Accept) → P e
by_answer P verdict e accepted breached on_accept on_breach (inl accept) = subst P (sym (accepted accept)) (on_accept accept)
by_answer P verdict e accepted breached on_accept on_breach (inr breach) = subst P (sym (breached breach)) (on_breach breach)

-- a fact on the ending after a verdict, by the two endings that there are
pub by_verdict : (P : Ended → Type 0) (verdict : Verdict) (e : Ended) → (verdict ≡ Accept → e ≡ Accepted) → (verdict ≢ Accept → e ≡ Breached) → (verdict ≡ Accept → P Accepted) → (verdict ≢ Accept → P Breached) → P e
by_verdict P verdict e accepted breached on_accept on_breach = by_answer P verdict e accepted breached on_accept on_breach (accepts verdict)
