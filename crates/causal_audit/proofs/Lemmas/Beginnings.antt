-- A verdict on a prefix of a run, if it does not accept, is the verdict on the run.
use Rattle.causal_audit.proofs.Common.{ℕ, ◌≡◌, ◌≢◌, ◌≤◌, List, [], ◌∷◌, ◌++◌, length, length-append, refl, ◌∙◌, arith, Entry, instant, instants_stay}
use Rattle.causal_audit.specs.declared.verdict.Verdict.{Verdict}
use Rattle.causal_audit.specs.declared.verdict.Verdict.TheVariants.{Accept, Exceeded, Orphan}
use Rattle.causal_audit.specs.Verdicts.{IsFirstUnsafe, IsVerdict}
use Rattle.causal_audit.specs.Laws.{PrefixBreachIsFinal}

-- the instants of the prefix are those of the run
stay : (later past : List Entry) (t : ℕ) → t ≤ length past → instant (later ++ past) t ≡ instant past t
stay [] past t within = refl
stay (e ∷ later) past t within =
    instants_stay e (later ++ past) t (omega (arith, within, length-append later past)) ∙ stay later past t within

-- so the run is first unsafe at the same instant
first_stays : (n f : ℕ) (later past : List Entry) (t : ℕ) → IsFirstUnsafe (record { processes = n; past = past }) f t → IsFirstUnsafe (record { processes = n; past = later ++ past }) f t
first_stays n f later past t first = grind (arith, length-append, stay)

decides : (n f : ℕ) (later past : List Entry) (v : Verdict) → v ≢ Accept → IsVerdict (record { processes = n; past = past }) f v → IsVerdict (record { processes = n; past = later ++ past }) f v
decides n f later past Accept not is = absurd (not refl)
decides n f later past (Exceeded t down) not is = grind (arith, first_stays n f later past t is.0, stay later past t is.0.within)
decides n f later past (Orphan t k crash orphan) not is = grind (arith, first_stays n f later past t is.0, stay later past t is.0.within)

pub beginnings_decide : PrefixBreachIsFinal
beginnings_decide r whole later f v processes entries not is = grind (arith, decides r.processes f later r.past v not is)
