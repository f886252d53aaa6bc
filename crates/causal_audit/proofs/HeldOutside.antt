-- An instant is safe exactly if the determinants on which survivors depend are held outside each crash set.
use Rattle.causal_audit.proofs.Common.{ℕ, ◌≡◌, ◌<◌, true, false, List, arith, cases_Bool, nat_tests, Entry, logs, is_stable, IsSafe}
use Rattle.causal_audit.specs.HeldOutside.{IsHeldOutsideCrashSets, SafeIffHeld}
use Rattle.causal_audit.proofs.Swept.{some_below, both_known, known_bool}

held : (n f : ℕ) (past : List Entry) → IsSafe n f past → IsHeldOutsideCrashSets n f past
held n f past safe crash k p d may_crash at process survives depends =
    let none : is_stable past d ≡ false → ((q : ℕ) → q < n → crash q ≡ false → logs past q d ≡ false) → ⊥ = λ unstable lost.
    safe.no_orphan k (record {
      crash = crash;
      orphan = p;
      may_crash = may_crash;
      is_orphan = record { process = process; depends = depends; survives = survives; det = d; delivered = at; unstable = unstable; lost = lost };
    }) in
    grind (arith, none, cases_Bool (is_stable past d), some_below (λ q. (crash q ≡ false) × (logs past q d ≡ true)) n (λ q _. both_known (known_bool (crash q) false) (known_bool (logs past q d) true)), nat_tests)

pub safe_is_held : SafeIffHeld
safe_is_held n f past = (
  λ safe. (safe.few_down, held n f past safe),
  λ both. record {
    few_down = both.0;
    no_orphan = λ k has.
        let o = has.is_orphan in
        grind (arith, both.1 has.crash k has.orphan o.det has.may_crash o.delivered o.process o.survives o.depends);
  },
)
