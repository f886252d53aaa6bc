-- The entry by which an instant fails, and what it does.
-- A state lists its newest entry first.
use Rattle.std.specs.Prelude.{◌≡◌, ℕ, ◌<◌, ◌≤◌, true, false, List, ◌∷◌, Option, None, Some, MatchOption}
use Rattle.causal_name.specs.declared.Det.{Det}
use Rattle.causal_name.specs.Sets.{any_below, count_below}
use Rattle.causal_trace.specs.declared.entry.Entry.{Entry}
use Rattle.causal_trace.specs.declared.entry.Entry.TheVariants.{Deliver, Crash, Restart, Forget}
use Rattle.causal_trace.specs.Dependence.{Depends}
use Rattle.causal_trace.specs.Past.{instant, det_at, list_has, is_down, is_stable, logs}
use Rattle.causal_trace.specs.Rows.{Recording}
use Rattle.causal_audit.specs.declared.verdict.Verdict.{Verdict}
use Rattle.causal_audit.specs.declared.verdict.Verdict.TheVariants.{Accept, Exceeded, Orphan}
use Rattle.causal_facts.specs.declared.cause.Cause.{Cause}
use Rattle.causal_facts.specs.declared.cause.Cause.TheVariants as cause

-- by one more entry p newly depends on the delivery k, and its volatile log lacks k's determinant d
pub record ComesToDepend (e : Entry) (past : List Entry) (k : ℕ) (d : Det) (p : ℕ) : Type 0 where
  pub before : Depends past k p → ⊥
  pub after : Depends (e ∷ past) k p
  pub lacks : logs (e ∷ past) p d ≡ false

-- a restart gathered too little: it does not list d, which some process holds
pub record GathersTooLittle (n : ℕ) (past : List Entry) (listed : List Det) (d : Det) : Type 0 where
  pub unlisted : list_has listed d ≡ false
  pub held : any_below n (λ q. logs past q d) ≡ true

-- by one more entry q forgets d, which it holds and which is not stable
pub record ForgetsUnstable (e : Entry) (past : List Entry) (d : Det) (q : ℕ) : Type 0 where
  pub holds : logs past q d ≡ true
  pub forgets : logs (e ∷ past) q d ≡ false
  pub unstable : is_stable past d ≡ false

-- by one more entry more than f processes are down, and not before it
pub record CrashesTooMany (n f : ℕ) (e : Entry) (past : List Entry) : Type 0 where
  pub before : count_below n (is_down past) ≤ f
  pub after : f < count_below n (is_down (e ∷ past))

-- by this cause, the newest entry, the delivery k, whose determinant is d, comes to have the orphan p. Either p
-- delivers, or a process restarts or forgets. No other kind of entry makes an orphan
abbrev pub MakesOrphan : ℕ → List Entry → ℕ → Det → ℕ → Cause → Type 0
MakesOrphan n (Deliver to send rsn listed ∷ past) k d p c =
    (c ≡ cause.Delivery to.0 send) × (p ≡ to.0) × ComesToDepend (Deliver to send rsn listed) past k d p
MakesOrphan n (Restart who listed ∷ past) k d p c = (c ≡ cause.Restart who.0) × GathersTooLittle n past listed d
MakesOrphan n (Forget who listed ∷ past) k d p c = (c ≡ cause.Forgetting who.0) × ForgetsUnstable (Forget who listed) past d who.0
MakesOrphan n _ k d p c = ⊥

-- by this cause, the newest entry, more than f processes are down: it is a crash
abbrev pub MakesExcess : ℕ → ℕ → List Entry → Cause → Type 0
MakesExcess n f (Crash who ∷ past) c = (c ≡ cause.Crash who.0) × CrashesTooMany n f (Crash who) past
MakesExcess n f _ c = ⊥

-- the cause by which the instant of a verdict fails; None for `Accept` only
abbrev pub IsCauseOf : Recording → ℕ → Verdict → Option Cause → Type 0
IsCauseOf r f Accept found = found ≡ None
IsCauseOf r f (Exceeded t down) found = MatchOption found ⊥ (MakesExcess r.processes f (instant r.past t))
IsCauseOf r f (Orphan t k crash orphan) found =
    MatchOption found ⊥ (λ c. (d : Det) × (det_at r.past k ≡ Some d) × MakesOrphan r.processes (instant r.past t) k d orphan c)
