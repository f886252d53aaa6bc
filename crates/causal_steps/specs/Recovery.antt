-- What a down process must recover, and which determinants no crash that f allows can lose.
use Rattle.std.specs.Prelude.{◌≡◌, ℕ, ◌<◌, Bool, true, false, not, ◌==◌, ◌&&◌, ◌||◌, List, [], ◌∷◌, ◌⊎◌}
use Rattle.causal_name.specs.declared.Det.{Det}
use Rattle.causal_name.specs.Sets.{count_below}
use Rattle.causal_trace.specs.declared.entry.Entry.{Entry}
use Rattle.causal_trace.specs.declared.entry.Entry.TheVariants.{Deliver, Crash, Restart}
use Rattle.causal_trace.specs.Past.{logs, is_stable, det_of, is_det}

-- whether an entry is a delivery of d to a process that neither logs d nor finds it in stable storage: then d is not
-- a repeated delivery's, but a new one's
abbrev pub delivers_as_new : List Entry → ℕ → Entry → Det → Bool
delivers_as_new past to e d = is_det (det_of past e) d && not (logs past to d || is_stable past d)

-- whether p is down and has to recover d: its last lane logged d when it crashed, and d was not delivered as new
-- since
abbrev pub must_recover : List Entry → ℕ → Det → Bool
must_recover [] p d = false
must_recover (Deliver to send rsn listed ∷ past) p d = not (delivers_as_new past to.0 (Deliver to send rsn listed) d) && must_recover past p d
must_recover (Crash who ∷ past) p d = (who.0 == p && logs past p d) || must_recover past p d
must_recover (Restart who listed ∷ past) p d = not (who.0 == p) && must_recover past p d
must_recover (_ ∷ past) p d = must_recover past p d

-- p logs d, or has to recover it
abbrev pub counts_as_holder : List Entry → Det → ℕ → Bool
counts_as_holder past d p = logs past p d || must_recover past p d

-- no crash that f allows can lose d: it is stable, or more than f processes count as its holders
abbrev pub IsRecoverable : ℕ → ℕ → List Entry → Det → Type 0
IsRecoverable n f past d = (is_stable past d ≡ true) ⊎ (f < count_below n (counts_as_holder past d))

-- q counts as a holder of d, or d is stable
abbrev pub HasOrRecovers : List Entry → Det → ℕ → Type 0
HasOrRecovers past d q = (is_stable past d ≡ true) ⊎ (counts_as_holder past d q ≡ true)
