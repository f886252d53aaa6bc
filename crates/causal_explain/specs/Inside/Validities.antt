-- The invariant of `Validity`: whether a fact holds of each process, and since when.
use Rattle.std.specs.Prelude.{◌≡◌, ℕ, ◌<◌, not, Bool, true, false, List, ◌∷◌, length, slice_index_or}
use Rattle.causal_trace.specs.declared.entry.Entry.{Entry}
use Rattle.causal_trace.specs.Past.{instant}
use Rattle.causal_explain.specs.declared.validity.Change.{Change}
use Rattle.causal_explain.specs.declared.validity.Change.TheVariants.{Nothing, Begins, Ends}
use Rattle.causal_explain.specs.declared.validity.Span.{Span}
use Rattle.causal_explain.specs.declared.validity.Validity.{Validity}
use Rattle.causal_explain.specs.declared.validity.Validity.TheVariants.{Never, Holds, Ended}
use Rattle.causal_explain.specs.ProcessFacts.{HoldsSince, ever_holds}

-- the test held, and fails since a position
abbrev pub IsOverSince : List Entry → (List Entry → Bool) → ℕ → Type 0
IsOverSince past test s = HoldsSince past (λ state. not (test state)) s × (ever_holds test past ≡ true)

-- the test held in the span, and fails since its end
abbrev pub IsLastSpan : List Entry → (List Entry → Bool) → Span → Type 0
IsLastSpan past test span = IsOverSince past test span.to × HoldsSince (instant past span.to) test span.from

-- the test never held, or it holds since a position, or it held in a span and fails since its end
abbrev pub IsValidity : List Entry → (List Entry → Bool) → Validity → Type 0
IsValidity past test Never = ever_holds test past ≡ false
IsValidity past test (Holds since) = HoldsSince past test since
IsValidity past test (Ended span) = IsLastSpan past test span

-- each value is that of its process, by the process's test
abbrev pub AreValidities : List Entry → (ℕ → List Entry → Bool) → List Validity → Type 0
AreValidities past test standings = (p : ℕ) → p < length standings → IsValidity past (test p) (slice_index_or standings p Never)

-- how an entry changes the tests, whatever precedes it: not at all, or for one process, of which the fact then holds or
-- not
abbrev pub IsChangeOf : (ℕ → List Entry → Bool) → Entry → Change → Type 0
IsChangeOf test e Nothing = (past : List Entry) (p : ℕ) → test p (e ∷ past) ≡ test p past
IsChangeOf test e (Begins q) = (past : List Entry) → (test q (e ∷ past) ≡ true) × ((p : ℕ) → (p ≡ q → ⊥) → test p (e ∷ past) ≡ test p past)
IsChangeOf test e (Ends q) = (past : List Entry) → (test q (e ∷ past) ≡ false) × ((p : ℕ) → (p ≡ q → ⊥) → test p (e ∷ past) ≡ test p past)
