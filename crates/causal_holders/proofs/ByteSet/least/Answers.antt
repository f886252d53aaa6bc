use Rattle.std.proofs.Common.{List, Option, ℕ, ◌≡◌, ◌<◌, length, rules, tests, None, Some, arith, subst, sym, ◌∙◌}
use Rattle.std.specs.Prelude.{MatchOption}
use Rattle.std.specs.List.{AllWithin, HoldsAt}
use Rattle.std.proofs.lemmas.Iterator.{IsFirst-from_position, YieldsList-from_slice}
use Rattle.causal_holders.proofs.Words.{shown_empty, lowest}
use Rattle.causal_holders.proofs.ByteSet.least.Goals as goal

-- the result of the search for a word that is not 0
abbrev FirstUsed : List ℕ → Option ℕ → Type 0
FirstUsed words r =
    MatchOption r (AllWithin (λ w. w ≡ 0) words 0 (length words)) (λ i. (i < length words) × HoldsAt (λ w. 0 < w) words i × AllWithin (λ w. w ≡ 0) words 0 i)

pub returns-in_err-word : goal.returns-in_err-word
returns-in_err-word c =
    let first : FirstUsed c.self.inside.words c.position.result = IsFirst-from_position _ _ c.position.result (λ w. 0 < w) (λ w. w ≡ 0) c.position.ensures.ran (YieldsList-from_slice c.self.inside.words cc) (λ x q k. search (rules, tests)) (λ x q k. search (rules, tests)) in
    let none : FirstUsed c.self.inside.words None = subst (FirstUsed c.self.inside.words) c.in_err-word.was first in
    rw c.from_residual.ensures (sym c.self.view_is ∙ shown_empty c.self.inside.words (λ i below. none i 0 (omega arith) (omega (arith, c.self.invariant.count))))

pub returns : goal.returns
returns c =
    let first : FirstUsed c.self.inside.words c.position.result = IsFirst-from_position _ _ c.position.result (λ w. 0 < w) (λ w. w ≡ 0) c.position.ensures.ran (YieldsList-from_slice c.self.inside.words cc) (λ x q k. search (rules, tests)) (λ x q k. search (rules, tests)) in
    let some : FirstUsed c.self.inside.words (Some c.in_ok-word.word) = subst (FirstUsed c.self.inside.words) c.in_ok-word.was first in
    rw (← c.self.view_is) (lowest c.self.inside.words c.in_ok-word.word c.self.invariant (omega (arith, some.0, c.self.invariant.count)) (some.1 0) (λ k before. some.2 k 0 (omega arith) before))
