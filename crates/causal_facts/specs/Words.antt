-- The words for the kinds of facts.
use Rattle.std.specs.Prelude.{ℕ, List, codes}
use Rattle.causal_facts.specs.declared.fact.Fact.{Fact}
use Rattle.causal_facts.specs.declared.fact.Fact.TheVariants as fact

-- the word for the kind of a fact
abbrev pub word_of : Fact → List ℕ
word_of (fact.Down down) = codes "down"
word_of (fact.Delivery delivery det) = codes "delivery"
word_of (fact.Cause instant cause) = codes "cause"
word_of (fact.Unstable instant) = codes "unstable"
word_of (fact.Holder holding) = codes "holder"
word_of fact.NoHolder = codes "holder"
word_of (fact.Loss loss) = codes "loss"
word_of (fact.Crash process) = codes "crash"
word_of (fact.Chain position event) = codes "chain"
word_of (fact.Unlisted position event is_own) = codes "unlisted"
word_of fact.Listed = codes "listed"
word_of (fact.Underway position send to) = codes "underway"
word_of (fact.Orphan process) = codes "orphan"
word_of (fact.Closest closest) = codes "closest"
word_of fact.Never = codes "closest"
word_of (fact.Strayed stray) = codes "strayed"
word_of (fact.Logged delivery holding) = codes "logged"
word_of (fact.Stable delivery) = codes "stable"
