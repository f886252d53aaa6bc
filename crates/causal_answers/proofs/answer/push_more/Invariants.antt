use Rattle.std.proofs.Common.{◌≡◌, ◌++◌, drop, flat_map, string_bytes}
use Rattle.causal_answers.specs.Answers.{next_fact}
use Rattle.causal_answers.proofs.answer.push_more.Given as goal

abbrev pub invariant-loop-fact : goal.invariant-loop-fact
invariant-loop-fact l = string_bytes l.fn.out ++ flat_map next_fact l.facts ≡ string_bytes l.out ++ flat_map next_fact (drop l.fact-index l.facts)
