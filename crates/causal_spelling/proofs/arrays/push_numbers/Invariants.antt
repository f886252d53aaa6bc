use Rattle.std.proofs.Common.{◌≡◌, ◌++◌, drop, string_bytes}
use Rattle.causal_spelling.specs.Spelling.{numbers_text}
use Rattle.causal_spelling.proofs.arrays.push_numbers.Given as goal

abbrev pub invariant-loop-number : goal.invariant-loop-number
invariant-loop-number l = string_bytes l.fn.out ++ numbers_text l.numbers l.end ≡ string_bytes l.out ++ numbers_text (drop l.number-index l.numbers) l.end
