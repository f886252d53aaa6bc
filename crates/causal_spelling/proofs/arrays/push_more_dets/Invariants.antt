use Rattle.std.proofs.Common.{◌≡◌, ◌++◌, drop, string_bytes}
use Rattle.causal_spelling.specs.Spelling.{more_dets_text}
use Rattle.causal_spelling.proofs.arrays.push_more_dets.Given as goal

abbrev pub invariant-loop-det : goal.invariant-loop-det
invariant-loop-det l = string_bytes l.fn.out ++ more_dets_text l.dets ≡ string_bytes l.out ++ more_dets_text (drop l.det-index l.dets)
