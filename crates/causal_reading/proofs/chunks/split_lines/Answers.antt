use Rattle.std.proofs.Common.{arith, ◌++◌, ◌∙◌, ap, sym, refl, take, length-drop}
use Rattle.std.proofs.lemmas.List.{take-append-drop}
use Rattle.causal_reading.proofs.LineLemmas.{split_there}
use Rattle.causal_reading.proofs.chunks.split_lines.Goals as goal

pub returns-in-Some-clause-parts : goal.returns-in-Some-clause-parts
returns-in-Some-clause-parts c =
    let bytes = c.args.bytes.now in
    let some = c.in-Some.ensures.some in
    let whole = sym (take-append-drop c.args.at bytes) ∙ ap (λ xs. take c.args.at bytes ++ xs) (sym c.split_at.ensures.back ∙ some.1) in
    split_there bytes (take c.args.at bytes) _ c.in-Some.after.now _ _ _ some.0 whole refl c.split_at-in-Some.ensures.front c.split_at-in-Some.ensures.back

pub returns-in-Some-clause-shorter : goal.returns-in-Some-clause-shorter
returns-in-Some-clause-shorter c = grind (arith, length-drop)
