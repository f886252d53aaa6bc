use Rattle.std.proofs.Common.{None, sym, ◌∙◌, arith}
use Rattle.std.proofs.lemmas.List.{get_or_read}
use Rattle.causal_explain.proofs.WayLemmas.{comes_within, step_back}
use Rattle.causal_explain.proofs.paths.previous_event.Goals as goal

pub returns-in-Some-Some : goal.returns-in-Some-Some
returns-in-Some-Some c past i n ways fewest =
    let found = c.in-Some-Some in
    let low = comes_within past i c.args.position _ fewest.comes in
    let read = get_or_read c.args.ways.now c.args.position found.field-0.now (omega (arith, low, ways.count)) found.ensures.lookup.1 None in
    step_back past i c.args.position n found.way (rw (sym read ∙ found.field-0-is) at (ways.each c.args.position low)) fewest

pub returns-in_default-2 : goal.returns-in_default-2
returns-in_default-2 c past i n ways fewest = grind (arith, comes_within)
