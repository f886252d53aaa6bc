use Rattle.std.proofs.Common.{eqb, Some, None, refl, rules, tests}
use Rattle.std.proofs.lemmas.Iterator.{YieldsList-from_slice}
use Rattle.std.proofs.lemmas.Iterator.Search.{position_from_yields_List}
use Rattle.causal_script.proofs.Numbers.{cut_found, cut_slices}
use Rattle.causal_script.proofs.tokens.split_at_byte.Goals as goal

pub returns-in_err-at : goal.returns-in_err-at
returns-in_err-at c =
    let found = position_from_yields_List (λ b. eqb b c.args.byte) _ _ c.position.result c.position.ensures.ran (YieldsList-from_slice c.args.text.now cc) (λ x b q k. search (rules, tests)) in
    let none = cut_found c.args.byte c.args.text.now c.position.result None found cc in
    rw (c.from_residual.ensures, none) refl

pub returns : goal.returns
returns c =
    let found = position_from_yields_List (λ b. eqb b c.args.byte) _ _ c.position.result c.position.ensures.ran (YieldsList-from_slice c.args.text.now cc) (λ x b q k. search (rules, tests)) in
    let at = cut_found c.args.byte c.args.text.now c.position.result (Some c.in_ok-at.at) found cc in
    cut_slices c.args.byte c.args.text.now c.split_at.result.0.now c.split_at.result.1.now c.in_ok-at.at c.split_at.ensures.front c.split_at.ensures.back at
