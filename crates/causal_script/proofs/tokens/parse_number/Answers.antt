use Rattle.std.proofs.Common.{◌≡◌, true, leb, refl, ap, sym, ◌∙◌, arith}
use Rattle.std.proofs.lemmas.Bool.Decides.{nat_tests}
use Rattle.causal_script.proofs.Numbers.{within, parsed_word, no_text}
use Rattle.causal_script.proofs.tokens.parse_number.Goals as goal

pub returns-in_default-clause-value : goal.returns-in_default-clause-value
returns-in_default-clause-value c = sym (no_text c.args.limit c.args.word.now (omega arith) c.in_default.ensures.cases.0)

pub returns-in-Ok-parse-clause-value : goal.returns-in-Ok-parse-clause-value
returns-in-Ok-parse-clause-value c =
    let spells = parsed_word c.args.limit _ c.args.word.now _ c.parse.result (omega arith) c.in_ok-first.ensures.value c.if-first-eq43.false c.if-word-gt1.either c.in-Ok.ensures.cases.0 c.parse.ensures.value.0 in
    let fits : leb c.in-Ok-parse.number c.args.limit ≡ true = grind (arith, nat_tests) in
    sym (spells ∙ ap (within c.args.limit) c.in-Ok-parse.is ∙ rw fits refl)

pub returns-in_default-parse-2-clause-value : goal.returns-in_default-parse-2-clause-value
returns-in_default-parse-2-clause-value c =
    let spells = parsed_word c.args.limit _ c.args.word.now _ c.parse.result (omega arith) c.in_ok-first.ensures.value c.if-first-eq43.false c.if-word-gt1.either c.in-Ok.ensures.cases.0 c.parse.ensures.value.0 in
    sym (spells ∙ ap (within c.args.limit) c.in_default-parse.is)
