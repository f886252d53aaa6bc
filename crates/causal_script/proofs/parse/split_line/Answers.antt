use Rattle.std.proofs.Common.{sym, arith}
use Rattle.std.proofs.lemmas.Bool.Decides.{nat_tests}
use Rattle.causal_script.proofs.Numbers.{cut_shorter}
use Rattle.causal_script.proofs.Texts.{lines_cut, lines_last}
use Rattle.causal_script.proofs.parse.split_line.Goals as goal

pub returns-in-Some-clause-parts : goal.returns-in-Some-clause-parts
returns-in-Some-clause-parts c = lines_cut c.args.text.now (c.in-Some.line.now, c.in-Some.after.now) (sym c.in-Some.ensures)

pub returns-in-Some-clause-shorter : goal.returns-in-Some-clause-shorter
returns-in-Some-clause-shorter c = cut_shorter 10 c.args.text.now (c.in-Some.line.now, c.in-Some.after.now) (sym c.in-Some.ensures)

pub returns-in-None-clause-parts : goal.returns-in-None-clause-parts
returns-in-None-clause-parts c = grind (arith, nat_tests, lines_last)
