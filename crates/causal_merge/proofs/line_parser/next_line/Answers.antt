use Rattle.std.proofs.Common.{arith}
use Rattle.std.proofs.lemmas.Result.{err_from_is_err_and}
use Rattle.causal_merge.proofs.LineLemmas.{if_ok_or_not, next_line-checked, next_line-refused}
use Rattle.causal_merge.proofs.line_parser.next_line.Goals as goal

pub returns : goal.returns
returns c =
    let within = rw c.max_input_len.ensures.value at c.if-end-max_input_len.false in
    record {
      value = next_line-checked c.args.limits.entries c.args.first c.args.end c.args.line.now within _ _ c.in_ok-said.ensures.value c.check_header.ensures.value;
      sound = c.check_header.ensures.sound;
      within = if_ok_or_not c.check_header.result (omega (arith, c.if-end-max_input_len.false, c.max_input_len.ensures.few));
    }

pub returns-in_err-said : goal.returns-in_err-said
returns-in_err-said c =
    let p = err_from_is_err_and c.from_residual.result c.from_residual.ensures.1 in
    let within = rw c.max_input_len.ensures.value at c.if-end-max_input_len.false in
    rw (p.1, p.2) (record {
      value = next_line-refused c.args.limits.entries c.args.first c.args.end c.args.line.now within _ c.in_err-said.ensures.value;
      sound = tt;
      within = tt;
    })
