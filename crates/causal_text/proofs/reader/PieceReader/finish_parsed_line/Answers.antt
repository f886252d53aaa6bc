use Rattle.std.proofs.Common.{[]}
use Rattle.std.proofs.lemmas.Result.{err_from_is_err_and}
use Rattle.causal_text.proofs.LineSteps.{none_buffered, with_line-refused, with_line-read}
use Rattle.causal_text.proofs.reader.PieceReader.finish_parsed_line.Goals as goal

pub returns-then-not-is_empty : goal.returns-then-not-is_empty
returns-then-not-is_empty c = let e = c.finish_line.ensures in record { value = e.value; line = e.line; before = e.before }

pub returns-in_err-lines : goal.returns-in_err-lines
returns-in_err-lines c =
    let p = err_from_is_err_and c.from_residual.result c.from_residual.ensures.1 in
    let none = none_buffered c.self.inside.partial_line c.is_empty.result c.is_empty.ensures c.if-not-is_empty.false in
    let e = c.in_err-lines.ensures in
    rw (p.1, p.2, ← c.self.view_is, none) (record {
      value = with_line-refused c.args.limits.entries (record { place = c.self.inside.lines; rest = [] }) c.args.line.bytes.now _ _ e.value;
      line = e.line;
      before = e.context;
    })

pub returns : goal.returns
returns c =
    let none = none_buffered c.self.inside.partial_line c.is_empty.result c.is_empty.ensures c.if-not-is_empty.false in
    rw (← c.self.view_is, none) (record {
      value = with_line-read c.args.limits.entries (record { place = c.self.inside.lines; rest = [] }) c.args.line.bytes.now _ c.in_ok-lines.ensures.value;
      line = tt;
      before = tt;
    })
