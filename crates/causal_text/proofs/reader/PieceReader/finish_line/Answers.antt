use Rattle.std.proofs.Common.{◌≡◌, ◌++◌, ◌∙◌, [], ap}
use Rattle.std.proofs.lemmas.Result.{err_from_is_err_and}
use Rattle.causal_text.specs.Pieces.{PieceState}
use Rattle.causal_text.proofs.Feeds.{faulty_line}
use Rattle.causal_text.proofs.LineSteps.{none_buffered, with_line-refused, with_line-read}
use Rattle.causal_line.proofs.Lemmas.DefinedErrors.{defined_or_no_memory}
use Rattle.causal_text.proofs.reader.PieceReader.finish_line.Goals as goal

pub returns-in_err-lines : goal.returns-in_err-lines
returns-in_err-lines c =
    let p = err_from_is_err_and c.from_residual.result c.from_residual.ensures.1 in
    let none = none_buffered c.self.inside.partial_line c.is_empty.result c.is_empty.ensures c.if-is_empty.true in
    let e = c.in_err-lines.ensures in
    rw (p.1, p.2, ← c.self.view_is, none) (record {
      value = with_line-refused c.args.limits.entries (record { place = c.self.inside.lines; rest = [] }) c.args.line.now _ _ e.value;
      line = e.line;
      before = e.context;
    })

pub returns-in_err-lines-2 : goal.returns-in_err-lines-2
returns-in_err-lines-2 c =
    let p = err_from_is_err_and c.from_residual-in_err-lines-2.result c.from_residual-in_err-lines-2.ensures.1 in
    let e = c.in_err-lines-2.ensures in
    rw (p.1, p.2) (record {
      value = defined_or_no_memory _ _ _ (λ other. faulty_line c.args.limits.entries c.args.self c.args.line.now _ (e.err other).1);
      line = e.line;
      before = rw e.before tt;
    })

pub returns-in_err-lines-3 : goal.returns-in_err-lines-3
returns-in_err-lines-3 c =
    let p = err_from_is_err_and c.from_residual-in_err-lines-3.result c.from_residual-in_err-lines-3.ensures.1 in
    let both = c.lines.view_is ∙ c.in_ok-lines-2.ensures.ok in
    let place : c.lines.inside.lines ≡ c.args.self.place = ap (λ (h : PieceState). h.place) both in
    let rest : c.as_slice.result.now ≡ c.args.self.rest ++ c.args.line.now = c.as_slice.ensures.value ∙ ap (λ (h : PieceState). h.rest) both in
    let e = c.in_err-lines-3.ensures in
    rw (p.1, p.2) (record {
      value = with_line-refused c.args.limits.entries c.args.self c.args.line.now _ _ (rw (place, rest) at e.value);
      line = rw place at e.line;
      before = rw (place, rest) at e.context;
    })

pub returns-then-is_empty : goal.returns-then-is_empty
returns-then-is_empty c =
    let none = none_buffered c.self.inside.partial_line c.is_empty.result c.is_empty.ensures c.if-is_empty.true in
    rw (← c.self.view_is, none) (record {
      value = with_line-read c.args.limits.entries (record { place = c.self.inside.lines; rest = [] }) c.args.line.now _ c.in_ok-lines.ensures.value;
      line = tt;
      before = tt;
    })

pub returns : goal.returns
returns c =
    let both = c.lines.view_is ∙ c.in_ok-lines-2.ensures.ok in
    let place : c.lines.inside.lines ≡ c.args.self.place = ap (λ (h : PieceState). h.place) both in
    let rest : c.as_slice.result.now ≡ c.args.self.rest ++ c.args.line.now = c.as_slice.ensures.value ∙ ap (λ (h : PieceState). h.rest) both in
    rw c.clear.ensures.items (record {
      value = with_line-read c.args.limits.entries c.args.self c.args.line.now _ (rw (place, rest) at c.in_ok-lines-3.ensures.value);
      line = tt;
      before = tt;
    })
