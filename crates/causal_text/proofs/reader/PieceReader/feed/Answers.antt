use Rattle.std.proofs.Common.{subst, sym, arith, ◌++◌, ◌∙◌, ap, append_assoc}
use Rattle.causal_text.specs.Pieces.{PieceState}
use Rattle.std.proofs.lemmas.Result.{err_from_is_err_and, IfErr-weaker, IfOk-weaker}
use Rattle.causal_text.proofs.Stops.{kept_of_piece}
use Rattle.causal_text.proofs.Feeds.{Comes, Comes-line, Comes-hold, fault_of_piece, fault_of_hold, line_of_part}
use Rattle.causal_line.proofs.Lemmas.DefinedErrors.{error_is_defined}
use Rattle.causal_text.proofs.reader.PieceReader.feed.Goals as goal

pub loop-line-preserved : goal.loop-line-preserved
loop-line-preserved c =
    grind (
      arith,
      append_assoc c.loop-line.invariant.0 c.in-Some.line.now c.in-Some.after.now,
      Comes-line c.args.limits.entries c.args.self c.loop-line.reader c.in_ok-reader.reader c.loop-line.invariant.0 c.in-Some.line.now c.loop-line.invariant.2 c.in-Some.ensures.some.0 c.in_ok-reader.ensures.value,
    )

pub returns-clause-ok : goal.returns-clause-ok
returns-clause-ok c =
    let i = c.loop-line.invariant in
    IfOk-weaker c.buffer_part.result _ _ (λ k is. subst (λ (h : PieceState). Comes c.args.limits.entries c.args.self c.args.piece.now h) (sym is) (rw i.1 (Comes-hold c.args.limits.entries c.args.self c.loop-line.reader i.0 c.loop-line.left.now i.2 c.in_default.ensures.none))) c.buffer_part.ensures.ok

pub returns-clause-err : goal.returns-clause-err
returns-clause-err c =
    let i = c.loop-line.invariant in
    IfErr-weaker c.buffer_part.result _ _ (λ f e other b s. rw i.1 (fault_of_hold c.args.limits.entries c.args.self c.loop-line.reader i.0 c.loop-line.left.now f.fault i.2 c.in_default.ensures.none (e other).0 (e other).1 b s)) c.buffer_part.ensures.err

pub returns-in_err-reader-clause-err : goal.returns-in_err-reader-clause-err
returns-in_err-reader-clause-err c =
    let p = err_from_is_err_and c.from_residual.result c.from_residual.ensures.1 in
    let i = c.loop-line.invariant in
    let some = c.in-Some.ensures.some in
    rw (p.1, p.2) (λ other b s. rw (i.1 ∙ ap (λ xs. i.0 ++ xs) some.1) (fault_of_piece c.args.limits.entries c.args.self c.loop-line.reader i.0 c.in-Some.line.now c.in-Some.after.now _ i.2 some.0 (error_is_defined _ _ _ c.in_err-reader.ensures.value other) b s))

pub returns-clause-line : goal.returns-clause-line
returns-clause-line c =
    let i = c.loop-line.invariant in
    IfErr-weaker c.buffer_part.result _ _ (λ f e b s. rw i.1 (line_of_part c.args.limits.entries c.args.self c.loop-line.reader i.0 c.loop-line.left.now b f.fault.line i.2 s e)) c.buffer_part.ensures.line

pub returns-in_err-reader-clause-line : goal.returns-in_err-reader-clause-line
returns-in_err-reader-clause-line c =
    let p = err_from_is_err_and c.from_residual.result c.from_residual.ensures.1 in
    let i = c.loop-line.invariant in
    rw (p.1, p.2) (λ b s. rw i.1 (line_of_part c.args.limits.entries c.args.self c.loop-line.reader i.0 c.loop-line.left.now b _ i.2 s c.in_err-reader.ensures.line))

pub returns-in_err-reader-clause-before : goal.returns-in_err-reader-clause-before
returns-in_err-reader-clause-before c =
    let p = err_from_is_err_and c.from_residual.result c.from_residual.ensures.1 in
    let i = c.loop-line.invariant in
    let some = c.in-Some.ensures.some in
    rw (p.1, p.2) (λ b s. rw (i.1 ∙ ap (λ xs. i.0 ++ xs) some.1) (kept_of_piece c.args.limits.entries c.args.self c.loop-line.reader i.0 c.in-Some.line.now c.in-Some.after.now _ _ i.2 some.0 c.in_err-reader.ensures.before c.in_err-reader.ensures.line b s))
