use Rattle.std.proofs.lemmas.Grind.{common_steps}
use Rattle.std.proofs.Common.{◌≡◌, ◌<◌, subst, List, ℕ, Bool, false, length, Err, arith}
use Rattle.std.specs.Prelude.{◌==◌}
use Rattle.std.proofs.lemmas.Result.{err_from_is_err_and}
use Rattle.causal_line.specs.declared.kind.TextFault.{TextFault}
use Rattle.causal_text.specs.Pieces.{PieceState}
use Rattle.causal_lines.specs.ReadPositions.{position_after}
use Rattle.causal_text.specs.Inside.PartialLines.{last_place, finish_reading}
use Rattle.causal_text.proofs.Stops.{kept_at_end}
use Rattle.causal_line.proofs.Lemmas.DefinedErrors.{error_is_defined, defined_or_no_memory}
use Rattle.causal_text.proofs.reader.PieceReader.end.Goals as goal

some_of : (n : ℕ) (b : Bool) → b ≡ (n == 0) → b ≡ false → 0 < n
some_of n b e some = grind arith

last_of : (most : ℕ) (h : PieceState) (xs : List ℕ) → 0 < length xs → last_place most h xs ≡ position_after most h.place xs
last_of most h xs some = grind arith

faulty_end : (most : ℕ) (h : PieceState) (line : List ℕ) (f : TextFault) → 0 < length line → line ≡ h.rest → position_after most h.place line ≡ Err f → finish_reading most h ≡ Err f
faulty_end most h line f some is e = grind (arith, last_of most h line some)

moved : (most : ℕ) (k h : PieceState) (line : List ℕ) (f : TextFault) → k ≡ h → position_after most k.place line ≡ Err f → position_after most h.place line ≡ Err f
moved most k h line f same e = subst (λ (held : PieceState). position_after most held.place line ≡ Err f) same e

pub returns-in_err-lines-clause-value : goal.returns-in_err-lines-clause-value
returns-in_err-lines-clause-value c =
    grind (
      arith,
      common_steps,
      err_from_is_err_and c.from_residual.result c.from_residual.ensures.1,
      some_of,
      defined_or_no_memory,
      faulty_end c.args.limits.entries c.args.self c.as_slice.result.now,
      moved c.args.limits.entries,
      error_is_defined,
    )

pub returns-in_err-lines-clause-before : goal.returns-in_err-lines-clause-before
returns-in_err-lines-clause-before c =
    let p = err_from_is_err_and c.from_residual.result c.from_residual.ensures.1 in
    let some : 0 < length c.as_slice.result.now = omega (arith, some_of _ _ c.is_empty.ensures c.if-is_empty.false, c.as_slice.ensures.len) in
    rw (p.1, p.2, ← c.self.view_is) (λ b s. kept_at_end c.args.limits.entries _ b _ _ s (rw c.as_slice.ensures.value at some) (rw c.as_slice.ensures.value at c.in_err-lines.ensures.context) c.in_err-lines.ensures.line)
