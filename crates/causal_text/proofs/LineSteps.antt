-- A whole line, from a partial line and its rest.
use Rattle.std.proofs.Common.{◌≡◌, ◌++◌, ◌∙◌, ℕ, List, [], Bool, true, Ok, Vec, Global, vec_len, refl, sym}
use Rattle.std.specs.Prelude.{◌==◌}
use Rattle.std.proofs.lemmas.Bool.{eqb-true}
use Rattle.std.proofs.lemmas.List.{nil_from_length}
use Rattle.causal_line.specs.declared.kind.TextKind.{TextKind}
use Rattle.causal_line.specs.declared.kind.TextFault.{TextFault}
use Rattle.causal_line.specs.Returns.{IsFaultOrNoMemory}
use Rattle.causal_line.proofs.Lemmas.DefinedErrors.{error_is_defined, defined_or_no_memory}
use Rattle.causal_lines.specs.ReadPositions.{ReadPosition, position_after}
use Rattle.causal_text.specs.Pieces.{PieceState}
use Rattle.causal_text.specs.Inside.PartialLines.{with_line}

-- a vector without elements has none
pub none_buffered : (v : Vec ℕ Global) (b : Bool) → b ≡ (vec_len v == 0) → b ≡ true → v.items ≡ []
none_buffered v b e t = nil_from_length v.items (sym v.ok.0 ∙ eqb-true (vec_len v) 0 (sym e ∙ t))

-- an error of the whole line is that of its rest
pub with_line-refused : (most : ℕ) (h : PieceState) (line : List ℕ) (k : TextKind) (f : TextFault) → IsFaultOrNoMemory k f (position_after most h.place (h.rest ++ line)) → IsFaultOrNoMemory k f (with_line most h line)
with_line-refused most h line k f e = defined_or_no_memory k f (with_line most h line) (λ other. rw (error_is_defined k f _ e other) refl)

-- after the whole line nothing is buffered
pub with_line-read : (most : ℕ) (h : PieceState) (line : List ℕ) (p : ReadPosition) → position_after most h.place (h.rest ++ line) ≡ Ok p → with_line most h line ≡ Ok (record { place = p; rest = [] })
with_line-read most h line p e = rw e refl
