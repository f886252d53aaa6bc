-- Reading is unique: the first error of a text is the one that reading returns.
use Rattle.std.proofs.Common.{arith, ◌≡◌, ℕ, ◌+◌, List, [], ◌∷◌, length, Err, inl, inr, ap, sym, ◌∙◌}
use Rattle.causal_trace.specs.Rows.{Recording}
use Rattle.causal_line.specs.declared.kind.TextKind.TheVariants as kind
use Rattle.causal_line.specs.declared.kind.TextFault.{TextFault}
use Rattle.causal_line.specs.declared.stage.Stage.{Stage}
use Rattle.causal_line.specs.Lines.{lines}
use Rattle.causal_lines.specs.ReadPositions.{ReadPosition, start_position, position_after, finish_at, IsOpen}
use Rattle.causal_text.specs.Inside.LineByLine.{read_text}
use Rattle.causal_line.specs.Stages.{advance_stage}
use Rattle.causal_text.specs.Spelling.{SpellsWithin, IsFaultOfLine, IsCut, IsFirstFaultWithin}
use Rattle.causal_text.proofs.Spellings.{IsPlaceAfter-lines, IsPlaceAfter-start, after_lines-append, Leads-reached, reading-spelled}

-- a line with an error is refused with it
faulty_next : (most : ℕ) (q : ReadPosition) (line : List ℕ) (f : TextFault) → advance_stage most q.stage (q.size + length line) line ≡ Err f.kind → f.line ≡ q.count + 1 → position_after most q line ≡ Err f
faulty_next most q line f h n = rw h (ap (λ k. Err (record { line = k; kind = f.kind })) (sym n))

-- reading returns the error of the first faulty line
fault_of_line : (most : ℕ) (text : List ℕ) (f : TextFault) → IsFaultOfLine most text f → read_text most text ≡ Err f
fault_of_line most text f e =
    grind (
      arith,
      Leads-reached,
      IsPlaceAfter-lines most [] e.before start_position (Leads-reached most e.before e.stage e.reaches).0 (IsPlaceAfter-start most) (Leads-reached most e.before e.stage e.reaches).1,
      IsPlaceAfter-start most,
      faulty_next,
      after_lines-append most start_position (Leads-reached most e.before e.stage e.reaches).0 e.before (e.line ∷ e.after) (Leads-reached most e.before e.stage e.reaches).1,
    )

-- without an end line so far, the text is cut here
cut_here : (q : ReadPosition) (s : Stage) (f : TextFault) → IsOpen s → f.line ≡ q.count + 1 → f.kind ≡ kind.Cut → finish_at q s ≡ Err f
cut_here q s f h n k = grind arith

-- reading returns `Cut` for a cut text
cut_of : (most : ℕ) (text : List ℕ) (f : TextFault) → IsCut most text f → read_text most text ≡ Err f
cut_of most text f e =
    grind (
      arith,
      IsPlaceAfter-lines most [] (lines text) start_position (Leads-reached most (lines text) e.stage e.reaches).0 (IsPlaceAfter-start most) (Leads-reached most (lines text) e.stage e.reaches).1,
      IsPlaceAfter-start most,
      cut_here,
    )

-- reading returns the first error of a text
pub reading-first : (most : ℕ) (text : List ℕ) (f : TextFault) → IsFirstFaultWithin most text f → read_text most text ≡ Err f
reading-first most text f e = elim e [ inl l ↦ fault_of_line most text f l | inr c ↦ cut_of most text f c ]

-- a text has at most one first error
pub one_fault : (most : ℕ) (text : List ℕ) (f g : TextFault) → IsFirstFaultWithin most text f → IsFirstFaultWithin most text g → f ≡ g
one_fault most text f g a b = let e = sym (reading-first most text f a) ∙ reading-first most text g b in cc

-- a text spells at most one recording
pub one_recording : (most : ℕ) (text : List ℕ) (r s : Recording) → SpellsWithin most text r → SpellsWithin most text s → r ≡ s
one_recording most text r s a b = let e = sym (reading-spelled most text r a) ∙ reading-spelled most text s b in cc

-- a text does not both spell a recording and have an error
pub not_both : (most : ℕ) (text : List ℕ) (r : Recording) (f : TextFault) → SpellsWithin most text r → IsFirstFaultWithin most text f → ⊥
not_both most text r f a b = let e = sym (reading-spelled most text r a) ∙ reading-first most text f b in cc
