-- The lines of a text in pieces, and the bytes that a reader of pieces has read.
use Rattle.std.proofs.Common.{◌≡◌, ℕ, ◌+◌, ◌<◌, List, [], ◌∷◌, ◌++◌, length, true, Result, Ok, Err, refl, ap, sym, ◌∙◌, arith, append_assoc, append-nil, ◌≤◌, length-append}
use Rattle.causal_line.specs.declared.kind.TextFault.{TextFault}
use Rattle.causal_line.specs.Lines.{lines, no_feed, IsComplete}
use Rattle.causal_line.proofs.Lemmas.CompleteLines.{no_feed-append, IsComplete-append, lines_complete, lines_grown, lines_rest}
use Rattle.causal_text.specs.Spelling.{IsReadAt}
use Rattle.causal_lines.specs.ReadPositions.{ReadPosition, start_position, position_after}
use Rattle.causal_line.specs.Reading.{◌>>=◌}
use Rattle.causal_text.specs.Inside.LineByLine.{after_lines, read_text}
use Rattle.causal_text.specs.Pieces.{AreComplete, concat_lines, PieceState, RepresentsBytes}
use Rattle.causal_text.specs.Inside.PartialLines.{IsFaultOfAll, with_line, IsLimitFault, last_place, finish_reading, FitsLimit}
use Rattle.causal_text.proofs.Spellings.{IsPlaceAfter-next, after_lines-append, after_lines-place}
use Rattle.std.specs.Prelude.{sum_by}
use Rattle.std.proofs.lemmas.List.Sums.{sum_by-cons}
use Rattle.causal_text.specs.declared.stream.State.TheVariants as state
use Rattle.causal_line.specs.Stages.{max_text_len}
use Rattle.causal_text.specs.Streams.{HasReadWithin}

-- ---- lists of lines

-- complete lines in front are the first lines
pub lines_joined : (ls : List (List ℕ)) (rest : List ℕ) → AreComplete ls → lines (concat_lines ls ++ rest) ≡ ls ++ lines rest
lines_joined [] rest h = refl
lines_joined (l ∷ ls) rest h = grind (arith, append_assoc, lines_complete, lines_joined ls rest h.1)

-- complete lines and more bytes in front of others are the first lines
pub lines_held : (ls : List (List ℕ)) (text rest more : List ℕ) → text ≡ concat_lines ls ++ rest → AreComplete ls → lines (text ++ more) ≡ ls ++ lines (rest ++ more)
lines_held ls text rest more whole each = rw (whole, append_assoc (concat_lines ls) rest more) (lines_joined ls (rest ++ more) each)

pub joined-append : (ls ks : List (List ℕ)) → concat_lines (ls ++ ks) ≡ concat_lines ls ++ concat_lines ks
joined-append [] ks = refl
joined-append (l ∷ ls) ks = rw (joined-append ls ks) (sym (append_assoc l (concat_lines ls) (concat_lines ks)))

AreComplete-append : (ls : List (List ℕ)) (l : List ℕ) → AreComplete ls → IsComplete l → AreComplete (ls ++ l ∷ [])
AreComplete-append [] l h c = (c, tt)
AreComplete-append (k ∷ ls) l h c = (h.0, AreComplete-append ls l h.1 c)

-- ---- the state represents the bytes so far

-- after a complete line without an error, the new position represents all the bytes
pub StandsFor-complete : (most : ℕ) (h : PieceState) (b line : List ℕ) (p : ReadPosition) → RepresentsBytes most h b → IsComplete line → position_after most h.place (h.rest ++ line) ≡ Ok p → RepresentsBytes most (record { place = p; rest = [] }) (b ++ line)
StandsFor-complete most h b line p s c taken =
    grind (
      arith,
      IsPlaceAfter-next most s.complete h.place p (h.rest ++ line) s.place_is taken,
      append_assoc (concat_lines s.complete) h.rest line,
      joined-append s.complete ((h.rest ++ line) ∷ []),
      append-nil,
      AreComplete-append,
      IsComplete-append h.rest line s.unfinished c,
    )

-- a part without a line feed is buffered, and nothing else changes
pub StandsFor-hold : (most : ℕ) (h : PieceState) (b part : List ℕ) → RepresentsBytes most h b → no_feed part ≡ true → RepresentsBytes most (record { place = h.place; rest = h.rest ++ part }) (b ++ part)
StandsFor-hold most h b part s none = grind (arith, append_assoc, no_feed-append)

reading_from : (most : ℕ) (h : PieceState) (b more : List ℕ) → RepresentsBytes most h b → after_lines most start_position (lines (b ++ more)) ≡ after_lines most h.place (lines (h.rest ++ more))
reading_from most h b more s = rw (lines_held s.complete b h.rest more s.whole s.each) (after_lines-append most start_position h.place s.complete _ (after_lines-place most s.complete h.place s.place_is))

-- more bytes extend a partial line, or complete it
pub grown : (xs more : List ℕ) → 0 < length xs → no_feed xs ≡ true → (m : List ℕ) × (ls : List (List ℕ)) × (lines (xs ++ more) ≡ (xs ++ m) ∷ ls)
grown [] more some none = absurd (omega arith)
grown (x ∷ xs) more some none = lines_grown x xs more none

-- the error of a complete line is that of the text, whatever follows
pub fault_of_complete : (most : ℕ) (h : PieceState) (b line : List ℕ) (f : TextFault) → RepresentsBytes most h b → IsComplete line → position_after most h.place (h.rest ++ line) ≡ Err f → IsFaultOfAll most (b ++ line) f
fault_of_complete most h b line f s c e more =
    grind (
      arith,
      append_assoc b line more,
      reading_from most h b (line ++ more) s,
      append_assoc h.rest line more,
      lines_complete,
      IsComplete-append h.rest line s.unfinished c,
    )

-- an error that a partial line has, whatever follows, is that of the text
pub fault_of_grown : (most : ℕ) (h : PieceState) (b : List ℕ) (f : TextFault) → RepresentsBytes most h b → 0 < length h.rest → ((m : List ℕ) → position_after most h.place (h.rest ++ m) ≡ Err f) → IsFaultOfAll most b f
fault_of_grown most h b f s some e more = let g = grown h.rest more some s.unfinished in rw (reading_from most h b more s, g.2, e g.0) refl

-- ---- a piece, part by part

-- with these bytes more, h1 represents what h0 represented
abbrev pub Comes : (most : ℕ) → PieceState → List ℕ → PieceState → Type 0
Comes most h0 done h1 = (b : List ℕ) → RepresentsBytes most h0 b → RepresentsBytes most h1 (b ++ done)

-- an accepted line has a next position and leaves nothing buffered
pub with_line_ok : (most : ℕ) (h h1 : PieceState) (line : List ℕ) → with_line most h line ≡ Ok h1 → (p : ReadPosition) × (position_after most h.place (h.rest ++ line) ≡ Ok p) × (record { place = p; rest = [] } ≡ h1)
with_line_ok most h h1 line e = grind arith

-- a refused line has its error
pub with_line_err : (most : ℕ) (h : PieceState) (line : List ℕ) (f : TextFault) → with_line most h line ≡ Err f → position_after most h.place (h.rest ++ line) ≡ Err f
with_line_err most h line f e = grind arith

-- after the rest of a line without an error, the state represents those bytes too
pub Comes-line : (most : ℕ) (h0 h h1 : PieceState) (done line : List ℕ) → Comes most h0 done h → IsComplete line → with_line most h line ≡ Ok h1 → Comes most h0 (done ++ line) h1
Comes-line most h0 h h1 done line c complete e b s =
    let p = with_line_ok most h h1 line e in
    rw (← append_assoc b done line, ← p.2) (StandsFor-complete most h (b ++ done) line p.0 (c b s) complete p.1)

-- the error of a completed line is that of the text, whatever follows
pub fault_of_piece : (most : ℕ) (h0 h : PieceState) (done line after : List ℕ) (f : TextFault) → Comes most h0 done h → IsComplete line → with_line most h line ≡ Err f → (b : List ℕ) → RepresentsBytes most h0 b → IsFaultOfAll most (b ++ (done ++ (line ++ after))) f
fault_of_piece most h0 h done line after f c complete e b s more =
    let same : (b ++ (done ++ (line ++ after))) ++ more ≡ ((b ++ done) ++ line) ++ (after ++ more) = simp append_assoc in
    rw same (fault_of_complete most h (b ++ done) line f (c b s) complete (with_line_err most h line f e) (after ++ more))

-- after bytes without a line feed, the state represents those too
pub Comes-hold : (most : ℕ) (h0 h : PieceState) (done part : List ℕ) → Comes most h0 done h → no_feed part ≡ true → Comes most h0 (done ++ part) (record { place = h.place; rest = h.rest ++ part })
Comes-hold most h0 h done part c none b s = rw (← append_assoc b done part) (StandsFor-hold most h (b ++ done) part (c b s) none)

-- an error of a partial line that no further byte changes is that of the text
pub fault_of_hold : (most : ℕ) (h0 h : PieceState) (done part : List ℕ) (f : TextFault) → Comes most h0 done h → no_feed part ≡ true → 0 < length (h.rest ++ part) → IsLimitFault most (record { place = h.place; rest = h.rest ++ part }) f
    → (b : List ℕ) → RepresentsBytes most h0 b → IsFaultOfAll most (b ++ (done ++ part)) f
fault_of_hold most h0 h done part f c none some past b s = fault_of_grown most (record { place = h.place; rest = h.rest ++ part }) (b ++ (done ++ part)) f (Comes-hold most h0 h done part c none b s) some past

-- ---- the end of the text

last_lines : (most : ℕ) (p : ReadPosition) (rest : List ℕ) → no_feed rest ≡ true → after_lines most p (lines rest) ≡ last_place most (record { place = p; rest = rest }) rest
last_lines most p [] h = refl
last_lines most p (x ∷ xs) h = rw (lines_rest (x ∷ xs) h (omega arith)) (one (position_after most p (x ∷ xs))) where
  one : (r : Result ReadPosition TextFault) → (r >>= λ q. after_lines most q []) ≡ r
  one r = grind arith

-- reading the bytes returns what the state returns at the end
pub reading-ending : (most : ℕ) (h : PieceState) (b : List ℕ) → RepresentsBytes most h b → read_text most b ≡ finish_reading most h
reading-ending most h b s = grind (arith, reading_from most h b [] s, append-nil b, append-nil h.rest, last_lines)

-- ---- the line that is being read

-- no line before the partial line has an error
pub IsReadAt-stands : (most : ℕ) (h : PieceState) (b : List ℕ) (line : ℕ) → RepresentsBytes most h b → line ≡ h.place.count + 1 → IsReadAt most b line
IsReadAt-stands most h b line s is more = grind (arith, lines_held s.complete b h.rest more s.whole s.each)

-- more bytes leave the lines before a line without an error
pub IsReadAt-more : (most : ℕ) (b piece : List ℕ) (line : ℕ) → IsReadAt most b line → IsReadAt most (b ++ piece) line
IsReadAt-more most b piece line h more = rw (append_assoc b piece more) (h (piece ++ more))

-- the line that begins within a piece
pub line_of_part : (most : ℕ) (h0 h : PieceState) (done left b : List ℕ) (line : ℕ) → Comes most h0 done h → RepresentsBytes most h0 b → line ≡ h.place.count + 1 → IsReadAt most (b ++ (done ++ left)) line
line_of_part most h0 h done left b line c s is = rw (← append_assoc b done left) (IsReadAt-more most (b ++ done) left line (IsReadAt-stands most h (b ++ done) line (c b s) is))

-- an error that a partial line has, whatever follows, it has at the end of the text
pub faulty_line : (most : ℕ) (h : PieceState) (line : List ℕ) (f : TextFault) → IsLimitFault most (record { place = h.place; rest = h.rest ++ line }) f → with_line most h line ≡ Err f
faulty_line most h line f past = grind (arith, append-nil (h.rest ++ line))

length-joined : (ls : List (List ℕ)) → length (concat_lines ls) ≡ sum_by length ls
length-joined [] = refl
length-joined (l ∷ ls) = length-append l (concat_lines ls) ∙ ap (λ n. length l + n) (length-joined ls) ∙ sym (sum_by-cons length l ls)

-- the number of known bytes
length-held : (most : ℕ) (h : PieceState) (bytes : List ℕ) → RepresentsBytes most h bytes → length bytes ≡ h.place.size + length h.rest
length-held most h bytes st = grind (arith, length-joined st.complete, length-append (concat_lines st.complete) h.rest)

-- a reader whose state represents these bytes, within the text's limit, has read them
pub read_more : (most : ℕ) (k : PieceState) (bytes : List ℕ) → RepresentsBytes most k bytes → FitsLimit most k → HasReadWithin most (state.Reading k) bytes
read_more most k bytes st room =
    let few : k.place.size + length k.rest ≤ max_text_len most = room.within (rw st.place_is.size st.place_is.reaches.within) in
    (st, omega (arith, few, length-held most k bytes st), room.open_text)
