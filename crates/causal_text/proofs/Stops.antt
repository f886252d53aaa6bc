-- A part of a text is read, or has the first error, with its context.
use Rattle.std.proofs.Common.{◌≡◌, ℕ, ◌+◌, ◌<◌, List, [], ◌∷◌, ◌++◌, length, Option, None, Ok, ap, ◌∙◌, append_assoc, append-nil, subst, arith, ◌≢◌, true}
use Rattle.std.specs.Prelude.{IfSome}
use Rattle.std.proofs.lemmas.Option.{IfSome_then}
use Rattle.causal_line.specs.declared.text_refusal.FaultContext.{FaultContext}
use Rattle.causal_line.specs.declared.text_refusal.TextRefusal.{TextRefusal}
use Rattle.causal_text.specs.FaultContexts.{IsContextWithin, HasTrueContextWithin, IsTrueRefusalWithin, IsTrueRefusalAlways}
use Rattle.causal_line.specs.Lines.{lines, IsComplete, no_feed}
use Rattle.causal_text.specs.Pieces.{PieceState, RepresentsBytes}
use Rattle.causal_line.specs.Values.{parse_line}
use Rattle.causal_text.specs.Streams.{HasReadWithin}
use Rattle.causal_line.specs.Refusals.{IsWithinText, IsContextAt}
use Rattle.causal_text.specs.Inside.Contexts.{HasTrueContextAlways}
use Rattle.causal_text.proofs.Feeds.{Comes, lines_held, lines_joined, IsReadAt-more, IsReadAt-stands, StandsFor-complete, StandsFor-hold, fault_of_complete, fault_of_grown, reading-ending, with_line_ok, with_line_err, read_more}
use Rattle.causal_line.proofs.Lemmas.CompleteLines.{IsComplete-append, lines_complete, lines_rest}
use Rattle.causal_line.specs.declared.kind.TextKind.TheVariants.{NoMemory}
use Rattle.causal_text.specs.declared.stream.State.TheVariants as state
use Rattle.causal_text.specs.Prefixes.{IsRefusedAt}
use Rattle.causal_line.specs.Returns.{IsFaultOrNoMemory}
use Rattle.causal_text.specs.Spelling.{IsReadUpTo, SpellsWithin, IsReadAt}
use Rattle.causal_text.specs.Inside.PartialLines.{FitsLimit, IsFaultOfAll, IsLimitFault, with_line, finish_reading}
use Rattle.causal_text.proofs.Begun.{no_more_line, no_more_part}
use Rattle.causal_line.proofs.Lemmas.DefinedErrors.{error_is_defined}
use Rattle.causal_text.proofs.Spellings.{IsFirstFault-reading, Spells-reading}
use Rattle.causal_trace.specs.Rows.{Recording}

-- the context of the line after them is true
context_of_line : (most : ℕ) (h : PieceState) (b line : List ℕ) (after : List (List ℕ)) (text : List ℕ) (number : ℕ) (at : FaultContext) (s : RepresentsBytes most h b) → lines text ≡ s.complete ++ line ∷ after
    → IsWithinText h.place.stage at.trace.recording → parse_line line ≡ Ok at.parsed_line → number ≡ h.place.count + 1 → IsContextWithin most text number at.trace.recording at.parsed_line
context_of_line most h b line after text number at s split going says is = grind arith

split_complete : (most : ℕ) (h : PieceState) (b line more : List ℕ) (s : RepresentsBytes most h b) → IsComplete line → lines ((b ++ line) ++ more) ≡ s.complete ++ (h.rest ++ line) ∷ lines more
split_complete most h b line more s complete =
    grind (
      arith,
      append_assoc b line more,
      lines_held s.complete b h.rest (line ++ more) s.whole s.each,
      append_assoc h.rest line more,
      lines_complete (h.rest ++ line) more (IsComplete-append h.rest line s.unfinished complete),
      IsComplete-append h.rest line s.unfinished complete,
    )

-- the context of an error of a complete line is true, whatever follows
pub kept_of : (most : ℕ) (h : PieceState) (b line : List ℕ) (number : ℕ) (kept : Option FaultContext) → RepresentsBytes most h b → IsComplete line → IsContextAt h.place.stage (h.rest ++ line) kept → number ≡ h.place.count + 1
    → IfSome kept (λ at. (more : List ℕ) → IsContextWithin most ((b ++ line) ++ more) number at.trace.recording at.parsed_line)
kept_of most h b line number kept s complete k is =
    IfSome_then kept k (λ at told more. context_of_line most h b (h.rest ++ line) (lines more) ((b ++ line) ++ more) number at s (split_complete most h b line more s complete) told.0 told.1 is)

-- the context of an error of a line in a piece is true, whatever follows
pub kept_of_piece : (most : ℕ) (h0 h : PieceState) (done line after : List ℕ) (number : ℕ) (kept : Option FaultContext) → Comes most h0 done h → IsComplete line → IsContextAt h.place.stage (h.rest ++ line) kept
    → number ≡ h.place.count + 1 → (b : List ℕ) → RepresentsBytes most h0 b → IfSome kept (λ at. (more : List ℕ) → IsContextWithin most ((b ++ (done ++ (line ++ after))) ++ more) number at.trace.recording at.parsed_line)
kept_of_piece most h0 h done line after number kept c complete k is b s = IfSome_then kept (kept_of most h (b ++ done) line number kept (c b s) complete k is) (λ at told more.
    let same : (b ++ (done ++ (line ++ after))) ++ more ≡ ((b ++ done) ++ line) ++ (after ++ more) = simp append_assoc in
    rw same (told (after ++ more)))

-- an error without context
pub kept_of_none : (most : ℕ) (bytes : List ℕ) (rejected : TextRefusal) → rejected.context ≡ None → HasTrueContextAlways most bytes rejected
kept_of_none most bytes rejected is = rw is tt

-- the context of an error of the text's last line is true
pub kept_at_end : (most : ℕ) (h : PieceState) (b : List ℕ) (number : ℕ) (kept : Option FaultContext) → RepresentsBytes most h b → 0 < length h.rest → IsContextAt h.place.stage h.rest kept → number ≡ h.place.count + 1
    → IfSome kept (λ at. IsContextWithin most b number at.trace.recording at.parsed_line)
kept_at_end most h b number kept s some k is =
    let split : lines b ≡ s.complete ++ h.rest ∷ [] =
    ap lines s.whole ∙ lines_joined s.complete h.rest s.each ∙ ap (λ ls. s.complete ++ ls) (lines_rest h.rest s.unfinished some) in
    IfSome_then kept k (λ at told. context_of_line most h b h.rest [] b number at s split told.0 told.1 is)

-- ---- the part is read

-- if the rest of a line has no error, the reader has read the bytes with it
pub line_read : (n most : ℕ) (h k : PieceState) (b line : List ℕ) → n ≡ most → IsComplete line → with_line n h line ≡ Ok k → HasReadWithin most (state.Reading h) b → HasReadWithin most (state.Reading k) (b ++ line)
line_read n most h k b line same complete is s =
    let p = with_line_ok n h k line is in
    rw (← same, ← p.2) (read_more n _ (b ++ line) (StandsFor-complete n h b line p.0 (rw same s.0) complete p.1) (record { within = λ few. omega (arith, few); open_text = λ some. absurd (omega (arith, some)) }))

-- a part without a line feed is read if it fits the limit
pub part_read : (n most : ℕ) (h k : PieceState) (b part : List ℕ) → n ≡ most → no_feed part ≡ true → k ≡ record { place = h.place; rest = h.rest ++ part } → FitsLimit n k → HasReadWithin most (state.Reading h) b → HasReadWithin most (state.Reading k) (b ++ part)
part_read n most h k b part same none is room s = rw (← same) (read_more n k (b ++ part) (rw is (StandsFor-hold n h b part (rw same s.0) none)) room)

-- ---- the part has an error

rejected_so : (most : ℕ) (h : PieceState) (b part more : List ℕ) (rejected : TextRefusal) → RepresentsBytes most h b → (rejected.fault.kind ≢ NoMemory → IsFaultOfAll most (b ++ part) rejected.fault)
    → rejected.fault.line ≡ h.place.count + 1 → HasTrueContextAlways most (b ++ part) rejected → IsTrueRefusalWithin most ((b ++ part) ++ more) rejected
rejected_so most h b part more rejected s first line kept =
    grind (arith, IsFirstFault-reading, IsReadAt-more, IsReadAt-stands most h b rejected.fault.line s line)

-- if the rest of a line is refused, the text is refused there
pub line_stops : (n most : ℕ) (h : PieceState) (b line : List ℕ) (rejected : TextRefusal) → n ≡ most → IsComplete line → IsFaultOrNoMemory rejected.fault.kind rejected.fault (with_line n h line)
    → rejected.fault.line ≡ h.place.count + 1 → IsContextAt h.place.stage (h.rest ++ line) rejected.context → HasReadWithin most (state.Reading h) b → IsRefusedAt most b line rejected
line_stops n most h b line rejected same complete given at kept s =
    let read : RepresentsBytes n h b = rw same s.0 in
    let bad = λ (other : rejected.fault.kind ≢ NoMemory). with_line_err n h line rejected.fault (error_is_defined _ _ _ given other) in
    rw (← same) (record {
      rejection = λ more. rejected_so n h b line more rejected read (λ other. fault_of_complete n h b line rejected.fault read complete (bad other)) at (kept_of n h b line rejected.fault.line rejected.context read complete kept at);
      no_more = λ other more r x. no_more_line n h b line more r rejected.fault read complete (bad other) x;
    })

-- if a part of a line is refused, whatever follows, the text is refused there
pub part_stops : (n most : ℕ) (h : PieceState) (b part : List ℕ) (rejected : TextRefusal) → n ≡ most → no_feed part ≡ true
    → (rejected.fault.kind ≢ NoMemory → (0 < length (h.rest ++ part)) × IsLimitFault n (record { place = h.place; rest = h.rest ++ part }) rejected.fault)
    → rejected.fault.line ≡ h.place.count + 1 → rejected.context ≡ None → HasReadWithin most (state.Reading h) b → IsRefusedAt most b part rejected
part_stops n most h b part rejected same none past at kept s =
    let read : RepresentsBytes n h b = rw same s.0 in
    let held = StandsFor-hold n h b part read none in
    rw (← same) (record {
      rejection = λ more. rejected_so n h b part more rejected read (λ other. fault_of_grown n _ (b ++ part) rejected.fault held (past other).0 (past other).1) at (kept_of_none n (b ++ part) rejected kept);
      no_more = λ other more r x. no_more_part n h b part more r rejected.fault read held.unfinished (past other).0 (past other).1 x;
    })

-- ---- the end of the text

-- an error at the end of the text is a true refusal of the whole text
pub end_stops : (n most : ℕ) (h : PieceState) (b : List ℕ) (rejected : TextRefusal) → n ≡ most → IsFaultOrNoMemory rejected.fault.kind rejected.fault (finish_reading n h)
    → (rejected.fault.kind ≡ NoMemory → rejected.fault.line ≡ h.place.count + 1) → (RepresentsBytes n h b → HasTrueContextWithin n b rejected) → HasReadWithin most (state.Reading h) b → IsTrueRefusalWithin most b rejected
end_stops n most h b rejected same given at kept = subst (λ (m : ℕ). HasReadWithin m (state.Reading h) b → IsTrueRefusalWithin m b rejected) same (λ s. record {
  first = λ other. IsFirstFault-reading n b rejected.fault (reading-ending n h b s.0 ∙ error_is_defined _ _ _ given other);
  memory = λ wants. subst (λ (text : List ℕ). IsReadUpTo n text rejected.fault.line) (append-nil b) (IsReadAt-stands n h b rejected.fault.line s.0 (at wants) []);
  kept = kept s.0;
})

-- after one more piece, the reader has read it too
pub fed_more : (n most : ℕ) (h k : PieceState) (b piece : List ℕ) → n ≡ most → (RepresentsBytes n h b → RepresentsBytes n k (b ++ piece)) → FitsLimit n k
    → HasReadWithin most (state.Reading h) b → HasReadWithin most (state.Reading k) (b ++ piece)
fed_more n most h k b piece same comes room = grind (arith, read_more)

-- an error of a piece is a true refusal, whatever follows
pub fed_refusal : (n most : ℕ) (h : PieceState) (b bytes : List ℕ) (rejected : TextRefusal) → n ≡ most → (rejected.fault.kind ≢ NoMemory → RepresentsBytes n h b → IsFaultOfAll n bytes rejected.fault)
    → (RepresentsBytes n h b → IsReadAt n bytes rejected.fault.line) → (RepresentsBytes n h b → HasTrueContextAlways n bytes rejected) → HasReadWithin most (state.Reading h) b → IsTrueRefusalAlways most bytes rejected
fed_refusal n most h b bytes rejected same faulty at context =
    subst (λ (m : ℕ). HasReadWithin m (state.Reading h) b → IsTrueRefusalAlways m bytes rejected) same
    (λ s more. record {
      first = λ other. IsFirstFault-reading n (bytes ++ more) rejected.fault (faulty other s.0 more);
      memory = λ _. at s.0 more;
      kept = IfSome_then rejected.context (context s.0) (λ at told. told more);
    })

-- the bytes read spell the recording that the end of the text returns
pub fed_spells : (n most : ℕ) (h : PieceState) (b : List ℕ) (r : Recording) → n ≡ most → finish_reading n h ≡ Ok r → HasReadWithin most (state.Reading h) b → SpellsWithin most b r
fed_spells n most h b r same ends = grind (arith, Spells-reading, reading-ending)

-- `NoMemory` at the line that is being read is a true refusal, whatever follows
pub no_memory_refusal : (most : ℕ) (h : PieceState) (b : List ℕ) (rejected : TextRefusal) → rejected.fault.kind ≡ NoMemory → rejected.fault.line ≡ h.place.count + 1 → rejected.context ≡ None
    → HasReadWithin most (state.Reading h) b → IsTrueRefusalAlways most b rejected
no_memory_refusal most h b rejected wants at none s = λ more. record {
  first = λ other. absurd (other wants);
  memory = λ _. IsReadAt-stands most h b rejected.fault.line s.0 at more;
  kept = rw none tt;
}
