-- The recordings of a text's prefixes, and the state after its first bytes.
use Rattle.std.proofs.Common.{◌≡◌, ◌<◌, ◌++◌, ◌∙◌, ◌⊎◌, inl, inr, refl, sym, ap, arith, ℕ, List, [], ◌∷◌, true, false, length, length-append, Err, append_assoc, append-nil}
use Rattle.std.proofs.lemmas.Option.{IfSome_then}
use Rattle.std.specs.Prelude.{Option, Some, None, IfSome, IfNone}
use Rattle.causal_trace.specs.Rows.{Recording}
use Rattle.causal_line.specs.declared.kind.TextFault.{TextFault}
use Rattle.causal_line.specs.declared.stage.Stage.{Stage}
use Rattle.causal_line.specs.declared.stage.Stage.TheVariants.{Within}
use Rattle.causal_text.specs.Prefixes.{SpellsLines, SpellsSoFar, HasPrefixSpelling}
use Rattle.causal_text.specs.PushReaders.{HasReceived}
use Rattle.causal_line.specs.Lines.{lines, no_feed, IsComplete}
use Rattle.causal_lines.specs.ReadPositions.{start_position, position_after, recording_at}
use Rattle.causal_text.specs.Pieces.{AreComplete, concat_lines, PieceState, RepresentsBytes}
use Rattle.causal_text.specs.Spelling.{LeadsTo}
use Rattle.causal_line.specs.Refusals.{IsWithinText}
use Rattle.causal_text.specs.Inside.PartialLines.{IsLimitFault}
use Rattle.causal_text.proofs.Spellings.{after_lines-append, after_lines-place, Leads-reached}
use Rattle.causal_text.proofs.Feeds.{grown, joined-append, lines_held, lines_joined, StandsFor-hold}
use Rattle.causal_line.proofs.Lemmas.CompleteLines.{lines_complete, lines_rest, IsComplete-append}

-- ---- two ways to split the same lines

-- the first lines of one split are among the first of the other
abbrev Nested : (xs ys us vs : List (List ℕ)) → Type 0
Nested xs ys us vs =
    ((zs : List (List ℕ)) × (ys ≡ xs ++ zs) × (us ≡ zs ++ vs)) ⊎ ((z : List ℕ) × (zs : List (List ℕ)) × (xs ≡ ys ++ z ∷ zs) × (vs ≡ z ∷ zs ++ us))

nested : (xs ys us vs : List (List ℕ)) → xs ++ us ≡ ys ++ vs → Nested xs ys us vs
nested [] ys us vs e = inl (ys, refl, e)
nested (x ∷ xs) [] us vs e = inr (x, xs, refl, sym e)
nested (x ∷ xs) (y ∷ ys) us vs e = grind (arith, nested xs ys us vs cc)

complete_in : (xs : List (List ℕ)) (z : List ℕ) (zs : List (List ℕ)) → AreComplete (xs ++ z ∷ zs) → IsComplete z
complete_in [] z zs h = h.0
complete_in (x ∷ xs) z zs h = complete_in xs z zs h.1

-- ---- the text continues after the first bytes

-- complete lines within the first bytes are a prefix of these
within : (most : ℕ) (h : PieceState) (b bytes : List ℕ) (r : Recording) (s : RepresentsBytes most h b) (c : SpellsSoFar most bytes r) (zs : List (List ℕ)) → s.complete ≡ c.complete ++ zs → HasPrefixSpelling most b r
within most h b bytes r s c zs is = grind (arith, joined-append c.complete zs, append_assoc, append-nil (concat_lines c.complete))

-- otherwise they extend beyond them, by the partial line and others
abbrev Beyond : (most : ℕ) (h : PieceState) (b bytes more : List ℕ) (r : Recording) → RepresentsBytes most h b → SpellsSoFar most bytes r → Type 0
Beyond most h b bytes more r s c =
    (z : List ℕ) × (zs : List (List ℕ)) × (us : List (List ℕ)) × (c.complete ≡ s.complete ++ z ∷ zs) × (lines (h.rest ++ more) ≡ z ∷ zs ++ us)

either : (most : ℕ) (h : PieceState) (b more : List ℕ) (r : Recording) (s : RepresentsBytes most h b) (x : HasPrefixSpelling most (b ++ more) r) → HasPrefixSpelling most b r ⊎ Beyond most h b x.0 more r s x.3
either most h b more r s (bytes, tail, split, c) =
    let mine = lines_held s.complete b h.rest more s.whole s.each in
    let theirs = lines_held c.complete bytes c.rest tail c.whole c.each in
    elim (nested c.complete s.complete (lines (c.rest ++ tail)) (lines (h.rest ++ more)) (sym theirs ∙ ap lines (sym split) ∙ mine)) [
      | inl p ↦ inl (within most h b bytes r s c p.0 p.1)
      | inr p ↦ inr (p.0, p.1, lines (c.rest ++ tail), p.2, p.3)
    ]

-- ---- the next bytes are a part of a line

feed_in : (xs : List ℕ) → no_feed (xs ++ 10 ∷ []) ≡ true → ⊥
feed_in [] h = let bad : false ≡ true = h in cc
feed_in (x ∷ xs) h = grind (arith, feed_in xs)

-- a partial line has no complete line
none_there : (xs z : List ℕ) (zs : List (List ℕ)) → no_feed xs ≡ true → IsComplete z → lines xs ≡ z ∷ zs → ⊥
none_there [] z zs none complete is = let bad : [] ≡ z ∷ zs = is in cc
none_there (y ∷ ys) z zs none complete is = grind (arith, lines_rest (y ∷ ys) none, feed_in complete.0)

ends_there : (xs ys zs us : List (List ℕ)) (rest : List ℕ) → no_feed rest ≡ true → AreComplete xs → xs ≡ ys ++ zs → lines rest ≡ zs ++ us → xs ≡ ys
ends_there xs ys [] us rest none each is there = is ∙ append-nil ys
ends_there xs ys (z ∷ zs) us rest none each is there = absurd (none_there rest z (zs ++ us) none (complete_in ys z zs (rw is at each)) there)

-- the complete lines of the bytes lead to the reader's stage alone
pub reached : (most : ℕ) (h : PieceState) (b : List ℕ) (s : RepresentsBytes most h b) (complete : List (List ℕ)) (left : List ℕ) (stage : Stage)
    → b ≡ concat_lines complete ++ left → AreComplete complete → no_feed left ≡ true → LeadsTo most complete stage → h.place.stage ≡ stage
reached most h b s complete left stage whole each unfinished reaches =
    let same : complete ++ lines left ≡ s.complete ++ lines h.rest = sym (lines_joined complete left each) ∙ ap lines (sym whole ∙ s.whole) ∙ lines_joined s.complete h.rest s.each in
    let all : complete ≡ s.complete = elim (nested complete s.complete (lines left) (lines h.rest) same) [
      | inl p ↦ sym (ends_there s.complete complete p.0 (lines h.rest) left unfinished s.each p.1 p.2)
      | inr p ↦ ends_there complete s.complete (p.0 ∷ p.1) (lines left) h.rest s.unfinished each p.2 p.3
    ] in
    grind (arith, Leads-reached most complete stage reaches, after_lines-place most s.complete h.place s.place_is)

-- the complete lines of the bytes spell the recording to which they led
pub says_stage : (most : ℕ) (h : PieceState) (b : List ℕ) (r : Recording) (s : RepresentsBytes most h b) (c : SpellsSoFar most b r) → h.place.stage ≡ Within c.version r
says_stage most h b r s c = reached most h b s c.complete c.rest (Within c.version r) c.whole c.each c.unfinished c.reaches

-- a part without a line feed ends no line
pub still_begins : (most : ℕ) (h : PieceState) (b part : List ℕ) (r : Recording) → RepresentsBytes most h b → no_feed part ≡ true → HasPrefixSpelling most (b ++ part) r → HasPrefixSpelling most b r
still_begins most h b part r s part_none x =
    grind (arith, either most h b part r s x, none_there, StandsFor-hold most h b part s part_none, complete_in)

-- ---- the next bytes are the rest of a line

only : (z : List ℕ) (zs us : List (List ℕ)) (l : List ℕ) → l ∷ [] ≡ z ∷ zs ++ us → z ∷ zs ≡ l ∷ []
only z [] us l e = let same : l ≡ z = cc in rw same refl
only z (y ∷ ys) us l e = absurd (let bad : [] ≡ y ∷ ys ++ us = cc in cc)

-- only the last line spells anything new
pub newly_begins : (most : ℕ) (h : PieceState) (b line : List ℕ) (r : Recording) → RepresentsBytes most h b → IsComplete line → HasPrefixSpelling most (b ++ line) r → HasPrefixSpelling most b r ⊎ SpellsSoFar most (b ++ line) r
newly_begins most h b line r s complete x = elim (either most h b line r s x) [
  | inl y ↦ inl y
  | inr y ↦ (let l = h.rest ++ line in
      let alone : lines l ≡ l ∷ [] = ap lines (sym (append-nil l)) ∙ lines_complete l [] (IsComplete-append h.rest line s.unfinished complete) in
      let all : x.3.complete ≡ s.complete ++ l ∷ [] = y.3 ∙ ap (λ ls. s.complete ++ ls) (only y.0 y.1 y.2 l (sym alone ∙ y.4)) in
      inr (record {
        complete = x.3.complete;
        rest = [];
        version = x.3.version;
        whole = ap (λ xs. xs ++ line) s.whole ∙ append_assoc (concat_lines s.complete) h.rest line ∙ ap (λ xs. concat_lines s.complete ++ xs) (sym (append-nil l)) ∙ sym (joined-append s.complete (l ∷ [])) ∙ ap concat_lines (sym all) ∙ sym (append-nil (concat_lines x.3.complete));
        each = x.3.each;
        unfinished = refl;
        reaches = x.3.reaches;
      }))
]

-- ---- the next bytes have an error

-- a line with an error is none of the lines that spell a recording
faulty : (most : ℕ) (h : PieceState) (b z : List ℕ) (zs c : List (List ℕ)) (f : TextFault) (stage : Stage) (s : RepresentsBytes most h b) → position_after most h.place z ≡ Err f → c ≡ s.complete ++ z ∷ zs → LeadsTo most c stage → ⊥
faulty most h b z zs c f stage s bad is reaches =
    grind (
      arith,
      Leads-reached most c stage reaches,
      after_lines-append most start_position h.place s.complete (z ∷ zs) (after_lines-place most s.complete h.place s.place_is),
    )

-- the text's prefixes spell no recording that those of the bytes before did not, whatever follows
no_more : (most : ℕ) (h : PieceState) (b tail l : List ℕ) (ls : List (List ℕ)) (r : Recording) (f : TextFault) → RepresentsBytes most h b → lines (h.rest ++ tail) ≡ l ∷ ls → position_after most h.place l ≡ Err f → HasPrefixSpelling most (b ++ tail) r → HasPrefixSpelling most b r
no_more most h b tail l ls r f s split bad x = elim (either most h b tail r s x) [
  | inl y ↦ y
  | inr y ↦ absurd (faulty most h b y.0 y.1 x.3.complete f _ s (let first : y.0 ≡ l = grind arith in rw first bad) y.3 x.3.reaches)
]

-- if the rest of a line completes one with an error, no longer prefix spells another recording
pub no_more_line : (most : ℕ) (h : PieceState) (b line more : List ℕ) (r : Recording) (f : TextFault) → RepresentsBytes most h b → IsComplete line → position_after most h.place (h.rest ++ line) ≡ Err f → HasPrefixSpelling most ((b ++ line) ++ more) r → HasPrefixSpelling most b r
no_more_line most h b line more r f s complete bad x =
    let split = lines_complete (h.rest ++ line) more (IsComplete-append h.rest line s.unfinished complete) in
    no_more most h b (line ++ more) (h.rest ++ line) (lines more) r f s (rw (← append_assoc h.rest line more) split) bad (rw (append_assoc b line more) at x)

-- if a partial line has an error, whatever follows, no longer prefix spells another recording
pub no_more_part : (most : ℕ) (h : PieceState) (b part more : List ℕ) (r : Recording) (f : TextFault) → RepresentsBytes most h b → no_feed (h.rest ++ part) ≡ true → 0 < length (h.rest ++ part)
    → IsLimitFault most (record { place = h.place; rest = h.rest ++ part }) f → HasPrefixSpelling most ((b ++ part) ++ more) r → HasPrefixSpelling most b r
no_more_part most h b part more r f s none some past x =
    let g = grown (h.rest ++ part) more some none in
    no_more most h b (part ++ more) ((h.rest ++ part) ++ g.0) g.1 r f s (rw (← append_assoc h.rest part more) g.2) (past g.0) (rw (append_assoc b part more) at x)

-- ---- nothing was read

nothing : (c : List (List ℕ)) (rest more : List ℕ) → AreComplete c → [] ≡ (concat_lines c ++ rest) ++ more → c ≡ []
nothing [] rest more each is = refl
nothing (l ∷ ls) rest more each is = absurd (let none : 0 ≡ length (((l ++ concat_lines ls) ++ rest) ++ more) = ap length is in
    omega (arith, none, length-append ((l ++ concat_lines ls) ++ rest) more, length-append (l ++ concat_lines ls) rest, length-append l (concat_lines ls), ap length each.0.2, length-append each.0.0 (10 ∷ [])))

-- no prefix of the empty text spells a recording
pub none_begins : (most : ℕ) (r : Recording) → HasPrefixSpelling most [] r → ⊥
none_begins most r x = grind (arith, nothing)

-- ---- the trace so far

-- the trace of the stage is what the complete lines spell
pub trace_says : {T : Type 0} (o : Option T) (run : T → Recording) (n : ℕ) (h : PieceState) → IfSome o (λ t. IsWithinText h.place.stage (run t))
    → IfSome o (λ t. (most : ℕ) (b : List ℕ) → HasReceived most (record { most = n; pieces = h }) b → SpellsSoFar most b (run t))
trace_says o run n h going = grind arith

-- the complete lines spell no other recording
pub trace_only : {T : Type 0} (o : Option T) (run : T → Recording) (n : ℕ) (h : PieceState) → IfSome o (λ t. IsWithinText h.place.stage (run t))
    → IfSome o (λ t. (most : ℕ) (b : List ℕ) (r : Recording) → HasReceived most (record { most = n; pieces = h }) b → SpellsSoFar most b r → run t ≡ r)
trace_only o run n h going = IfSome_then o going (λ t at most b r fed says. grind (arith, says_stage most h b r fed.1.0 says))

-- if the stage has no trace, they spell none
pub trace_none : {T : Type 0} (o : Option T) (n : ℕ) (h : PieceState) → IfNone o ((r : Recording) → IsWithinText h.place.stage r → ⊥)
    → IfNone o ((most : ℕ) (b : List ℕ) (r : Recording) → HasReceived most (record { most = n; pieces = h }) b → SpellsSoFar most b r → ⊥)
trace_none None n h none = λ most b r fed says. none r (says.version, says_stage most h b r fed.1.0 says)
trace_none (Some t) n h none = tt

-- the trace, with or without an end line, is that of the complete lines
pub so_far_says : {T : Type 0} (o : Option T) (run : T → Recording) (n : ℕ) (h : PieceState) → IfSome o (λ t. recording_at h.place.stage ≡ Some (run t))
    → IfSome o (λ t. (most : ℕ) (b : List ℕ) → HasReceived most (record { most = n; pieces = h }) b → SpellsLines most b (run t))
so_far_says o run n h is = grind arith

-- before the header the complete lines spell none
pub so_far_none : {T : Type 0} (o : Option T) (n : ℕ) (h : PieceState) → IfNone o (recording_at h.place.stage ≡ None)
    → IfNone o ((most : ℕ) (b : List ℕ) (r : Recording) → HasReceived most (record { most = n; pieces = h }) b → SpellsLines most b r → ⊥)
so_far_none None n h none = λ most b r fed says.
    let stage : h.place.stage ≡ says.stage = reached most h b fed.1.0 says.complete says.rest says.stage says.whole says.each says.unfinished says.reaches in
    let bad : None ≡ Some r = sym none ∙ ap recording_at stage ∙ says.recorded in
    cc
so_far_none (Some t) n h none = tt
