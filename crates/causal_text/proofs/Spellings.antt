-- Reading returns the one recording that a text spells, or its first error.
use Rattle.std.proofs.lemmas.Grind.{common_steps}
use Rattle.std.proofs.Common.{◌≡◌, ℕ, ◌≤◌, List, [], ◌∷◌, ◌++◌, Ok, Err, refl, ap, ◌∙◌, arith, ◌⊎◌, ◌+◌, length, sym, subst, inl, inr, append_assoc, append-nil, length-append}
use Rattle.std.specs.Prelude.{map, reverse, Result, sum_by}
use Rattle.std.proofs.lemmas.Bool.{eqb-true, leb-false, eq-eqb}
use Rattle.std.proofs.lemmas.List.{map-append, reverse-append}
use Rattle.causal_trace.specs.Rows.{Recording, AreLegalEntries, FitsLimits}
use Rattle.causal_trace.specs.declared.entry.Entry.{Entry}
use Rattle.causal_line.proofs.Lemmas.Passed.{bind_ok, passed_not, in_limit}
use Rattle.causal_line.specs.declared.kind.TextKind.TheVariants as kind
use Rattle.causal_line.specs.declared.parsed_line.ParsedLine.{ParsedLine}
use Rattle.causal_line.specs.declared.parsed_line.ParsedLine.TheVariants as parsed
use Rattle.causal_line.specs.declared.stage.Stage.{Stage}
use Rattle.causal_line.specs.declared.stage.Stage.TheVariants.{Opening, Within, Ended}
use Rattle.causal_line.specs.declared.version.Version.{Version}
use Rattle.causal_line.specs.Reading.{◌>>=◌}
use Rattle.causal_line.specs.Stages.{max_text_len, open_text, apply_line, check_limit, advance_stage, lines_up_to, empty_recording}
use Rattle.causal_line.specs.Values.{parse_line}
use Rattle.causal_line.specs.Versions.{version_of, version_number, max_processes_in, AllowsAll}
use Rattle.causal_text.specs.Spelling.{IsSound, SpellsWithin, LeadsTo, IsFaultOfLine, IsFirstFaultWithin}
use Rattle.causal_trace.proofs.Lemmas.WellFormed.{rows_next, within_next, within_before, next_within}
use Rattle.std.proofs.lemmas.List.Sums.{sum_by_push}
use Rattle.causal_line.specs.declared.kind.TextKind.{TextKind}
use Rattle.causal_line.specs.declared.kind.TextFault.{TextFault}
use Rattle.causal_line.specs.Lines.{lines}
use Rattle.causal_lines.specs.ReadPositions.{ReadPosition, start_position, position_after, finish_at, IsOpen}
use Rattle.causal_text.specs.ReadPosition.{IsPositionAfter}
use Rattle.causal_text.specs.Inside.LineByLine.{after_lines, read_text}
use Rattle.causal_line.specs.Refusals.{◌at◌}
use Rattle.causal_line.proofs.Lemmas.LineBytes.{sum_by-lines}
use Rattle.causal_trace.specs.State.{with_entry}

-- the parsed line becomes the last one, and the next stage is sound
pub record Adds (most : ℕ) (s : Stage) (x : ParsedLine) (t : Stage) : Type 0 where
  -- the next stage is sound
  pub sound : IsSound most t
  -- the parsed line is the last one
  pub more : lines_up_to t ≡ lines_up_to s ++ x ∷ []

-- the newest entry is the last parsed line
pub said_entries : (e : Entry) (past : List Entry) → map parsed.Entry (reverse (e ∷ past)) ≡ map parsed.Entry (reverse past) ++ parsed.Entry e ∷ []
said_entries e past = ap (map parsed.Entry) (reverse-append (e ∷ []) past) ∙ map-append parsed.Entry (reverse past) (e ∷ [])

Adds-begun : (most number n : ℕ) (t : Stage) → open_text (version_of number) n ≡ Ok t → Adds most Opening (parsed.Header number n) t
Adds-begun most number n t h = grind (arith, eqb-true)

Adds-admitted : (most : ℕ) (version : Version) (r : Recording) (e : Entry) (t : Stage) → IsSound most (Within version r) → apply_line most (Within version r) (parsed.Entry e) ≡ Ok t → Adds most (Within version r) (parsed.Entry e) t
Adds-admitted most version r e t w h = grind (arith, rows_next, within_next, said_entries)

pub Adds-follow : (most : ℕ) (s : Stage) (x : ParsedLine) (t : Stage) → IsSound most s → apply_line most s x ≡ Ok t → Adds most s x t
Adds-follow most Opening (parsed.Header number n) t w h = Adds-begun most number n t h
Adds-follow most (Within version r) (parsed.Entry e) t w h = Adds-admitted most version r e t w h
Adds-follow most _ _ t w h = grind arith

-- an accepted line parses, follows the stage, and ends within the limit
pub record Accepted (most : ℕ) (s : Stage) (end : ℕ) (line : List ℕ) (t : Stage) : Type 0 where
  -- the parsed line
  pub spoken : ParsedLine
  -- the line parses as it
  pub reads : parse_line line ≡ Ok spoken
  -- it leads to the next stage
  pub adds : Adds most s spoken t
  -- it ends within the text's limit
  pub within : end ≤ max_text_len most

Accepted-limit : (most : ℕ) (s : Stage) (end : ℕ) (line : List ℕ) (t : Stage) → IsSound most s → check_limit most end (parse_line line >>= apply_line most s) ≡ Ok t → Accepted most s end line t
Accepted-limit most s end line t w h = grind (arith, common_steps, passed_not, bind_ok, Adds-follow, leb-false)

-- a line that leads from a sound stage to another is accepted there
pub Accepted-line : (most : ℕ) (s : Stage) (end : ℕ) (line : List ℕ) (t : Stage) → IsSound most s → advance_stage most s end line ≡ Ok t → Accepted most s end line t
Accepted-line most (Ended version r) end line t w h = absurd (let no : Err kind.After ≡ Ok t = h in cc)
Accepted-line most s end line t w h = Accepted-limit most s end line t w h

-- an error is in the first part, or in what follows it
bind_err : {A B E : Type 0} (r : Result A E) (f : A → Result B E) (e : E) → (r >>= f) ≡ Err e → (r ≡ Err e) ⊎ ((x : A) × (r ≡ Ok x) × (f x ≡ Err e))
bind_err (Ok x) f e h = inr (x, refl, h)
bind_err (Err d) f e h = inl (let same : d ≡ e = cc in ap Err same)

-- the stage of the next position, and the error of a line, are those of its result
at_ok : (r : Result Stage TextKind) (line : ℕ) (f : Stage → ReadPosition) (q : ReadPosition) → ((r at line) >>= λ s. Ok (f s)) ≡ Ok q → (s : Stage) × (r ≡ Ok s) × (f s ≡ q)
at_ok r line f q h = grind arith

at_err : (r : Result Stage TextKind) (line : ℕ) (f : Stage → ReadPosition) (e : TextFault) → ((r at line) >>= λ s. Ok (f s)) ≡ Err e → (r ≡ Err e.kind) × (e.line ≡ line)
at_err r line f e h = grind arith

-- before the first line, the position is the start
pub IsPlaceAfter-start : (most : ℕ) → IsPositionAfter most [] start_position
IsPlaceAfter-start most = record { reaches = record { said = refl; sound = tt; within = omega arith }; count = refl; size = refl }

LeadsTo-line : (most : ℕ) (before : List (List ℕ)) (s : Stage) (line : List ℕ) (t : Stage) → LeadsTo most before s → advance_stage most s (sum_by length before + length line) line ≡ Ok t → LeadsTo most (before ++ line ∷ []) t
LeadsTo-line most before s line t r h =
    let a = Accepted-line most s _ line t r.sound h in
    record {
      said = map-append parse_line before (line ∷ []) ∙ rw (r.said, a.reads) (rw (a.adds.more) (sym (map-append Ok (lines_up_to s) (a.spoken ∷ []))));
      sound = a.adds.sound;
      within = rw (sum_by_push length before line) a.within;
    }

-- a position after some lines leads to one after the next line, if that has no error
pub IsPlaceAfter-next : (most : ℕ) (before : List (List ℕ)) (p q : ReadPosition) (line : List ℕ) → IsPositionAfter most before p → position_after most p line ≡ Ok q → IsPositionAfter most (before ++ line ∷ []) q
IsPlaceAfter-next most before p q line st h =
    let step = at_ok (advance_stage most p.stage (p.size + length line) line) (p.count + 1) _ q h in
    subst (λ (u : ReadPosition). IsPositionAfter most (before ++ line ∷ []) u) step.2 (record {
      reaches = LeadsTo-line most before p.stage line step.0 st.reaches (rw (← st.size) step.1);
      count = rw (st.count, length-append before (line ∷ [])) refl;
      size = rw (st.size, sum_by_push length before line) refl;
    })

-- a position after some lines leads to one after all further lines without an error
pub IsPlaceAfter-lines : (most : ℕ) (before ls : List (List ℕ)) (p q : ReadPosition) → IsPositionAfter most before p → after_lines most p ls ≡ Ok q → IsPositionAfter most (before ++ ls) q
IsPlaceAfter-lines most before [] p q st h = grind (arith, append-nil)
IsPlaceAfter-lines most before (l ∷ ls) p q st h =
    let step = bind_ok (position_after most p l) (λ x. after_lines most x ls) q h in
    rw (← append_assoc before (l ∷ []) ls) (IsPlaceAfter-lines most (before ++ l ∷ []) ls step.0 q (IsPlaceAfter-next most before p step.0 l st step.1) step.2)

-- the error of a line is the first one of a text, if the lines before it have none
IsFaultOfLine-lines : (most : ℕ) (text : List ℕ) (before ls : List (List ℕ)) (p : ReadPosition) (e : TextFault) → lines text ≡ before ++ ls → IsPositionAfter most before p → after_lines most p ls ≡ Err e → IsFaultOfLine most text e
IsFaultOfLine-lines most text before [] p e split st h = absurd (let no : Ok p ≡ Err e = h in cc)
IsFaultOfLine-lines most text before (l ∷ ls) p e split st h =
    elim (bind_err (position_after most p l) (λ x. after_lines most x ls) e h) [
      | inl is ↦ (let parts = at_err (advance_stage most p.stage (p.size + length l) l) (p.count + 1) _ e is in record {
        before = before;
        line = l;
        after = ls;
        stage = p.stage;
        split = split;
        reaches = st.reaches;
        faulty = rw (← st.size) parts.0;
        number = rw (← st.count) parts.1;
      })
      | inr is ↦ IsFaultOfLine-lines most text (before ++ l ∷ []) ls is.0 e (split ∙ sym (append_assoc before (l ∷ []) ls)) (IsPlaceAfter-next most before p is.0 l st is.1) is.2
    ]

-- ---- the text spells what reading returns

ended_ok : (p : ReadPosition) (s : Stage) (r : Recording) → finish_at p s ≡ Ok r → (version : Version) × (s ≡ Ended version r)
ended_ok p s r h = grind arith

Spells-reached : (most : ℕ) (text : List ℕ) (version : Version) (r : Recording) → LeadsTo most (lines text) (Ended version r) → SpellsWithin most text r
Spells-reached most text version r reached = grind (arith, sum_by-lines)

-- a text spells the recording that reading returns
pub Spells-reading : (most : ℕ) (text : List ℕ) (r : Recording) → read_text most text ≡ Ok r → SpellsWithin most text r
Spells-reading most text r h =
    let step = bind_ok (after_lines most start_position (lines text)) _ r h in
    let stands = IsPlaceAfter-lines most [] (lines text) start_position step.0 (IsPlaceAfter-start most) step.1 in
    let last = ended_ok step.0 step.0.stage r step.2 in
    Spells-reached most text last.0 r (subst (λ (s : Stage). LeadsTo most (lines text) s) last.1 stands.reaches)

-- ---- an error that reading returns is the first

cut_parts : (p : ReadPosition) (s : Stage) (e : TextFault) → finish_at p s ≡ Err e → IsOpen s × (e.line ≡ p.count + 1) × (e.kind ≡ kind.Cut)
cut_parts p s e h = grind arith

-- the error that reading returns is the first one of the text
pub IsFirstFault-reading : (most : ℕ) (text : List ℕ) (e : TextFault) → read_text most text ≡ Err e → IsFirstFaultWithin most text e
IsFirstFault-reading most text e h =
    elim (bind_err (after_lines most start_position (lines text)) _ e h) [
      | inl is ↦ inl (IsFaultOfLine-lines most text [] (lines text) start_position e refl (IsPlaceAfter-start most) is)
      | inr is ↦ (let stands = IsPlaceAfter-lines most [] (lines text) start_position is.0 (IsPlaceAfter-start most) is.1 in
          let parts = cut_parts is.0 is.0.stage e is.2 in inr (record {
            stage = is.0.stage;
            reaches = stands.reaches;
            unended = parts.0;
            number = rw (← stands.count) parts.1;
            kind_is = parts.2;
          }))
    ]

-- ---- sequences of lines

-- after lines without an error, reading continues at the stage to which they lead
pub after_lines-append : (most : ℕ) (p q : ReadPosition) (ls ks : List (List ℕ)) → after_lines most p ls ≡ Ok q → after_lines most p (ls ++ ks) ≡ after_lines most q ks
after_lines-append most p q [] ks h = let same : p ≡ q = cc in rw same refl
after_lines-append most p q (l ∷ ls) ks h = let step = bind_ok (position_after most p l) _ q h in rw step.1 (after_lines-append most step.0 q ls ks step.2)

-- reading these lines from the start leads to the stage
abbrev pub Leads : (most : ℕ) → List (List ℕ) → Stage → Type 0
Leads most ls s = (q : ReadPosition) × (after_lines most start_position ls ≡ Ok q) × (q.stage ≡ s)

-- one more line leads to the next stage
Leads-more : (most : ℕ) (ls : List (List ℕ)) (l : List ℕ) (s t : Stage) → Leads most ls s → advance_stage most s (sum_by length ls + length l) l ≡ Ok t → Leads most (ls ++ l ∷ []) t
Leads-more most ls l s t led is =
    grind (
      arith,
      IsPlaceAfter-lines most [] ls start_position led.0 (IsPlaceAfter-start most) led.1,
      IsPlaceAfter-start most,
      after_lines-append most start_position led.0 ls (l ∷ []) led.1,
    )

-- ---- the last parsed line of a stage

last_of : (ls : List (List ℕ)) (xs : List ParsedLine) (x : ParsedLine) → map parse_line ls ≡ map Ok (xs ++ x ∷ [])
    → (front : List (List ℕ)) × (line : List ℕ) × (ls ≡ front ++ line ∷ []) × (map parse_line front ≡ map Ok xs) × (parse_line line ≡ Ok x)
last_of [] [] x h = absurd (grind arith)
last_of [] (y ∷ ys) x h = absurd (grind arith)
last_of (l ∷ []) [] x h = ([], l, refl, refl, cc)
last_of (l ∷ k ∷ ls) [] x h = absurd (let no : parse_line k ∷ map parse_line ls ≡ [] = cc in cc)
last_of (l ∷ ls) (y ∷ ys) x h = let later = last_of ls ys x cc in (l ∷ later.0, later.1, ap (λ ks. l ∷ ks) later.2, grind arith, later.4)

-- ---- the stages that lines reach are read

takes_header : (most : ℕ) (version : Version) (n end : ℕ) (l : List ℕ) → 1 ≤ n → n ≤ max_processes_in version → end ≤ max_text_len most → parse_line l ≡ Ok (parsed.Header (version_number version) n) → advance_stage most Opening end l ≡ Ok (Within version (empty_recording n))
takes_header most version n end l some few h is = grind (arith, in_limit)

Leads-opening : (most : ℕ) (ls : List (List ℕ)) → map parse_line ls ≡ [] → Leads most ls Opening
Leads-opening most [] h = (start_position, refl, refl)
Leads-opening most (l ∷ ls) h = absurd (let no : parse_line l ∷ map parse_line ls ≡ [] = h in cc)

-- one more line, the last one of a stage
Leads-last : (most : ℕ) (ls : List (List ℕ)) (s t : Stage) (x : ParsedLine) → map parse_line ls ≡ map Ok (lines_up_to s ++ x ∷ []) → sum_by length ls ≤ max_text_len most →
    ((front : List (List ℕ)) → map parse_line front ≡ map Ok (lines_up_to s) → sum_by length front ≤ max_text_len most → Leads most front s) →
    ((end : ℕ) (l : List ℕ) → end ≤ max_text_len most → parse_line l ≡ Ok x → advance_stage most s end l ≡ Ok t) → Leads most ls t
Leads-last most ls s t x h few led takes =
    let p = last_of ls (lines_up_to s) x h in
    let size : sum_by length ls ≡ sum_by length p.0 + length p.1 = ap (sum_by length) p.2 ∙ sum_by_push length p.0 p.1 in
    rw p.2 (Leads-more most p.0 p.1 s t (led p.0 p.3 (omega (arith, size))) (takes _ p.1 (omega (arith, size)) p.4))

Leads-within : (most : ℕ) (version : Version) (n : ℕ) (past : List Entry) (ls : List (List ℕ)) → 1 ≤ n → n ≤ max_processes_in version → AllowsAll version past → AreLegalEntries n past → FitsLimits most (record { processes = n; past = past }) →
    map parse_line ls ≡ map Ok (lines_up_to (Within version (record { processes = n; past = past }))) → sum_by length ls ≤ max_text_len most → Leads most ls (Within version (record { processes = n; past = past }))
Leads-within most version n [] ls some few lined ok kept h size =
    Leads-last most ls Opening (Within version (empty_recording n)) (parsed.Header (version_number version) n) h size (λ front is small. Leads-opening most front is)
    (λ end l small is. takes_header most version n end l some few small is)
Leads-within most version n (e ∷ past) ls some few lined ok kept h size =
    let r : Recording = record { processes = n; past = past } in
    let said_last : map parse_line ls ≡ map Ok (lines_up_to (Within version r) ++ parsed.Entry e ∷ []) = h ∙ ap (λ xs. map Ok (parsed.Header (version_number version) n ∷ xs)) (said_entries e past) in
    Leads-last most ls (Within version r) (Within version (with_entry r e)) (parsed.Entry e) said_last size
    (λ front is small. Leads-within most version n past front some few lined.0 ok.0 (within_before most r e kept) is small)
    (λ end l small is. in_limit most end _ small ∙ rw (is, lined.1, next_within most r e kept ok.1) refl)

-- lines that parse exactly as the lines up to a sound stage are read up to that stage
pub Leads-reached : (most : ℕ) (ls : List (List ℕ)) (s : Stage) → LeadsTo most ls s → Leads most ls s
Leads-reached most ls Opening r = Leads-opening most ls r.said
Leads-reached most ls (Within version q) r = Leads-within most version q.processes q.past ls r.sound.0.count.0 r.sound.1.few r.sound.1.entries r.sound.0.accepted r.sound.2 r.said r.within
Leads-reached most ls (Ended version q) r =
    Leads-last most ls (Within version q) (Ended version q) (parsed.End (length q.past)) r.said r.within
    (λ front is small. Leads-within most version q.processes q.past front r.sound.0.count.0 r.sound.1.few r.sound.1.entries r.sound.0.accepted r.sound.2 is small)
    (λ end l small is. in_limit most end _ small ∙ rw (is, eq-eqb (length q.past) (length q.past) refl) refl)

-- the position after lines has the stage to which they lead
pub after_lines-place : (most : ℕ) (ls : List (List ℕ)) (p : ReadPosition) → IsPositionAfter most ls p → after_lines most start_position ls ≡ Ok p
after_lines-place most ls p is =
    let led = Leads-reached most ls p.stage is.reaches in
    let there = IsPlaceAfter-lines most [] ls start_position led.0 (IsPlaceAfter-start most) led.1 in
    let same : led.0 ≡ p = λ i. record { stage = led.2 i; count = (there.count ∙ sym is.count) i; size = (there.size ∙ sym is.size) i } in
    led.1 ∙ ap Ok same

-- ---- a spelled recording is read

-- if a text spells a recording, reading returns it
pub reading-spelled : (most : ℕ) (text : List ℕ) (r : Recording) → SpellsWithin most text r → read_text most text ≡ Ok r
reading-spelled most text r s =
    let reached : LeadsTo most (lines text) (Ended s.version r) = record { said = s.said; sound = (s.well_formed, s.fits, s.kept); within = rw (sum_by-lines text) s.within } in
    let led = Leads-reached most (lines text) (Ended s.version r) reached in
    rw (led.1, led.2) refl
