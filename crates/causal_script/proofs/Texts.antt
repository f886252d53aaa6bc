-- Reading the lines of a text one after another.
use Rattle.std.proofs.Common.{map, ◌≡◌, ◌⊎◌, inl, inr, ℕ, zero, suc, ◌+◌, ◌<◌, ◌≤◌, List, [], ◌∷◌, ◌++◌, length, take, drop, Bool, true, false, cond, eqb, Option, Some, None, Result, Ok, Err, refl, ap, sym, ◌∙◌, subst, arith}
use Rattle.std.specs.Prelude.{slice_get, is_ok, is_err, min, ◌-◌, ◌^◌}
use Rattle.std.specs.List.{onto_first, AllByRecursion, range_with_len}
use Rattle.std.proofs.Math.Seq.{take-length}
use Rattle.std.proofs.lemmas.List.Sums.{sum_by-cons}
use Rattle.std.proofs.lemmas.Bool.{eqb-true, eq-eqb, cases_lt}
use Rattle.std.proofs.lemmas.Option.{none-some, slice_get_within}
use Rattle.std.proofs.lemmas.List.{map-append, map-id, append_assoc, length-drop, length_push, drop_all, append-nil, length-map}
use Rattle.std.proofs.lemmas.List.FromFn.{map-range_with_len_more}
use Rattle.causal_script.specs.declared.script.Command.{Command}
use Rattle.causal_script.specs.declared.script.ScriptFault.{ScriptFault}
use Rattle.causal_script.specs.declared.script.ScriptFaultKind.{ScriptFaultKind}
use Rattle.causal_script.specs.declared.script.ScriptFaultKind.TheVariants.{Big, Script, NoMemory}
use Rattle.causal_script.specs.Lines.{is_feed, script_lines, count_line_feeds}
use Rattle.causal_script.specs.Spelling.{max_script, command_line, IsRequest, IsStart, SpellsScript, start_line}
use Rattle.causal_script.specs.Faults.{IsCommandLine, IsInPlace, IsFaultAfterLines, AreSound, IsFirstScriptFault, IsScriptReadUpTo}
use Rattle.causal_script.specs.Inside.Reading.{split_at_byte}
use Rattle.causal_script.specs.Inside.Place.{IsBigLine, is_line, line_or_fault, IsAfter, AreCommands, AreOnLines}
use Rattle.causal_script.specs.declared.start.Start.{Start}

-- ---- the first line and the rest

-- the bytes before the first line feed are the first line; the rest has the other lines
pub lines_cut : (xs : List ℕ) (parts : List ℕ × List ℕ) → split_at_byte 10 xs ≡ Some parts → script_lines xs ≡ parts.0 ∷ script_lines parts.1
lines_cut [] parts e = absurd (none-some parts e)
lines_cut (x ∷ xs) parts e = grind (arith, lines_cut xs)

pub lines_uncut : (x : ℕ) (xs : List ℕ) → split_at_byte 10 (x ∷ xs) ≡ None → script_lines (x ∷ xs) ≡ (x ∷ xs) ∷ []
lines_uncut x [] e = grind arith
lines_uncut x (y ∷ ys) e = grind (arith, lines_uncut y ys)

-- a text without a line feed is one line
pub lines_last : (xs front back : List ℕ) → 0 < length xs → None ≡ split_at_byte 10 xs → front ≡ take (length xs) xs → back ≡ drop (length xs) xs → script_lines xs ≡ front ∷ script_lines back
lines_last xs front back some e f b = grind (arith, lines_uncut, take-length, drop_all)

-- ---- the number of lines

length_onto : (x : ℕ) (ls : List (List ℕ)) → 0 < length ls → length (onto_first x ls) ≡ length ls
length_onto x ls some = grind arith

feeds_cons : (x : ℕ) (xs : List ℕ) (b : Bool) → eqb x 10 ≡ b → count_line_feeds (x ∷ xs) ≡ cond b 1 0 + count_line_feeds xs
feeds_cons x xs b t = sum_by-cons (λ y. cond (is_feed y) 1 0) x xs ∙ ap (λ c. cond c 1 0 + count_line_feeds xs) t

-- each byte is in one of the lines
pub feeds_below : (n : ℕ) (xs : List ℕ) → n < length xs → count_line_feeds (take n xs) < length (script_lines xs)
feeds_below n [] h = absurd (omega arith)
feeds_below zero (x ∷ xs) h = grind arith
feeds_below (suc n) (x ∷ xs) h = grind (arith, feeds_below n xs, feeds_cons, length_onto)

pub feeds_take : (n : ℕ) (xs : List ℕ) → count_line_feeds (take n xs) ≤ n
feeds_take zero xs = omega arith
feeds_take (suc n) [] = omega arith
feeds_take (suc n) (x ∷ xs) = grind (arith, feeds_take n xs, feeds_cons)

-- a text has at most as many lines as bytes
pub length_lines : (xs : List ℕ) → length (script_lines xs) ≤ length xs
length_lines [] = omega arith
length_lines (x ∷ xs) = grind (arith, length_lines xs)

-- ---- the next line

-- the first remaining line follows the lines that were read
pub line_here : {X : Type 0} (count : ℕ) (ls : List X) (l : X) (rest : List X) → drop count ls ≡ l ∷ rest → (slice_get ls count ≡ Some l) × (drop (suc count) ls ≡ rest)
line_here zero ls l rest e = grind arith
line_here (suc count) [] l rest e = absurd (let no : [] ≡ l ∷ rest = e in cc)
line_here (suc count) (k ∷ ls) l rest e = line_here count ls l rest e

-- if no lines remain, the text has at most as many lines as were read
pub line_past : {X : Type 0} (count : ℕ) (ls : List X) → drop count ls ≡ [] → length ls ≤ count
line_past count ls e = omega (arith, length-drop count ls, ap length e)

-- ---- errors of a line

-- a line without an error is within the limit and was parsed
pub judged_ok : {A : Type 0} (big : Option ℕ) (line : ℕ) (said : Option A) (x : A) → line_or_fault big line said ≡ Ok x → (is_line line big ≡ false) × (said ≡ Some x)
judged_ok {A} big line said x e = grind arith

abbrev Fault : ℕ → ScriptFaultKind → ScriptFault
Fault line kind = record { line = line; kind = kind }

pub judged_err : {A : Type 0} (big : Option ℕ) (line : ℕ) (said : Option A) (f : ScriptFault) → line_or_fault big line said ≡ Err f
    → ((is_line line big ≡ true) × (f ≡ Fault line Big)) ⊎ ((is_line line big ≡ false) × (said ≡ None) × (f ≡ Fault line Script))
judged_err {A} big line said f e = grind arith

pub is_big : (text : List ℕ) (big : Option ℕ) (before : ℕ) → IsBigLine text big → is_line (before + 1) big ≡ true → IsFaultAfterLines text before Big
is_big text None before h t = absurd (let no : false ≡ true = t in cc)
is_big text (Some line) before h t = let same : line ≡ before + 1 = eqb-true line (before + 1) t in (h.0, omega (arith, h.1))

-- if the first byte past the limit is in another line, this line is not too long
pub not_big : (text : List ℕ) (big : Option ℕ) (before : ℕ) → IsBigLine text big → is_line (before + 1) big ≡ false → IsFaultAfterLines text before Big → ⊥
not_big text big before h t bad = grind (arith, eq-eqb)

-- zero lines contain no error
pub sound_none : (text : List ℕ) → AreSound text 0
sound_none text before kind below bad = omega arith

-- one more line that is in place and within the limit adds no error
pub sound_more : (text : List ℕ) (count next : ℕ) → next ≡ count + 1 → AreSound text count → (IsFaultAfterLines text count Big → ⊥) → IsInPlace count (slice_get (script_lines text) count) → AreSound text next
sound_more text count next is sound small place before kind below bad = elim (cases_lt before count) [
  | inl lower ↦ sound before kind lower bad
  | inr upper ↦ let same : before ≡ count = omega arith in here kind (subst (λ (n : ℕ). IsFaultAfterLines text n kind) same bad)
]
  where
    here : (k : ScriptFaultKind) → IsFaultAfterLines text count k → ⊥
    here Big b = small b
    here Script b = b place
    here NoMemory b = b

-- the error of the next line is the first error of the text
pub first_fault : {A : Type 0} (text l : List ℕ) (before : ℕ) (big : Option ℕ) (said : Option A) (f : ScriptFault)
    → IsBigLine text big → AreSound text before → slice_get (script_lines text) before ≡ Some l → (said ≡ None → IsInPlace before (Some l) → ⊥)
    → line_or_fault big (before + 1) said ≡ Err f → IsFirstScriptFault text f
first_fault text l before big said f bigs sound here misplaced e = elim (judged_err big (before + 1) said f e) [
  | inl h ↦ rw h.1 (record { before = before; number = refl; sound = sound; faulty = is_big text big before bigs h.0; big_first = λ is. absurd (let no : Big ≡ Script = is in cc) })
  | inr h ↦ rw h.2 (record { before = before; number = refl; sound = sound; faulty = λ place. misplaced h.1 (rw here at place); big_first = λ is. not_big text big before bigs h.0 })
]

-- ---- the part of the text that was read

-- before any line is read, the whole text remains
pub after_none : (text : List ℕ) → IsAfter text 0 text
after_none text = record { rest = refl; within = omega arith; sound = sound_none text }

-- after one more line without an error, the bytes after it remain
pub after_more : {A : Type 0} (text left l after : List ℕ) (count next : ℕ) (big : Option ℕ) (said : Option A) (x : A) → next ≡ count + 1
    → IsAfter text count left → script_lines left ≡ l ∷ script_lines after → IsBigLine text big → line_or_fault big (count + 1) said ≡ Ok x → (said ≡ Some x → IsInPlace count (Some l)) → IsAfter text next after
after_more text left l after count next big said x is a split bigs e place =
    let here = line_here count (script_lines text) l (script_lines after) (a.rest ∙ split) in
    let ok = judged_ok big (count + 1) said x e in
    let inside : count < length (script_lines text) = slice_get_within (script_lines text) count l here.0 in
    let step : next ≡ suc count = omega arith in
    let sound : AreSound text next = sound_more text count next is a.sound (not_big text big count bigs ok.0) (rw here.0 (place ok.1)) in
    record { rest = ap (λ n. drop n (script_lines text)) step ∙ here.1; within = omega arith; sound = sound }

-- the number of lines without an error is bounded
pub count_small : (text left : List ℕ) (count : ℕ) → IsAfter text count left → count ≤ 1048576
count_small text left count a = grind (arith, feeds_take max_script text, length_lines text, a.sound (count_line_feeds (take max_script text)) Big)

-- a text without an error is within the limit
pub whole_within : (text : List ℕ) (count : ℕ) → IsAfter text count [] → length text ≤ max_script
whole_within text count a = grind (
  arith,
  line_past count (script_lines text) a.rest,
  feeds_below max_script text,
  a.sound (count_line_feeds (take max_script text)) Big,
)

-- ---- the commands read so far

pub all_push : {X : Type 0} (P : X → Type 0) (xs : List X) (x : X) → AllByRecursion P xs → P x → AllByRecursion P (xs ++ x ∷ [])
all_push P [] x h p = (p, tt)
all_push P (y ∷ xs) x h p = (h.0, all_push P xs x h.1 p)

range_more : (a n next : ℕ) → next ≡ a + n → range_with_len a (suc n) ≡ range_with_len a n ++ next ∷ []
range_more a n next is = grind (arith, map-range_with_len_more (λ x. x) a n next, map-id)

-- one more command line adds its command
pub commands_more : (rest left l after : List ℕ) (commands : List Command) (c : Command) → AreCommands rest commands left → script_lines left ≡ l ∷ script_lines after
    → l ≡ command_line c.request → IsRequest c.request → AreCommands rest (commands ++ c ∷ []) after
commands_more rest left l after commands c h split is fits = grind (arith, map-append, append_assoc, all_push)

-- the commands are on the lines up to the line read last
pub reaches_more : {A : Type 0} (text left l after : List ℕ) (commands : List Command) (line next : ℕ) (big : Option ℕ) (said : Option A) (x : A) (c : Command)
    → next ≡ line + 1 → c.line ≡ next → AreOnLines text commands line left → script_lines left ≡ l ∷ script_lines after → IsBigLine text big → line_or_fault big next said ≡ Ok x → (said ≡ Some x → IsCommandLine l)
    → AreOnLines text (commands ++ c ∷ []) next after
reaches_more text left l after commands line next big said x c is here r split bigs e command =
    let place : IsCommandLine l → IsInPlace line (Some l) = λ w. subst (λ (n : ℕ). IsInPlace n (Some l)) (let count : line ≡ suc (length commands) = omega (arith, r.count) in sym count) w in
    let more : map (λ (d : Command). d.line) (commands ++ c ∷ []) ≡ map (λ (d : Command). d.line) commands ++ c.line ∷ [] = map-append (λ (d : Command). d.line) commands (c ∷ []) in
    let longer : length (commands ++ c ∷ []) ≡ suc (length commands) = omega (arith, length_push commands c) in
    let number : c.line ≡ 2 + length commands = omega (arith, r.count) in
    record {
      after = after_more text left l after line next big said x is r.after split bigs (subst (λ (n : ℕ). line_or_fault big n said ≡ Ok x) is e) (λ same. place (command same));
      numbered = more ∙ ap (λ ns. ns ++ c.line ∷ []) r.numbered ∙ sym (range_more 2 (length commands) c.line number) ∙ ap (range_with_len 2) (sym longer);
      count = omega (arith, r.count);
    }

-- an error on a command's line is the first error of the text
pub command_fault : {A : Type 0} (text left l after : List ℕ) (commands : List Command) (line next : ℕ) (big : Option ℕ) (said : Option A) (f : ScriptFault)
    → next ≡ line + 1 → AreOnLines text commands line left → script_lines left ≡ l ∷ script_lines after → IsBigLine text big → line_or_fault big next said ≡ Err f → (said ≡ None → IsCommandLine l → ⊥) → IsFirstScriptFault text f
command_fault text left l after commands line next big said f is r split bigs e none =
    let misplaced : IsInPlace line (Some l) → IsCommandLine l = λ w. subst (λ (n : ℕ). IsInPlace n (Some l)) (let count : line ≡ suc (length commands) = omega (arith, r.count) in count) w in
    let here = line_here line (script_lines text) l (script_lines after) (r.after.rest ∙ split) in
    first_fault text l line big said f bigs r.after.sound here.0 (λ no place. none no (misplaced place)) (subst (λ (n : ℕ). line_or_fault big n said ≡ Err f) is e)

-- no line before the next one has an error
pub read_up_to : (text left : List ℕ) (line next : ℕ) → next ≡ line + 1 → IsAfter text line left → IsScriptReadUpTo text next
read_up_to text left line next is a = record { before = line; number = is; sound = a.sound }

-- the error of a line contains the line's number
pub judged_line : {A : Type 0} (big : Option ℕ) (line : ℕ) (said : Option A) (f : ScriptFault) → line_or_fault big line said ≡ Err f → f.line ≡ line
judged_line big line said f e = grind (arith, judged_err big line said f e)

-- ---- effects of a call

-- a push that succeeded added its element
pub pushed : {T E X : Type 0} (r : Result T E) (new more old : X) → is_err r ≡ false → new ≡ cond (is_ok r) more old → new ≡ more
pushed r new more old told e = grind arith

-- line numbers do not reach the saturation limit, so the next number is one higher
pub next_line : (text left : List ℕ) (line next : ℕ) → IsAfter text line left → next ≡ min (line + 1) (2 ^ 32 - 1) → next ≡ line + 1
next_line text left line next a e = let small : line ≤ 1048576 = count_small text left line a in omega arith

-- a text that was parsed to its end spells the parsed start and commands
pub spelled : (text first rest : List ℕ) (s : Start) (commands : List Command) (line : ℕ) → script_lines text ≡ first ∷ script_lines rest → IsStart s → first ≡ start_line s
    → AreCommands rest commands [] → AreOnLines text commands line [] → SpellsScript text (record { start = s; commands = commands })
spelled text first rest s commands line split start is read r = grind (arith, append-nil, whole_within, length-map, length_lines)

-- the first error of an empty text is its missing first line
pub empty_fault : (text : List ℕ) → text ≡ [] → IsFirstScriptFault text (record { line = 1; kind = Script })
empty_fault text is = grind (arith, sound_none [])
