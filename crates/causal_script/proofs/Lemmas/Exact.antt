-- A text spells exactly one script or has exactly one first error, and never both.
use Rattle.std.proofs.Common.{◌≡◌, ◌⊎◌, inl, inr, ℕ, zero, suc, ◌+◌, ◌≤◌, List, [], ◌∷◌, ◌++◌, length, take, map, Option, Some, None, Result, Ok, Err, refl, ap, sym, ◌∙◌, subst, arith}
use Rattle.std.specs.Prelude.{slice_get}
use Rattle.std.specs.List.{AllByRecursion}
use Rattle.std.proofs.lemmas.Bool.{cases_lt, cases_order}
use Rattle.std.proofs.lemmas.List.{length-map}
use Rattle.std.proofs.lemmas.Option.{same_Some}
use Rattle.causal_protocol.specs.declared.request.Request.{Request}
use Rattle.causal_script.specs.declared.script.Command.{Command}
use Rattle.causal_script.specs.declared.script.ScriptFault.{ScriptFault}
use Rattle.causal_script.specs.declared.script.ScriptFaultKind.{ScriptFaultKind}
use Rattle.causal_script.specs.declared.script.ScriptFaultKind.TheVariants.{Big, Script, NoMemory}
use Rattle.causal_script.specs.declared.start.Start.{Start}
use Rattle.causal_script.specs.Lines.{script_lines, count_line_feeds}
use Rattle.causal_script.specs.Spelling.{max_script, ScriptContent, IsStart, IsRequest, SpellsScript, start_line, command_line}
use Rattle.causal_script.specs.Faults.{IsInPlace, IsFaultAfterLines, IsFirstScriptFault}
use Rattle.causal_script.specs.Inside.Reading.{split_at_byte, parse_request, start_of}
use Rattle.causal_script.specs.Inside.Place.{IsBigLine, line_or_fault, IsAfter, AreCommands, AreOnLines}
use Rattle.causal_script.proofs.Starts.{request_back, commanded, not_commanded, says_request, start_back, started, not_started, says_start}
use Rattle.causal_script.proofs.Texts.{lines_cut, lines_uncut, line_here, judged_ok, sound_none, first_fault, after_none, after_more, commands_more, reaches_more, command_fault, empty_fault, spelled}
use Rattle.causal_script.proofs.Numbers.{cut_shorter}

-- ---- at most one script

one_list : (cs ds : List Command) → map (λ c. command_line c.request) cs ≡ map (λ c. command_line c.request) ds → map (λ (c : Command). c.line) cs ≡ map (λ (c : Command). c.line) ds
    → AllByRecursion (λ c. IsRequest c.request) cs → AllByRecursion (λ c. IsRequest c.request) ds → cs ≡ ds
one_list [] [] e n f g = refl
one_list [] (d ∷ ds) e n f g = absurd (let no : [] ≡ command_line d.request ∷ map (λ (c : Command). command_line c.request) ds = e in cc)
one_list (c ∷ cs) [] e n f g = absurd (let no : command_line c.request ∷ map (λ (c : Command). command_line c.request) cs ≡ [] = e in cc)
one_list (c ∷ cs) (d ∷ ds) e n f g = grind (arith, same_Some, request_back c.request f.0, request_back d.request g.0, one_list cs ds)

-- a text spells at most one script content
pub one_plan : (text : List ℕ) (p q : ScriptContent) → SpellsScript text p → SpellsScript text q → p ≡ q
one_plan text p q a b = grind (arith, same_Some, start_back p.start a.content.start, start_back q.start b.content.start, length-map, one_list)

-- ---- at most one error

-- a text has at most one first error
pub one_fault : (text : List ℕ) (f g : ScriptFault) → IsFirstScriptFault text f → IsFirstScriptFault text g → f ≡ g
one_fault text f g a b = elim (cases_order a.before b.before) [
  | inl is ↦ same (sym is)
  | inr (inl lower) ↦ absurd (b.sound a.before f.kind lower a.faulty)
  | inr (inr lower) ↦ absurd (a.sound b.before g.kind lower b.faulty)
]
  where
    kinds : (k l : ScriptFaultKind) → IsFaultAfterLines text a.before k → IsFaultAfterLines text a.before l → (k ≡ Script → IsFaultAfterLines text a.before Big → ⊥) → (l ≡ Script → IsFaultAfterLines text a.before Big → ⊥) → k ≡ l
    kinds k l x y p q = grind arith

    same : b.before ≡ a.before → f ≡ g
    same e =
        let faulty = subst (λ (n : ℕ). IsFaultAfterLines text n g.kind) e b.faulty in
        let first = subst (λ (n : ℕ). g.kind ≡ Script → IsFaultAfterLines text n Big → ⊥) e b.big_first in
        let kind : f.kind ≡ g.kind = kinds f.kind g.kind a.faulty faulty a.big_first first in
        let line : f.line ≡ g.line = a.number ∙ ap (λ n. n + 1) (sym e) ∙ sym b.number in
        λ i. record { line = line i; kind = kind i }

-- ---- never both

commands_stand : (cs : List Command) (k : ℕ) → AllByRecursion (λ c. IsRequest c.request) cs → IsInPlace (suc k) (slice_get (map (λ c. command_line c.request) cs) k)
commands_stand [] k h = tt
commands_stand (c ∷ cs) zero h = (c.request, h.0, refl)
commands_stand (c ∷ cs) (suc k) h = grind (arith, commands_stand cs k h.1)

stands : (s : Start) (cs : List Command) (k : ℕ) → IsStart s → AllByRecursion (λ c. IsRequest c.request) cs → IsInPlace k (slice_get (start_line s ∷ map (λ c. command_line c.request) cs) k)
stands s cs k h all = grind (arith, commands_stand)

-- no text both spells a script content and has a first error
pub not_both : (text : List ℕ) (p : ScriptContent) (f : ScriptFault) → SpellsScript text p → IsFirstScriptFault text f → ⊥
not_both text p f a b = by_kind f.kind b.faulty where
  by_kind : (k : ScriptFaultKind) → IsFaultAfterLines text b.before k → ⊥
  by_kind Big h = omega (arith, h.0, a.within)
  by_kind Script h = h (rw a.said (stands p.start p.commands b.before a.content.start a.content.requests))
  by_kind NoMemory h = h

-- ---- at least one of both

-- the text spells a script content or has a first error
abbrev One : List ℕ → Type 0
One text = ((p : ScriptContent) × SpellsScript text p) ⊎ ((f : ScriptFault) × IsFirstScriptFault text f)

cases_big : (text : List ℕ) → (big : Option ℕ) × IsBigLine text big
cases_big text = elim (cases_lt max_script (length text)) [
  | inl over ↦ (Some (count_line_feeds (take max_script text) + 1), (over, refl))
  | inr within ↦ (None, within)
]

-- the next line, and the bytes after it
abbrev Next : ℕ → List ℕ → Type 0
Next x xs = (l : List ℕ) × (after : List ℕ) × (script_lines (x ∷ xs) ≡ l ∷ script_lines after) × (length after ≤ length xs)

next_of : (x : ℕ) (xs : List ℕ) → Next x xs
next_of x xs = by_parts (split_at_byte 10 (x ∷ xs)) refl where
  by_parts : (r : Option (List ℕ × List ℕ)) → split_at_byte 10 (x ∷ xs) ≡ r → Next x xs
  by_parts None e = (x ∷ xs, [], lines_uncut x xs e, omega arith)
  by_parts (Some parts) e = (parts.0, parts.1, lines_cut (x ∷ xs) parts e, (let less = cut_shorter 10 (x ∷ xs) parts e in omega arith))

-- the remaining bytes are lines of commands, or one of these lines has the first error
read_on : (text rest left : List ℕ) (fuel : ℕ) (big : Option ℕ) (s : Start) (first : List ℕ) (cs : List Command) (line : ℕ) → length left ≤ fuel → IsBigLine text big
    → (script_lines text ≡ first ∷ script_lines rest) × IsStart s × (first ≡ start_line s) → AreCommands rest cs left → AreOnLines text cs line left → One text
read_on text rest [] fuel big s first cs line few bigs start are on = inl (record { start = s; commands = cs }, spelled text first rest s cs line start.0 start.1 start.2 are on)
read_on text rest (x ∷ xs) zero big s first cs line few bigs start are on = absurd (omega arith)
read_on text rest (x ∷ xs) (suc fuel) big s first cs line few bigs start are on =
    by_line (λ after ds n less. read_on text rest after fuel big s first ds n less bigs start) (line_or_fault big (line + 1) (parse_request next.0)) refl where
      next : Next x xs
      next = next_of x xs

      by_line : ((after : List ℕ) (ds : List Command) (n : ℕ) → length after ≤ fuel → AreCommands rest ds after → AreOnLines text ds n after → One text)
          → (r : Result Request ScriptFault) → line_or_fault big (line + 1) (parse_request next.0) ≡ r → One text
      by_line again (Err f) e = inr (f, command_fault text (x ∷ xs) next.0 next.1 cs line (line + 1) big (parse_request next.0) f refl on next.2 bigs e (not_commanded next.0))
      by_line again (Ok r) e =
          let ok = judged_ok big (line + 1) (parse_request next.0) r e in
          let says = says_request next.0 r ok.1 in
          let c : Command = record { line = line + 1; request = r } in
          again next.1 (cs ++ c ∷ []) (line + 1) (let less = next.3 in omega arith) (commands_more rest (x ∷ xs) next.0 next.1 cs c are next.2 says.1 says.0)
          (reaches_more text (x ∷ xs) next.0 next.1 cs line (line + 1) big (parse_request next.0) r c refl refl on next.2 bigs e (commanded next.0 r))

-- the first line is a start, or has the first error
first_line : (text l rest : List ℕ) (b : (big : Option ℕ) × IsBigLine text big) → script_lines text ≡ l ∷ script_lines rest → (r : Result Start ScriptFault) → line_or_fault b.0 1 (start_of l) ≡ r → One text
first_line text l rest b split (Err f) e =
    inr (f, first_fault text l 0 b.0 (start_of l) f b.1 (sound_none text) (line_here 0 (script_lines text) l (script_lines rest) split).0 (not_started l) e)
first_line text l rest b split (Ok s) e =
    let says = says_start l s (judged_ok b.0 1 (start_of l) s e).1 in
    let after : IsAfter text 1 rest = after_more text text l rest 0 1 b.0 (start_of l) s refl (after_none text) split b.1 e (started l s) in
    read_on text rest rest (length rest) b.0 s l [] 1 (omega arith) b.1 (split, says.0, says.1) (record { said = refl; requests = tt }) (record { after = after; numbered = refl; count = refl })

-- each text spells a script content or has a first error
pub one_of_them : (text : List ℕ) → One text
one_of_them [] = inr (record { line = 1; kind = Script }, empty_fault [] refl)
one_of_them (x ∷ xs) =
    let next = next_of x xs in
    let big = cases_big (x ∷ xs) in
    first_line (x ∷ xs) next.0 next.1 big next.2 (line_or_fault big.0 1 (start_of next.0)) refl
