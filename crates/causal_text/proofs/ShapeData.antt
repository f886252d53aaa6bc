-- The canonical line of a parsed line: its JSON value, which parses as the line, and its bytes.
use Rattle.std.proofs.Common.{◌≡◌, suc, ◌<◌, ◌≤◌, ◌^◌, List, [], Option, Some, refl, ap, ap₂, sym, ◌∙◌, append-nil, ℕ, ◌∷◌, ◌++◌, true, Ok, arith, append_assoc, lt-ltb, Bool, ne_eqb}
use Rattle.std.specs.Prelude.{max, option_and_then, ⊤, codes, decimal, nat_lt, ◌==◌, ◌&&◌, not, IsUtf8}
use Rattle.json.specs.Json as json
use Rattle.json.specs.Tree as tree
use Rattle.json.specs.Token.{Token}
use Rattle.json.specs.Lex.{tokens}
use Rattle.json.proofs.Printed.Tokens.{tokens-print}
use Rattle.json.proofs.Printed.Trees.{value-json_tokens, ArePrintable-json_tokens}
use Rattle.json.proofs.Printed.Decimals.{IsNumber-decimal}
use Rattle.serde_json.proofs.Texts.{print-outline}
use Rattle.serde_json.proofs.Numbers.{number_of-decimal}
use Rattle.serde_json.specs.Data.{Data, number, string, array, unsigned, Items, no_items, item, depth, items_depth}
use Rattle.serde_json.specs.Read.{max_depth, read, of_json, of_items}
use Rattle.serde_json.specs.Written.{compact_text, outline, items_outline, items_text}
use Rattle.serde_json.proofs.OnLiterals.{serde_json_on_literals}
use Rattle.causal_name.specs.declared.Det.{Det}
use Rattle.causal_trace.specs.declared.entry.Entry.TheVariants.{Send, Deliver, Stable, Crash, Restart, Forget}
use Rattle.causal_line.specs.declared.parsed_line.ParsedLine.{ParsedLine}
use Rattle.causal_line.specs.declared.parsed_line.ParsedLine.TheVariants as parsed
use Rattle.causal_line.specs.ParsedLines.{pid_at, parse_det, parse_dets, dets_at, parse_header, parse_send, parse_deliver, parse_stable, parse_crash, parse_restart, parse_forget, end_of, parse_value}
use Rattle.causal_spelling.specs.Spelling.{det_text, more_dets_text, dets_text}
use Rattle.causal_lines.specs.Canonical.{parsed_line_text}
use Rattle.causal_trace.specs.Sizes.{DetIsBounded, DetsAreBounded, EntryIsBounded}
use Rattle.std.specs.Char.{digit_value}
use Rattle.std.specs.List.{list_all}
use Rattle.std.specs.Str.{IsAscii}
use Rattle.std.specs.Str.Parse.{AllDigits}
use Rattle.std.proofs.lemmas.Fmt.{decimal_is_IsNumeral, IsAscii-decimal}
use Rattle.std.proofs.lemmas.List.Folds.{list_all-append}
use Rattle.json.proofs.Printed.Utf8.{are_ascii, IsUtf8-are_ascii}
use Rattle.causal_line.specs.Lines.{no_feed}

abbrev mutual
  -- a string, a small number, or an array of such values
  pub IsSimple : Data → Type 0
  IsSimple (number (unsigned n)) = n < 2 ^ 64
  IsSimple (string s) = ⊤
  IsSimple (array ds) = AreSimple ds
  IsSimple _ = ⊥

  pub AreSimple : Items → Type 0
  AreSimple no_items = ⊤
  AreSimple (item d ds) = IsSimple d × AreSimple ds

-- the tree of a simple value has its numbers and its depth, and reads as the value
mutual
  outline_back : (d : Data) → IsSimple d → tree.HasNumbers (outline d) × (of_json (outline d) ≡ Some d) × (tree.depth (outline d) ≡ depth d)
  outline_back (number (unsigned n)) h = (IsNumber-decimal n h, rw (number_of-decimal n h) refl, refl)
  outline_back (string s) h = (tt, refl, refl)
  outline_back (array ds) h = let all = items_back ds h in (all.0, rw all.1 refl, ap suc all.2)
  outline_back _ h = absurd h

  items_back : (ds : Items) → AreSimple ds → tree.ItemsHaveNumbers (items_outline ds) × (of_items (items_outline ds) ≡ Some ds) × (tree.items_depth (items_outline ds) ≡ items_depth ds)
  items_back no_items h = (tt, refl, refl)
  items_back (item d ds) h =
      let first = outline_back d h.0 in
      let rest = items_back ds h.1 in
      ((first.0, rest.0), rw (first.1, rest.1) refl, ap₂ max first.2 rest.2)

-- the value of what was read, if nothing follows
abbrev whole : Option (json.Json × List Token) → Option Data
whole o = option_and_then of_json (option_and_then (λ p. json.if_last p.0 p.1) o)

-- the compact text of a simple value that is not nested too deeply reads as that value
pub read-compact_text : (d : Data) → IsSimple d → depth d ≤ max_depth → read (compact_text d) ≡ Some d
read-compact_text d h shallow =
    let back = outline_back d h in
    let same : tokens (compact_text d) ≡ tree.json_tokens (outline d) = ap tokens (sym (print-outline d)) ∙ tokens-print (tree.json_tokens (outline d)) (ArePrintable-json_tokens (outline d) back.0) in
    ap whole (ap (json.value max_depth) (same ∙ sym (append-nil _)) ∙ value-json_tokens (outline d) max_depth [] (rw back.2 shallow)) ∙ back.1

abbrev num : ℕ → Data
num n = number (unsigned n)

abbrev det_data : Det → Data
det_data d = array (item (num d.source.0) (item (num d.ssn) (item (num d.dest.0) (item (num d.rsn) no_items))))

abbrev dets_items : List Det → Items
dets_items [] = no_items
dets_items (d ∷ ds) = item (det_data d) (dets_items ds)

abbrev named : List ℕ → Items → Data
named name ds = array (item (string name) ds)

-- the JSON value of a parsed line
pub data_of : ParsedLine → Data
data_of (parsed.Header version n) = named (codes "trace") (item (num version) (item (num n) no_items))
data_of (parsed.Entry (Send from to ssn)) = named (codes "send") (item (num from.0) (item (num to.0) (item (num ssn) no_items)))
data_of (parsed.Entry (Deliver to send rsn listed)) = named (codes "deliver") (item (num to.0) (item (num send) (item (num rsn) (item (array (dets_items listed)) no_items))))
data_of (parsed.Entry (Stable det)) = named (codes "stable") (item (det_data det) no_items)
data_of (parsed.Entry (Crash who)) = named (codes "crash") (item (num who.0) no_items)
data_of (parsed.Entry (Restart who listed)) = named (codes "restart") (item (num who.0) (item (array (dets_items listed)) no_items))
data_of (parsed.Entry (Forget who listed)) = named (codes "forget") (item (num who.0) (item (array (dets_items listed)) no_items))
data_of (parsed.End count) = named (codes "end") (item (num count) no_items)

more_compact : (ds : List Det) → items_text true (dets_items ds) ≡ more_dets_text ds ++ codes "]"
more_compact [] = refl
more_compact (d ∷ ds) = ap (λ s. 44 ∷ (det_text d ++ s)) (more_compact ds) ∙ ap (λ s. 44 ∷ s) (sym (append_assoc (det_text d) (more_dets_text ds) (codes "]")))

dets_compact : (ds : List Det) → compact_text (array (dets_items ds)) ≡ dets_text ds
dets_compact [] = refl
dets_compact (d ∷ ds) = ap (λ s. 91 ∷ (det_text d ++ s)) (more_compact ds)

-- the compact text of the value is the canonical text of the parsed line
pub shape_compact : (s : ParsedLine) → compact_text (data_of s) ≡ parsed_line_text s
unfolding serde_json_on_literals data_of
shape_compact (parsed.Entry (Deliver to send rsn listed)) = ap (λ s. codes "[\"deliver\"," ++ (decimal to.0 ++ (codes "," ++ (decimal send ++ (codes "," ++ (decimal rsn ++ (codes "," ++ (s ++ codes "]")))))))) (dets_compact listed)
shape_compact (parsed.Entry (Restart who listed)) = ap (λ s. codes "[\"restart\"," ++ (decimal who.0 ++ (codes "," ++ (s ++ codes "]")))) (dets_compact listed)
shape_compact (parsed.Entry (Forget who listed)) = ap (λ s. codes "[\"forget\"," ++ (decimal who.0 ++ (codes "," ++ (s ++ codes "]")))) (dets_compact listed)
shape_compact _ = refl

abbrev pub ShapeFits : ParsedLine → Type 0
ShapeFits (parsed.Header version n) = (version < 2 ^ 32) × (n < 2 ^ 32)
ShapeFits (parsed.Entry e) = EntryIsBounded 256 e
ShapeFits (parsed.End count) = count < 2 ^ 32

det_back : (d : Det) → DetIsBounded 256 d → parse_det (det_data d) ≡ Ok d
unfolding parse_det pid_at
det_back d h = grind arith

dets_back : (ds : List Det) → DetsAreBounded 256 ds → parse_dets (dets_items ds) ≡ Ok ds
dets_back [] h = refl
dets_back (d ∷ ds) h = rw (det_back d h.0, dets_back ds h.1) refl

-- the value parses as the parsed line
pub shape_back : (s : ParsedLine) → ShapeFits s → parse_value (data_of s) ≡ Ok s
unfolding parse_value data_of parse_header parse_send parse_deliver parse_stable parse_crash parse_restart parse_forget end_of pid_at dets_at
shape_back s h = grind (arith, det_back, dets_back)

-- ---- the value is simple and shallow

AreSimple-dets : (ds : List Det) → DetsAreBounded 256 ds → AreSimple (dets_items ds)
AreSimple-dets [] h = tt
AreSimple-dets (d ∷ ds) h = grind (arith, AreSimple-dets ds)

depth-dets : (ds : List Det) → items_depth (dets_items ds) ≤ 1
depth-dets [] = omega arith
depth-dets (d ∷ ds) = omega (arith, depth-dets ds)

-- the value of a parsed line is simple
pub shape_simple : (s : ParsedLine) → ShapeFits s → IsSimple (data_of s)
unfolding data_of
shape_simple s h = grind (arith, AreSimple-dets)

-- the value of a parsed line is not nested too deeply to be read
pub shape_shallow : (s : ParsedLine) → depth (data_of s) ≤ 127
unfolding data_of
shape_shallow s = grind (arith, depth-dets)

abbrev pub plain_byte : ℕ → Bool
plain_byte x = nat_lt x 128 && not (x == 10)

abbrev pub plain : List ℕ → Bool
plain xs = list_all plain_byte xs

not_feed : (x : ℕ) → digit_value x < 10 → x ≡ 10 → ⊥
not_feed x h is = let at : digit_value 10 < 10 = rw is at h in omega arith

plain_digits : (ds : List ℕ) → AllDigits 10 ds → IsAscii ds → plain ds ≡ true
plain_digits [] h a = refl
plain_digits (d ∷ ds) h a = rw (lt-ltb d 128 (a 0), ne_eqb d 10 (not_feed d h.0)) (plain_digits ds h.1 (λ i. a (suc i)))

plain_decimal : (n : ℕ) → n < 2 ^ 64 → plain (decimal n) ≡ true
plain_decimal n h = plain_digits (decimal n) (decimal_is_IsNumeral n h).0.1 (IsAscii-decimal n h)

plain_det : (d : Det) → DetIsBounded 256 d → plain (det_text d) ≡ true
plain_det d h = grind (arith, list_all-append, plain_decimal)

plain_more : (ds : List Det) → DetsAreBounded 256 ds → plain (more_dets_text ds) ≡ true
plain_more [] h = refl
plain_more (d ∷ ds) h = grind (arith, list_all-append, plain_det, plain_more ds)

plain_dets : (ds : List Det) → DetsAreBounded 256 ds → plain (dets_text ds) ≡ true
plain_dets ds h = grind (arith, list_all-append, plain_det, plain_more)

-- the canonical text of a parsed line is plain
pub plain_shape : (s : ParsedLine) → ShapeFits s → plain (parsed_line_text s) ≡ true
plain_shape s h = grind (arith, list_all-append, plain_decimal, plain_det, plain_dets)

plain_ascii : (xs : List ℕ) → plain xs ≡ true → are_ascii xs ≡ true
plain_ascii [] h = refl
plain_ascii (x ∷ xs) h = grind (arith, plain_ascii xs)

-- a plain text is UTF-8
pub plain_utf8 : (xs : List ℕ) → plain xs ≡ true → IsUtf8 xs
plain_utf8 xs h = IsUtf8-are_ascii xs (plain_ascii xs h)

-- a plain text has no line feed
pub plain_no_feed : (xs : List ℕ) → plain xs ≡ true → no_feed xs ≡ true
plain_no_feed [] h = refl
plain_no_feed (x ∷ xs) h = grind (arith, plain_no_feed xs)
