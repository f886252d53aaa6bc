-- The canonical text of a recording spells it.
use Rattle.std.proofs.Common.{◌≡◌, ℕ, ◌<◌, ◌≤◌, ◌^◌, List, [], ◌∷◌, ◌++◌, length, true, Some, Ok, refl, ap, sym, ◌∙◌, arith, length-append}
use Rattle.std.specs.Prelude.{flat_map, map, reverse}
use Rattle.std.specs.List.{list_all}
use Rattle.std.proofs.lemmas.Bool.{and_parts}
use Rattle.std.proofs.lemmas.List.{reverse-append}
use Rattle.std.proofs.lemmas.List.Folds.{list_all-append}
use Rattle.std.proofs.Math.Seq.{get_or-append_seam, take-append_seam}
use Rattle.serde_json.specs.Read.{read}
use Rattle.causal_trace.specs.declared.entry.Entry.{Entry}
use Rattle.causal_line.specs.declared.parsed_line.ParsedLine.{ParsedLine}
use Rattle.causal_line.specs.declared.parsed_line.ParsedLine.TheVariants as parsed
use Rattle.causal_line.specs.declared.stage.Stage.TheVariants.{Ended}
use Rattle.causal_line.specs.Lines.{lines, IsComplete}
use Rattle.causal_line.specs.Values.{without_line_feed, parse_line}
use Rattle.causal_line.specs.Stages.{lines_up_to}
use Rattle.causal_lines.specs.Canonical.{parsed_line_text, line_text, canonical_version}
use Rattle.causal_trace.specs.Rows.{Recording}
use Rattle.causal_trace.specs.Sizes.{EntriesAreBounded, NumbersAreBounded, LimitsAreKept}
use Rattle.causal_line.specs.declared.version.Version.TheVariants.{One, Two}
use Rattle.causal_line.specs.Versions.{allows, AllowsAll, FitsVersion}
use Rattle.causal_text.specs.Laws.{CanonicalTextReadsBack}
use Rattle.causal_text.proofs.Sizes.{length-canonical}
use Rattle.causal_text.proofs.ShapeData.{read-compact_text, data_of, shape_compact, shape_back, shape_simple, shape_shallow, ShapeFits, plain_shape, plain_utf8, plain_no_feed}
use Rattle.causal_line.proofs.Lemmas.CompleteLines.{lines_complete}
use Rattle.causal_line.proofs.Lemmas.Values.{json_of-utf8}

content_line : (xs : List ℕ) → without_line_feed (xs ++ 10 ∷ []) ≡ xs
unfolding without_line_feed
content_line xs = grind (arith, length-append, get_or-append_seam xs 10 [] 0, take-append_seam xs (10 ∷ []))

pub line_back : (s : ParsedLine) → ShapeFits s → parse_line (line_text s) ≡ Ok s
unfolding parse_line
line_back s h =
    let reads : read (parsed_line_text s) ≡ Some (data_of s) = ap read (sym (shape_compact s)) ∙ read-compact_text (data_of s) (shape_simple s h) (shape_shallow s) in
    rw (content_line (parsed_line_text s), json_of-utf8 (parsed_line_text s) (data_of s) (plain_utf8 (parsed_line_text s) (plain_shape s h)) reads) (shape_back s h)

abbrev ShapesFit : List ParsedLine → Type 0
ShapesFit [] = Unit {0}
ShapesFit (s ∷ ss) = ShapeFits s × ShapesFit ss

shapes_back : (ss : List ParsedLine) → ShapesFit ss → map parse_line (lines (flat_map line_text ss)) ≡ map Ok ss
shapes_back [] h = refl
shapes_back (s ∷ ss) h =
    let complete : IsComplete (line_text s) = (parsed_line_text s, plain_no_feed (parsed_line_text s) (plain_shape s h.0), refl) in
    rw (lines_complete (line_text s) (flat_map line_text ss) complete, line_back s h.0, shapes_back ss h.1) refl

shapes_fit : (es : List Entry) (count : ℕ) → EntriesAreBounded 256 es → count < 2 ^ 32 → ShapesFit (map parsed.Entry es ++ parsed.End count ∷ [])
shapes_fit [] count h few = (few, tt)
shapes_fit (e ∷ es) count h few = (h.0, shapes_fit es count h.1 few)

-- ---- the recording fits its version

lines_of_first : (past : List Entry) → list_all (allows One) (reverse past) ≡ true → AllowsAll One past
lines_of_first [] h = tt
lines_of_first (e ∷ past) h =
    let parts = and_parts _ _ (sym (list_all-append (allows One) (reverse past) (e ∷ [])) ∙ (rw (reverse-append (e ∷ []) past) at h)) in
    (lines_of_first past parts.0, (and_parts _ _ parts.1).0)

lines_of_second : (past : List Entry) → AllowsAll Two past
lines_of_second [] = tt
lines_of_second (e ∷ past) = (lines_of_second past, refl)

canonical_fits : (r : Recording) → r.processes ≤ 256 → FitsVersion (canonical_version r) r
canonical_fits r few = grind (arith, lines_of_first, lines_of_second)

-- the canonical text of a well-formed recording within limits spells it
pub canonical-spells : NumbersAreBounded → LimitsAreKept → CanonicalTextReadsBack
canonical-spells numbers limits most r some w kept =
    let version = canonical_version r in
    let small = numbers r 256 w w.count.1 in
    let few = limits r w in
    let fit : ShapesFit (lines_up_to (Ended version r)) = ((grind arith, omega (arith, w.count.1)), shapes_fit (reverse r.past) (length r.past) small (omega (arith, few.0))) in
    record {
      version = version;
      fits = canonical_fits r w.count.1;
      well_formed = w;
      said = shapes_back (lines_up_to (Ended version r)) fit;
      kept = kept;
      within = length-canonical most r some w kept small few.0;
    }
