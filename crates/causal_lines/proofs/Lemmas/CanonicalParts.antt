-- The parts of the canonical text.
use Rattle.std.proofs.Common.{◌≡◌, List, [], ◌∷◌, ◌++◌, length, refl, append-nil, arith}
use Rattle.std.specs.Prelude.{flat_map, map}
use Rattle.std.proofs.lemmas.List.Concat.{flat_map-append}
use Rattle.causal_trace.specs.Rows.{Recording}
use Rattle.causal_trace.specs.State.{entries_of}
use Rattle.causal_line.specs.Versions.{version_number}
use Rattle.causal_trace.specs.declared.entry.Entry.{Entry}
use Rattle.causal_line.specs.declared.parsed_line.ParsedLine.TheVariants as parsed
use Rattle.causal_lines.specs.Canonical.{line_text, entries_text, canonical_text, canonical_version}

entries_text_lines : (es : List Entry) → flat_map line_text (map parsed.Entry es) ≡ entries_text es
entries_text_lines [] = refl
entries_text_lines (e ∷ es) = rw (entries_text_lines es) refl

-- the canonical text is the header, the lines of the entries, and the end line
pub canonical_parts : (r : Recording) → canonical_text r ≡ line_text (parsed.Header (version_number (canonical_version r)) r.processes) ++ (entries_text (entries_of r) ++ line_text (parsed.End (length r.past)))
canonical_parts r = grind (arith, flat_map-append line_text (map parsed.Entry (entries_of r)), entries_text_lines (entries_of r), append-nil)
