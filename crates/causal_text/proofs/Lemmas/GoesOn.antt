-- The recording of a prefix is a prefix of the recording that the text spells.
use Rattle.std.proofs.Common.{arith, ◌≡◌, ◌++◌, ◌∙◌, refl, sym, ap, ℕ, List, [], ◌∷◌, length, map, reverse, Ok, Result, append_assoc}
use Rattle.std.proofs.lemmas.List.{map-append, reverse-append, reverse-reverse}
use Rattle.causal_trace.specs.declared.entry.Entry.{Entry}
use Rattle.causal_line.specs.declared.kind.TextKind.{TextKind}
use Rattle.causal_line.specs.declared.parsed_line.ParsedLine.{ParsedLine}
use Rattle.causal_line.specs.declared.parsed_line.ParsedLine.TheVariants as parsed
use Rattle.causal_line.specs.declared.stage.Stage.TheVariants.{Within, Ended}
use Rattle.causal_text.specs.Laws.{PrefixTextPrefixTrace}
use Rattle.causal_line.specs.Lines.{lines}
use Rattle.causal_line.specs.Stages.{lines_up_to}
use Rattle.causal_line.specs.Values.{parse_line}
use Rattle.causal_line.specs.Versions.{version_number}
use Rattle.causal_text.proofs.Feeds.{lines_joined}

abbrev Read : Type 0
Read = Result ParsedLine TextKind

abbrev entries_read : List Entry → List Read
entries_read es = map Ok (map parsed.Entry es)

-- entries that come first are among those before the end line
first_entries : (es fs : List Entry) (count : ℕ) (us : List Read) → entries_read es ++ us ≡ map Ok (map parsed.Entry fs ++ parsed.End count ∷ []) → (zs : List Entry) × (fs ≡ es ++ zs)
first_entries [] fs count us e = (fs, refl)
first_entries (x ∷ es) [] count us e = absurd (let head : parsed.Entry x ≡ parsed.End count = cc in let bad : parsed.Entry x ≡ parsed.End count = head in cc)
first_entries (x ∷ es) (y ∷ fs) count us e = grind (arith, first_entries es fs count us cc)

pub texts_go_on : PrefixTextPrefixTrace
texts_go_on most text whole r spells (bytes, tail, split, c) = let all : lines text ≡ c.complete ++ lines (c.rest ++ tail) = grind (arith, append_assoc, lines_joined) in
    let us = map parse_line (lines (c.rest ++ tail)) in
    let both : map Ok (lines_up_to (Within c.version r)) ++ us ≡ map Ok (lines_up_to (Ended spells.version whole)) = grind (arith, map-append) in
    let header : parsed.Header (version_number c.version) r.processes ≡ parsed.Header (version_number spells.version) whole.processes = cc in
    let entries : entries_read (reverse r.past) ++ us ≡ map Ok (map parsed.Entry (reverse whole.past) ++ parsed.End (length whole.past) ∷ []) = cc in
    let later = first_entries (reverse r.past) (reverse whole.past) (length whole.past) us entries in
    let processes : whole.processes ≡ r.processes = cc in (
      reverse later.0,
      processes,
      sym (reverse-reverse whole.past) ∙ ap reverse later.1 ∙ reverse-append (reverse r.past) later.0 ∙ ap (λ xs. reverse later.0 ++ xs) (reverse-reverse r.past),
    )
