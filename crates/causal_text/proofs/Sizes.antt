-- The canonical text of a recording with bounded numbers is within the limit.
use Rattle.std.proofs.Common.{◌≡◌, ℕ, ◌+◌, ◌*◌, ◌≤◌, List, [], ◌∷◌, ◌++◌, length, None, true, refl, sym, arith, length-append, append-nil}
use Rattle.std.specs.Prelude.{decimal, reverse}
use Rattle.std.proofs.lemmas.Bool.{false≢true}
use Rattle.std.proofs.lemmas.Fmt.{length-decimal-le}
use Rattle.std.proofs.lemmas.List.{reverse-append}
use Rattle.std.proofs.lemmas.List.Concat.{flat_map-append}
use Rattle.causal_name.specs.declared.Det.{Det}
use Rattle.causal_trace.specs.declared.entry.Entry.{Entry}
use Rattle.causal_trace.specs.declared.entry.Entry.TheVariants.{Deliver, Restart, Forget}
use Rattle.causal_trace.specs.Past.{listed_by, listed_in}
use Rattle.causal_trace.specs.declared.fault.TraceFault.TheVariants.{NoSend, NotDown, NoDelivery}
use Rattle.causal_trace.specs.Rows.{Recording, rows_within, refusal_rows, first_fault, AreLegalEntries, IsWellFormed, FitsLimits}
use Rattle.causal_trace.proofs.Lemmas.EntryFacts.{row_fails}
use Rattle.causal_trace.specs.Sizes.{DetIsBounded, DetsAreBounded, EntryIsBounded, EntriesAreBounded}
use Rattle.causal_line.specs.declared.parsed_line.ParsedLine.TheVariants as parsed
use Rattle.causal_line.specs.declared.version.Version.{Version}
use Rattle.causal_spelling.specs.Spelling.{det_text, more_dets_text, dets_text}
use Rattle.causal_lines.specs.Canonical.{entry_text, entries_text, line_text, canonical_text}
use Rattle.causal_line.specs.Stages.{max_text_len}
use Rattle.causal_line.specs.Versions.{version_number}
use Rattle.causal_lines.proofs.Lemmas.CanonicalParts.{canonical_parts}

-- a process number, or a number of processes, takes at most 3 bytes
three : (n : ℕ) → n ≤ 256 → length (decimal n) ≤ 3
three n h = length-decimal-le 3 n (omega arith) (omega arith) (omega arith)

-- another number takes at most 8 bytes
eight : (n : ℕ) → n ≤ 16777216 → length (decimal n) ≤ 8
eight n h = length-decimal-le 8 n (omega arith) (omega arith) (omega arith)

length-det : (d : Det) → DetIsBounded 256 d → length (det_text d) ≤ 27
length-det d h = grind (arith, three, eight, length-append)

length-more : (ds : List Det) → DetsAreBounded 256 ds → length (more_dets_text ds) ≤ 28 * length ds
length-more [] h = omega arith
length-more (d ∷ ds) h = grind (arith, length-det, length-more ds h.1, length-append)

length-dets : (ds : List Det) → DetsAreBounded 256 ds → length (dets_text ds) ≤ 28 * length ds + 2
length-dets [] h = omega arith
length-dets (d ∷ ds) h = grind (arith, length-det, length-more, length-append)

length-entry : (e : Entry) → EntryIsBounded 256 e → length (entry_text e) ≤ 28 * length (listed_by e) + 38
length-entry e h = grind (arith, length-det, length-dets, length-append, three, eight)

-- all entries but the last, and the last
all_but_last : (es : List Entry) (e : Entry) → EntriesAreBounded 256 (es ++ e ∷ []) → EntriesAreBounded 256 es × EntryIsBounded 256 e
all_but_last [] e h = (tt, h.0)
all_but_last (x ∷ es) e h = let rest = all_but_last es e h.1 in ((h.0, rest.0), rest.1)

length-entries : (past : List Entry) → EntriesAreBounded 256 (reverse past) → length (entries_text (reverse past)) ≤ 28 * listed_in past + 39 * length past
length-entries [] h = omega arith
length-entries (e ∷ past) h =
    grind (
      arith,
      all_but_last,
      reverse-append (e ∷ []) past,
      length-entry,
      length-entries past (all_but_last (reverse past) e (rw (reverse-append (e ∷ []) past) at h)).0,
      length-append,
      flat_map-append,
      append-nil,
    )

header_short : (version : Version) (n : ℕ) → n ≤ 256 → length (line_text (parsed.Header (version_number version) n)) ≤ 20
header_short version n h = grind (arith, three, length-append)

length-whole : (r : Recording) → r.processes ≤ 256 → EntriesAreBounded 256 (reverse r.past) → length r.past ≤ 16777216 → length (canonical_text r) ≤ 28 * listed_in r.past + 39 * length r.past + 40
length-whole r few small short = grind (arith, canonical_parts, header_short, eight, length-entries, length-append)

-- the first entry of a run lists nothing
first_lists : (n : ℕ) (e : Entry) → first_fault n [] e ≡ None → length (listed_by e) ≡ 0
unfolding rows_within
first_lists n (Deliver to send rsn listed) h = absurd (false≢true (sym (row_fails (refusal_rows n [] (Deliver to send rsn listed)) h 3 (true, NoSend) refl)))
first_lists n (Restart who listed) h = absurd (false≢true (sym (row_fails (refusal_rows n [] (Restart who listed)) h 2 (true, NotDown) refl)))
first_lists n (Forget who (d ∷ ds)) h = absurd (false≢true (sym (row_fails (refusal_rows n [] (Forget who (d ∷ ds))) h 4 (true, NoDelivery) refl)))
first_lists n _ h = refl

one_lists : (n : ℕ) (past : List Entry) → AreLegalEntries n past → length past ≤ 1 → listed_in past ≡ 0
one_lists n [] h few = refl
one_lists n (e ∷ []) h few = omega (arith, first_lists n e h.1)
one_lists n (e ∷ f ∷ past) h few = absurd (omega (arith, few))

-- the canonical text has at most 512 bytes for each entry that a limit allows
pub length-canonical : (most : ℕ) (r : Recording) → 1 ≤ most → IsWellFormed r → FitsLimits most r → EntriesAreBounded 256 (reverse r.past) → length r.past ≤ 16777216 → length (canonical_text r) ≤ max_text_len most
length-canonical most r some formed kept small short = grind (arith, length-whole, one_lists)
