-- Lists with the newest first, against those with the oldest first. An error of a prefix is that of the whole.
use Rattle.std.proofs.Common.{refl, ◌≡◌, ℕ, List, [], ◌∷◌, ◌++◌, length, reverse, Ok, Err, ap, subst, ◌∙◌, arith, append_assoc, Result, ◌+◌, inl, inr, ◌<◌, ◌≤◌, true, false, Some}
use Rattle.std.proofs.lemmas.List.{append-nil, reverse-append, reverse-reverse, map-append, length-reverse}
use Rattle.causal_trace.specs.declared.entry.Entry.{Entry}
use Rattle.causal_merge.specs.declared.event.RecorderLine.{RecorderLine}
use Rattle.causal_merge.specs.declared.event.EventAtLine.{EventAtLine}
use Rattle.causal_merge.specs.declared.fault.MergeFault.{MergeFault}
use Rattle.causal_merge.specs.Reading.{read_all_lines}
use Rattle.causal_merge.specs.EventMerge.{merge_events_of}
use Rattle.std.specs.Prelude.{IfOk, IfErr, map, not, slice_index_or}
use Rattle.causal_line.specs.Lines.{lines}
use Rattle.causal_merge.specs.declared.merge.OrderedRun.{OrderedRun}
use Rattle.causal_merge.specs.declared.parsed_files.ParsedFiles.{ParsedFiles}
use Rattle.causal_merge.specs.declared.recorder_chunk.RecorderChunkLine.{RecorderChunkLine}
use Rattle.causal_merge.specs.ParsedFiles.{HasParsedLines, AreParsedFiles}
use Rattle.causal_merge.specs.RecordingReaders.{HasReadLines}
use Rattle.causal_merge.specs.Inside.OrderedRuns.{IsOrderedRun}
use Rattle.causal_merge.specs.Inside.RecorderChunks.{IsParsedLine, AreParsedLines, lines_of}
use Rattle.std.specs.Ordering.{nat_cmp}
use Rattle.std.specs.FinSet.{FinSet, empty, contains, contains-empty}
use Rattle.causal_trace.specs.Limits.{IsProcessCount}
use Rattle.causal_trace.specs.Rows.{Recording}
use Rattle.causal_merge.specs.ReadLines.{HasAllHeaders, LacksHeader, header_fault as missing_fault, has_header}
use Rattle.causal_merge.specs.Order.{IsMergedOrder}
use Rattle.causal_merge.specs.Merges.{MergesFrom, IsFirstMergeFaultWithin}
use Rattle.causal_merge.specs.Origins.{origin_of}
use Rattle.causal_holders.specs.Members.{HasMembers}
use Rattle.causal_merge.specs.declared.event.RunHeader.{RunHeader}
use Rattle.causal_holders.proofs.Lemmas.MemberCounts.{none_in, one_in, one_out}
use Rattle.causal_merge.specs.Inside.Merger as merger

-- the reverse of a list with one more element, and a rest
pub reverse_step : {X : Type 0} (x : X) (xs ys : List X) → reverse (x ∷ xs) ++ ys ≡ reverse xs ++ x ∷ ys
reverse_step x xs ys = ap (λ zs. zs ++ ys) (reverse-append (x ∷ []) xs) ∙ append_assoc (reverse xs) (x ∷ []) ys

pub reading-after : (most : ℕ) (newer before : List (List ℕ)) (f : MergeFault) → read_all_lines most before ≡ Err f → read_all_lines most (newer ++ before) ≡ Err f
reading-after most [] before f h = h
reading-after most (l ∷ newer) before f h = grind (arith, reading-after most newer before f h)

pub merged-after : (most n : ℕ) (newer before : List EventAtLine) (f : MergeFault) → merge_events_of most n before ≡ Err f → merge_events_of most n (newer ++ before) ≡ Err f
merged-after most n [] before f h = h
merged-after most n (e ∷ newer) before f h = grind (arith, merged-after most n newer before f h)

-- the error of an event, after those before it, is that of all events
pub merged-fault : (most n m : ℕ) (all before rest : List EventAtLine) (e : EventAtLine) (f : MergeFault) → m ≡ n → all ≡ reverse before ++ e ∷ rest → merger.IsFaultOfEvents most m f (e ∷ before) → merger.IsFaultOfEvents most n f (reverse all)
merged-fault most n m all before rest e f same split h =
    λ other. rw (split, reverse-append, reverse-reverse, reverse_step) (merged-after most n (reverse rest) (e ∷ before) f (subst (λ (k : ℕ). merge_events_of most k (e ∷ before) ≡ Err f) same (h other)))

-- the entries of all events, if none is left
pub merged-all : (most n m : ℕ) (all before rest : List EventAtLine) (past : List Entry) → m ≡ n → all ≡ reverse before ++ rest → rest ≡ [] → merge_events_of most m before ≡ Ok past → merge_events_of most n (reverse all) ≡ Ok past
merged-all most n m all before rest past same split none h = grind (arith, append-nil, reverse-reverse before)

-- the content has one item for each line
pub reading-length : (most : ℕ) (before : List (List ℕ)) (said : List RecorderLine) → read_all_lines most before ≡ Ok said → length said ≡ length before
reading-length most [] said h = grind arith
reading-length most (l ∷ before) said h = grind (arith, reading-length most before)

-- ---- the parsed lines of a chunk, and the limits of a reader

-- ---- the lines of a chunk

-- one more parsed line at the end
pub AreParsedLines-append : (ls : List RecorderChunkLine) (l : RecorderChunkLine) → AreParsedLines ls → IsParsedLine l → AreParsedLines (ls ++ l ∷ [])
AreParsedLines-append [] l h is = (is, tt)
AreParsedLines-append (k ∷ ls) l h is = (h.0, AreParsedLines-append ls l h.1 is)

-- the chunk is its parsed lines, one more line, and those that are left
pub one_more : (chunk after left : List (List ℕ)) (ls : List RecorderChunkLine) (l : RecorderChunkLine) → chunk ≡ lines_of ls ++ left → left ≡ l.bytes.now ∷ after → chunk ≡ lines_of (ls ++ l ∷ []) ++ after
one_more chunk after left ls l is cut = grind (arith, map-append (λ (k : RecorderChunkLine). k.bytes.now) ls (l ∷ []), append_assoc)

-- the next line of the chunk
pub next_of : (whole done : List (List ℕ)) (l : RecorderChunkLine) (now after : List RecorderChunkLine) → whole ≡ done ++ lines_of now → now ≡ l ∷ after → whole ≡ (done ++ l.bytes.now ∷ []) ++ lines_of after
next_of whole done l now after is next = grind (arith, append_assoc)

-- ---- a reader's limit is that of its text

-- what holds of the ordered run, holds of a reader that has read the text
pub ok_of_reader : {T : Type 0} (limit size : ℕ) (files : ParsedFiles) (o : OrderedRun) (P : ℕ → List ℕ → T → Type 0) (r : Result T MergeFault) → ((n : ℕ) (t : List ℕ) → HasParsedLines n files (reverse (lines t)) → IsOrderedRun n t o)
    → IfOk r (λ x. (text : List ℕ) → IsOrderedRun limit text o → P limit text x) → IfOk r (λ x. (most : ℕ) (text : List ℕ) → HasReadLines most (record { most = limit; files = files; size = size }) (reverse (lines text)) → P most text x)
ok_of_reader limit size files o P (Ok x) ordered h = λ most text read. subst (λ n. P n text x) read.0 (h text (ordered limit text (rw read.0 read.2)))
ok_of_reader limit size files o P (Err fault) ordered h = tt

pub err_of_reader : {T : Type 0} (limit size : ℕ) (files : ParsedFiles) (o : OrderedRun) (P : ℕ → List ℕ → MergeFault → Type 0) (r : Result T MergeFault) → ((n : ℕ) (t : List ℕ) → HasParsedLines n files (reverse (lines t)) → IsOrderedRun n t o)
    → IfErr r (λ fault. (text : List ℕ) → IsOrderedRun limit text o → P limit text fault) → IfErr r (λ fault. (most : ℕ) (text : List ℕ) → HasReadLines most (record { most = limit; files = files; size = size }) (reverse (lines text)) → P most text fault)
err_of_reader limit size files o P (Ok x) ordered h = tt
err_of_reader limit size files o P (Err fault) ordered h = λ most text read. subst (λ n. P n text fault) read.0 (h text (ordered limit text (rw read.0 read.2)))

-- ---- the invariant after all lines, against the definitions on the text

-- the events of lines without error, of which no header is missing, in the merge order
pub ordered : (most : ℕ) (text : List ℕ) (g : ParsedFiles) (o : OrderedRun) → HasParsedLines most g (reverse (lines text)) → ((said : List RecorderLine) → AreParsedFiles g said → HasAllHeaders said o.run) → ((said : List RecorderLine) → AreParsedFiles g said → IsProcessCount o.run.processes)
    → IsMergedOrder g.events.items o.events.items → o.torn.items ≡ g.torn.items → IsOrderedRun most text o
ordered most text g o read whole few order torn = record {
  contents = read.0;
  parses = read.1;
  whole = whole read.0 read.2;
  few = few read.0 read.2;
  ordered = subst (λ (es : List EventAtLine). IsMergedOrder es o.events.items) read.2.events order;
  torn_lines = torn ∙ read.2.torn;
}

-- if the ordered events make a past, the files merge into that trace
pub merges : (most : ℕ) (text : List ℕ) (o : OrderedRun) (r : Recording) (torn : List ℕ) → IsOrderedRun most text o → r.processes ≡ o.run.processes → torn ≡ o.torn.items → merge_events_of most o.run.processes (reverse o.events.items) ≡ Ok r.past
    → MergesFrom most text r torn (map origin_of o.events.items)
merges most text o r torn h processes same entries = record {
  contents = h.contents;
  parses = h.parses;
  run = o.run;
  whole = h.whole;
  processes = processes;
  order = o.events.items;
  ordered = h.ordered;
  entries = entries;
  torn_lines = same ∙ h.torn_lines;
  from = refl;
}

-- if a header is missing, that is the first error
pub header_fault : (most : ℕ) (text : List ℕ) (g : ParsedFiles) (f : MergeFault) → HasParsedLines most g (reverse (lines text)) → ((said : List RecorderLine) → AreParsedFiles g said → (missing : FinSet nat_cmp) × LacksHeader said missing × (f ≡ missing_fault (length said + 1) missing)) → IsFirstMergeFaultWithin most text f
header_fault most text g f read lacks =
    let h = lacks read.0 read.2 in
    let count : length read.0 ≡ length (lines text) = reading-length most (reverse (lines text)) read.0 read.1 ∙ length-reverse (lines text) in
    inr (inl (record { contents = read.0; parses = read.1; missing = h.0; lacks = h.1; is = h.2 ∙ ap (λ n. missing_fault (n + 1) h.0) count }))

-- an error of the ordered events is the first
pub event_fault : (most : ℕ) (text : List ℕ) (o : OrderedRun) (f : MergeFault) → IsOrderedRun most text o → merge_events_of most o.run.processes (reverse o.events.items) ≡ Err f → IsFirstMergeFaultWithin most text f
event_fault most text o f h faulty = inr (inr (record { contents = h.contents; parses = h.parses; run = o.run; whole = h.whole; order = o.events.items; ordered = h.ordered; faulty = faulty }))

-- ---- the set of the processes without a header

pub ruleset of_missing = (none_in, one_in, one_out)

module _ (g : ParsedFiles) (said : List RecorderLine) (run : RunHeader) (missing : FinSet nat_cmp) (parsed : AreParsedFiles g said) (is : g.run ≡ Some run) (few : run.processes ≤ 256)
    (m : HasMembers run.processes missing (λ p. not (slice_index_or g.headers_seen p false))) where
  member : (p : ℕ) → p < run.processes → contains missing p ≡ not (has_header said p)
  member p below = m.member p below ∙ ap not (parsed.headers_seen p (omega (arith, below, few)))

  -- if none is missing, each process has a header
  pub none_missing : missing ≡ empty → HasAllHeaders said run
  none_missing none = grind (arith, member, contains-empty)

  -- if one is missing, it has no header, and the set has all that have none
  pub some_missing : (p : ℕ) → contains missing p ≡ true → LacksHeader said missing
  some_missing p held = grind (arith, member)
