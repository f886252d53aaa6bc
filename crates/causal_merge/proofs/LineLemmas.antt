-- The next line, and its error.
use Rattle.std.proofs.Common.{◌≡◌, ◌+◌, ◌≤◌, ℕ, List, ◌∷◌, length, Result, Ok, Err, Option, refl, sym, arith}
use Rattle.std.specs.Prelude.{OnOk, sum_by}
use Rattle.std.proofs.lemmas.Bool.{le-ltb}
use Rattle.std.proofs.lemmas.List.Sums.{sum_by-cons}
use Rattle.causal_line.specs.declared.kind.TextKind.{TextKind}
use Rattle.causal_line.specs.Returns.{IsFaultOrNoMemory, Returns}
use Rattle.causal_line.specs.Values.{without_line_feed}
use Rattle.causal_line.proofs.Lemmas.DefinedErrors.{error_is_defined, defined_or_no_memory}
use Rattle.causal_merge.specs.declared.event.RecorderLine.{RecorderLine}
use Rattle.causal_merge.specs.declared.event.RunHeader.{RunHeader}
use Rattle.causal_merge.specs.Reading.{check_header, line_fault, max_input_len, next_line, parse_bytes, read_all_lines}
use Rattle.causal_merge.specs.RecordingReaders.{RecordingReaderState, HasReadLines}

-- the defined result is one that may be returned
Returns-same : (r d : Result RecorderLine TextKind) → r ≡ d → Returns r d
Returns-same (Ok x) d e = sym e
Returns-same (Err k) d e = defined_or_no_memory k k d (λ other. sym e)

-- what holds whatever the result
pub if_ok_or_not : {A E P : Type 0} (r : Result A E) → P → OnOk r P
if_ok_or_not (Ok x) p = p
if_ok_or_not (Err e) p = tt

module _ (most : ℕ) (first : Option RunHeader) (end : ℕ) (line : List ℕ) (within : end ≤ max_input_len most) where
  pub next_line-checked : (said : RecorderLine) (r : Result RecorderLine TextKind) → parse_bytes (without_line_feed line) ≡ Ok said → r ≡ check_header first said → Returns r (next_line most first end line)
  next_line-checked said r parsed checked = rw (le-ltb (max_input_len most) end within, parsed) (Returns-same r (check_header first said) checked)

  pub next_line-refused : (k : TextKind) → IsFaultOrNoMemory k k (parse_bytes (without_line_feed line)) → IsFaultOrNoMemory k k (next_line most first end line)
  next_line-refused k e = defined_or_no_memory k k _ (λ other. rw (le-ltb (max_input_len most) end within, error_is_defined k k _ e other) refl)

-- an error of the next line is that of all lines
pub next_refused : (most : ℕ) (r : RecordingReaderState) (before : List (List ℕ)) (line : List ℕ) (k : TextKind) → HasReadLines most r before
    → next_line r.most r.files.run (r.size + length line) line ≡ Err k → read_all_lines most (line ∷ before) ≡ Err (line_fault (r.files.count + 1) k)
next_refused most r before line k (same, size, (said, read, is)) bad =
    let e : sum_by length (line ∷ before) ≡ r.size + length line = omega (arith, sum_by-cons length line before, size) in
    rw (read, e, ← same, ← is.run, bad, is.count) refl
