-- The trace that recordings merge into, as bytes, and their first error.
use Rattle.std.specs.Prelude.{◌≡◌, ℕ, List, flat_map}
use Rattle.causal_lines.specs.Canonical.{canonical_text}
use Rattle.causal_merge.specs.declared.fault.MergeFault.{MergeFault}
use Rattle.causal_merge.specs.Merges.{MergesWithin, IsFirstMergeFaultWithin}
use Rattle.causal_trace.specs.Rows.{Recording}
use Rattle.nixu.specs.declared.c_merge_fault.CMergeFault.{CMergeFault}
use Rattle.nixu.specs.declared.c_recording.CRecording.{CRecording}
use Rattle.nixu.specs.declared.merging.MergeError.{MergeError}
use Rattle.nixu.specs.declared.merging.MergeError.TheVariants.{Fault, NoMemory}
use Rattle.nixu.specs.CMergeFaults.{c_merge_fault_of}
use Rattle.nixu.specs.Places.{recording_place}

-- the bytes of recordings, one after the other
abbrev pub joined_text : List CRecording → List ℕ
joined_text recordings = flat_map (λ (x : CRecording). x.text.now) recordings

-- the text merges into a trace of at most `most` entries, and the bytes are its canonical text
abbrev pub IsMergedText : ℕ → List ℕ → List ℕ → Type 0
IsMergedText most text bytes = (r : Recording) × (torn : List ℕ) × MergesWithin most text r torn × (bytes ≡ canonical_text r)

-- the recordings do not merge into a trace of at most `most` entries, and the struct is their first error
abbrev pub IsFaultOfRecordings : ℕ → List CRecording → CMergeFault → Type 0
IsFaultOfRecordings most recordings c = (f : MergeFault) × IsFirstMergeFaultWithin most (joined_text recordings) f × (c ≡ c_merge_fault_of (recording_place f.line recordings) f)

-- if the error is one of recordings, it is their first
abbrev pub IsMergeErrorOf : ℕ → List ℕ → MergeError → Type 0
IsMergeErrorOf most text (Fault f) = IsFirstMergeFaultWithin most text f
IsMergeErrorOf most text NoMemory = Unit {0}
