-- The C struct of the first error of recordings, and the numbers of the kinds of their errors.
use Rattle.std.specs.Prelude.{◌≡◌, ◌<◌, ◌⊎◌, ℕ, List}
use Rattle.std.specs.Ordering.{nat_cmp}
use Rattle.std.specs.FinSet.{FinSet, empty}
use Rattle.std.specs.Option.{option_map_or}
use Rattle.causal_merge.specs.declared.fault.MergeFault.{MergeFault}
use Rattle.causal_merge.specs.declared.fault.MergeKind.{MergeKind}
use Rattle.causal_merge.specs.declared.fault.MergeKind.TheVariants.{NoHeader, Twice, Line}
use Rattle.causal_merge.specs.declared.fault_details.MergeDetail.{MergeDetail}
use Rattle.causal_merge.specs.declared.fault_details.MergeDetail.TheVariants.{Ssn, Send, Rsn, Again, Undelivered}
use Rattle.causal_merge.specs.Sentences.{sentence_of}
use Rattle.nixu_boundary.specs.Buffers.{IsCopiedOut}
use Rattle.nixu_boundary.specs.Flags.{flags}
use Rattle.nixu.specs.declared.c_merge_fault.CMergeFault.{CMergeFault}
use Rattle.nixu.specs.declared.places.RecordingPlace.{RecordingPlace}
use Rattle.nixu.specs.Numbers.{kind_number}

-- the number of a kind; an error that a trace's text may have has its number there
abbrev pub merge_number : MergeKind → ℕ
merge_number (NoHeader missing) = 21
merge_number Twice = 22
merge_number (Line k) = kind_number k

-- no kind of error has this number
abbrev pub IsNoMergeFault : ℕ → Type 0
IsNoMergeFault number = (number ≡ 0) ⊎ (22 < number)

-- a kind of error has this number, and its sentence is copied out
abbrev pub CopiesOutMergeSentence : ℕ → List ℕ → List ℕ → ℕ → Type 0
CopiesOutMergeSentence number old new needed = (0 < number) × ((k : MergeKind) × (merge_number k ≡ number) × IsCopiedOut (sentence_of k) old new needed)

-- the processes that have no header
abbrev pub missing_in : MergeKind → FinSet nat_cmp
missing_in (NoHeader missing) = missing
missing_in Twice = empty
missing_in (Line k) = empty

-- the struct of an error at a place, without the values that explain it
abbrev pub fault_at : RecordingPlace → MergeKind → CMergeFault
fault_at place k = record {
  recording = place.recording;
  line = place.line;
  kind = merge_number k;
  given = 0;
  next = 0;
  lane = 0;
  ssn = 0;
  rsn = 0;
  process = 0;
  source = 0;
  dest = 0;
  missing = flags (missing_in k);
}

-- the struct with the values that explain the error
abbrev pub with_detail : CMergeFault → MergeDetail → CMergeFault
with_detail c (Ssn p given next) = record c { process = p.0; given = given; next = next }
with_detail c (Rsn p given next) = record c { process = p.0; given = given; next = next }
with_detail c (Send p name) = record c { process = p.0; source = name.source.0; lane = name.lane; ssn = name.ssn }
with_detail c (Again p m) = record c { process = p.0; source = m.source.0; ssn = m.ssn }
with_detail c (Undelivered det) = record c { source = det.source.0; ssn = det.ssn; dest = det.dest.0; rsn = det.rsn }

-- the struct of an error at a place
abbrev pub c_merge_fault_of : RecordingPlace → MergeFault → CMergeFault
c_merge_fault_of place f = option_map_or (with_detail (fault_at place f.kind)) f.detail (fault_at place f.kind)
