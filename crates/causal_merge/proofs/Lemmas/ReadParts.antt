-- Lines that a reader reads, part after part.
use Rattle.std.proofs.Common.{ℕ, List, [], ◌++◌, reverse, Result, Ok, Err, append_assoc, append-nil}
use Rattle.std.proofs.lemmas.List.{reverse-append}
use Rattle.causal_merge.specs.declared.fault.MergeFault.{MergeFault}
use Rattle.causal_merge.specs.ParsedFiles.{IsFaultOfLines}
use Rattle.causal_merge.specs.RecordingReaders.{RecordingReaderState, HasReadLines, IsReadBy}
use Rattle.causal_merge.proofs.ReadLemmas.{reading-after}

-- the lines in front, and then the last ones
pub read_both : (first second : RecordingReaderState) (front last : List (List ℕ)) (r : Result RecordingReaderState MergeFault) → IsReadBy first front (Ok second) → IsReadBy second last r → IsReadBy first (front ++ last) r
read_both first second front last (Ok next) before then = λ most b h. rw (reverse-append, append_assoc) (then most (reverse front ++ b) (before most b h))
read_both first second front last (Err fault) before then = λ most b h. rw (reverse-append, append_assoc) (then most (reverse front ++ b) (before most b h))

-- the lines in front have an error
pub read_refused : (first : RecordingReaderState) (front last : List (List ℕ)) (fault : MergeFault) → IsReadBy first front (Err fault) → IsReadBy first (front ++ last) (Err fault)
read_refused first front last fault before = λ most b h other. rw (reverse-append, append_assoc) (reading-after most (reverse last) (reverse front ++ b) fault (before most b h other))

-- nothing is read
pub read_none : (first : RecordingReaderState) → IsReadBy first [] (Ok first)
read_none first = λ most b h. h

-- the lines of a whole text are read
pub read_whole : (most : ℕ) (first next : RecordingReaderState) (more : List (List ℕ)) → HasReadLines most first [] → IsReadBy first more (Ok next) → HasReadLines most next (reverse more)
read_whole most first next more h read = rw append-nil at (read most [] h)

-- a line of a whole text has an error
pub whole_refused : (most : ℕ) (first : RecordingReaderState) (more : List (List ℕ)) (fault : MergeFault) → HasReadLines most first [] → IsReadBy first more (Err fault) → IsFaultOfLines most fault (reverse more)
whole_refused most first more fault h read = rw append-nil at (read most [] h)
