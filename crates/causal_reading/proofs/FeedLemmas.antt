-- More bytes of a text, part after part.
use Rattle.std.proofs.Common.{arith, ◌≡◌, ◌≤◌, ◌*◌, ℕ, List, [], ◌++◌, length, take, drop, Result, Ok, Err, Option, Some, None, subst, append_assoc, append-nil}
use Rattle.std.specs.Prelude.{IfOk, IfErr, IfSome, max}
use Rattle.std.specs.Io.KnownBytes.{Consumes, IsAtEnd, Keeps}
use Rattle.std.proofs.Math.Seq.{take-append_seam}
use Rattle.std.proofs.lemmas.List.{take-append-drop}
use Rattle.std.proofs.KnownBytes.{Consumes-kept, Consumes-nil, Consumes-trans}
use Rattle.causal_line.specs.declared.text_refusal.TextRefusal.{TextRefusal}
use Rattle.causal_text.specs.FaultContexts.{ExplainsReadErrorWithin, IsTrueRefusalAlways}
use Rattle.causal_text.specs.declared.context_reading.ReadError.TheVariants.{Source}
use Rattle.causal_text.specs.PushReaders.{PushReaderState, HasReceived}
use Rattle.causal_text.specs.Streams.{StopsWithin, max_piece}
use Rattle.causal_reading.specs.Reads.{max_read, shared_read}
use Rattle.causal_reading.specs.Inside.Feeding.{IsFedBy}

-- what `feed` and `feed_parsed` ensure of bytes
pub fed_of : (reader : PushReaderState) (bytes : List ℕ) (r : Result PushReaderState TextRefusal) → IfOk r (λ next. (most : ℕ) (b : List ℕ) → HasReceived most reader b → HasReceived most next (b ++ bytes))
    → IfErr r (λ refusal. (most : ℕ) (b : List ℕ) → HasReceived most reader b → IsTrueRefusalAlways most (b ++ bytes) refusal) → IsFedBy reader bytes r
fed_of reader bytes r ok err = grind arith

-- the bytes in front, and then the last ones
pub fed_both : (first second : PushReaderState) (front last : List ℕ) (r : Result PushReaderState TextRefusal) → IsFedBy first front (Ok second) → IsFedBy second last r → IsFedBy first (front ++ last) r
fed_both first second front last (Ok next) before after = λ most b s. subst (λ xs. HasReceived most next xs) (append_assoc b front last) (after most (b ++ front) (before most b s))
fed_both first second front last (Err refusal) before after = λ most b s. subst (λ xs. IsTrueRefusalAlways most xs refusal) (append_assoc b front last) (after most (b ++ front) (before most b s))

-- the bytes in front are refused
pub fed_refused : (first : PushReaderState) (front last : List ℕ) (refusal : TextRefusal) → IsFedBy first front (Err refusal) → IsFedBy first (front ++ last) (Err refusal)
fed_refused first front last refusal before = λ most b s more.
    let same : (b ++ (front ++ last)) ++ more ≡ (b ++ front) ++ (last ++ more) = simp append_assoc in
    rw same (before most b s (last ++ more))

-- no bytes
pub fed_none : (reader : PushReaderState) → IsFedBy reader [] (Ok reader)
fed_none reader = λ most b s. rw (append-nil b) s

-- ---- the bytes of a source

-- a buffer that was written over its whole length
pub written_over : (size : ℕ) (bytes behind : List ℕ) → length bytes ≡ size → take size (bytes ++ behind) ≡ bytes
written_over size bytes behind same = subst (λ (n : ℕ). take n (bytes ++ behind) ≡ bytes) same (take-append_seam bytes behind)

-- a limit on one piece implies a greater one
pub stops_wider : (most few many : ℕ) (old new : Option (List ℕ)) → few ≤ many → StopsWithin most few old new → StopsWithin most many old new
stops_wider most few many old new wider s = record { before = s.before; piece = s.piece; consumed = s.consumed; undecided = s.undecided; one_piece = omega (arith, wider, s.one_piece) }

pub shared_read_least : (workers : ℕ) → 524288 ≤ shared_read workers
unfolding shared_read
shared_read_least workers = let least : 524288 ≤ max 524288 (65536 * workers) = grind arith in least

pub max_read_many : (workers : ℕ) → 2 ≤ workers → max_read workers ≡ shared_read workers
max_read_many workers many = grind arith

pub max_read_least : (workers : ℕ) → max_piece ≤ max_read workers
max_read_least workers = grind (arith, shared_read_least workers)

-- the bytes read decide nothing, and one more piece was consumed
pub piece_stops : (most size : ℕ) (old mid new : Option (List ℕ)) (read piece : List ℕ) (reader : PushReaderState) → Consumes old mid read → Consumes mid new piece → length piece ≤ size → HasReceived most reader read
    → StopsWithin most size old new
piece_stops most size old mid new read piece reader p q few s = record { before = read; piece = piece; consumed = Consumes-trans old mid new read piece p q; undecided = (reader.pieces, s.1); one_piece = few }

-- the bytes read decide nothing, and no more were consumed
pub failure_stops : (most size : ℕ) (old mid new : Option (List ℕ)) (read : List ℕ) (reader : PushReaderState) → Consumes old mid read → Keeps mid new → HasReceived most reader read → StopsWithin most size old new
failure_stops most size old mid new read reader p q s = piece_stops most size old new new read [] reader (Consumes-kept old mid new read p q) (Consumes-nil new) (omega arith) s

-- a property of all continuations of the bytes read is one of the source's bytes
pub going_on : (old mid new : Option (List ℕ)) (read piece : List ℕ) (P : List ℕ → Type 0) → Consumes old mid read → Consumes mid new piece → ((more : List ℕ) → P ((read ++ piece) ++ more)) → IfSome old P
going_on old mid new read piece P before last p = grind (arith, append_assoc read piece)

-- a property of the bytes read is one of the source's bytes, if none is left
pub at_its_end : (old new : Option (List ℕ)) (read : List ℕ) (P : List ℕ → Type 0) → Consumes old new read → IsAtEnd new → P read → IfSome old P
at_its_end None new read P p end h = tt
at_its_end (Some bytes) None read P p end h = absurd p
at_its_end (Some bytes) (Some rest) read P p end h = rw (p, end, append-nil) h

-- a read of no bytes consumes none
pub none_more : (old mid new : Option (List ℕ)) (read buffer : List ℕ) (n : ℕ) → Consumes old mid read → Consumes mid new (take n buffer) → n ≡ 0 → Consumes old new read
none_more old mid new read buffer n p q none = rw append-nil at (Consumes-trans old mid new read [] p (subst (λ (m : ℕ). Consumes mid new (take m buffer)) none q))

-- an error of the source needs no explanation
pub source_error : (most : ℕ) (old : Option (List ℕ)) → IfSome old (λ text. ExplainsReadErrorWithin most text Source)
source_error most None = tt
source_error most (Some bytes) = tt

-- ---- a text in memory

-- the text is what was read, the next piece and the rest
pub cut_more : (text done left piece after : List ℕ) (n : ℕ) → text ≡ done ++ left → piece ≡ take n left → after ≡ drop n left → text ≡ (done ++ piece) ++ after
cut_more text done left piece after n whole front back = grind (arith, take-append-drop n left, append_assoc done piece after)
