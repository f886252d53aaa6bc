-- The chunks of a piece, read one after another.
use Rattle.std.proofs.Common.{arith, ◌≡◌, ◌+◌, ◌<◌, ◌≤◌, ℕ, zero, suc, List, [], ◌∷◌, ◌++◌, length, take, drop, Result, Ok, Err, ap, sym, subst, ◌∙◌, append_assoc, append-nil, add-one, refl, Bool, false}
use Rattle.std.specs.Prelude.{OnOk, slice_index_or, is_ok, is_err, if◌then◌else◌}
use Rattle.std.proofs.Math.Seq.{take-suc}
use Rattle.std.proofs.lemmas.List.{take_all}
use Rattle.causal_line.specs.declared.text_refusal.TextRefusal.{TextRefusal}
use Rattle.causal_text.specs.PushReaders.{PushReaderState}
use Rattle.causal_reading.specs.declared.shared_chunk.SharedChunk.{SharedChunk}
use Rattle.causal_reading.specs.Inside.Feeding.{IsFedBy}
use Rattle.causal_reading.specs.Inside.Sharing.{bytes_of}
use Rattle.causal_reading.proofs.FeedLemmas.{fed_both, fed_refused}

bytes_of-append : (cs ds : List SharedChunk) → bytes_of (cs ++ ds) ≡ bytes_of cs ++ bytes_of ds
bytes_of-append [] ds = refl
bytes_of-append (c ∷ cs) ds = ap (λ xs. c.bytes.now ++ xs) (bytes_of-append cs ds) ∙ sym (append_assoc c.bytes.now (bytes_of cs) (bytes_of ds))

-- one more chunk, cut from what is left of a piece, if the list of chunks has room for it
pub chunk_cut : {X Y : Type 0} → (piece left bytes after : List ℕ) (cs now : List SharedChunk) (c : SharedChunk) (pushed : Result X Y) (failed : Bool) → bytes_of cs ++ left ≡ piece → left ≡ bytes ++ after → c.bytes.now ≡ bytes
    → now ≡ (if is_ok pushed then cs ++ c ∷ [] else cs) → failed ≡ is_err pushed → failed ≡ false → bytes_of now ++ after ≡ piece
chunk_cut piece left bytes after cs now c pushed failed whole cut same is fails none = grind (arith, bytes_of-append cs (c ∷ []), append_assoc (bytes_of cs) bytes after, append-nil bytes)

next_bytes : (cs : List SharedChunk) (n : ℕ) (c : SharedChunk) → n < length cs → c ≡ slice_index_or cs n c → bytes_of (take (n + 1) cs) ≡ bytes_of (take n cs) ++ c.bytes.now
next_bytes cs n c low at =
    rw add-one
    (ap bytes_of (take-suc cs n c low) ∙ bytes_of-append (take n cs) (slice_index_or cs n c ∷ []) ∙ ap (λ xs. bytes_of (take n cs) ++ xs) (append-nil (slice_index_or cs n c).bytes.now ∙ ap (λ (k : SharedChunk). k.bytes.now) (sym at)))

-- the chunks so far, and then the next one
pub chunk_fed : (first second : PushReaderState) (cs held : List SharedChunk) (n : ℕ) (c : SharedChunk) (r : Result PushReaderState TextRefusal) → held ≡ cs → (n < length held) × ((d : SharedChunk) → c ≡ slice_index_or held n d)
    → IsFedBy first (bytes_of (take n cs)) (Ok second) → IsFedBy second c.bytes.now r → IsFedBy first (bytes_of (take (n + 1) cs)) r
chunk_fed first second cs held n c r same here before after =
    rw (next_bytes cs n c (rw same at here.0) (rw same at (here.1 c))) (fed_both first second (bytes_of (take n cs)) c.bytes.now r before after)

bytes_in_two : (cs : List SharedChunk) (n : ℕ) → bytes_of cs ≡ bytes_of (take n cs) ++ bytes_of (drop n cs)
bytes_in_two [] zero = refl
bytes_in_two [] (suc n) = refl
bytes_in_two (c ∷ cs) zero = refl
bytes_in_two (c ∷ cs) (suc n) = ap (λ xs. c.bytes.now ++ xs) (bytes_in_two cs n) ∙ sym (append_assoc c.bytes.now (bytes_of (take n cs)) (bytes_of (drop n cs)))

-- what is true of the first chunks, if these are all, or if one of them is refused, is true of all
pub all_fed : (first : PushReaderState) (cs : List SharedChunk) (n : ℕ) (r : Result PushReaderState TextRefusal) → OnOk r (length cs ≤ n) → IsFedBy first (bytes_of (take n cs)) r → IsFedBy first (bytes_of cs) r
all_fed first cs n (Ok next) all fed = subst (λ (ks : List SharedChunk). IsFedBy first (bytes_of ks) (Ok next)) (take_all n cs all) fed
all_fed first cs n (Err refusal) all fed = subst (λ (xs : List ℕ). IsFedBy first xs (Err refusal)) (sym (bytes_in_two cs n)) (fed_refused first (bytes_of (take n cs)) (bytes_of (drop n cs)) refusal fed)
