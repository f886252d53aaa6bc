-- Parsed lines of a chunk, one after another.
use Rattle.std.proofs.Common.{arith, ◌≡◌, ℕ, List, [], ◌∷◌, ◌++◌, length, ap, sym, subst, ◌∙◌, append_assoc, append-nil}
use Rattle.std.proofs.lemmas.List.{nil_from_length}
use Rattle.causal_line.specs.declared.text_refusal.TextRefusal.{TextRefusal}
use Rattle.causal_text.specs.FaultContexts.{IsTrueRefusalWithin, IsTrueRefusalAlways}
use Rattle.causal_text.specs.PushReaders.{PushReaderState, HasReceived}
use Rattle.causal_text.specs.declared.parsed_chunk.ChunkLine.{ChunkLine}
use Rattle.causal_text.specs.Inside.Chunks.{AreParsed, IsParsed, bytes_of}

bytes_of-append : (ls : List ChunkLine) (l : ChunkLine) → bytes_of (ls ++ l ∷ []) ≡ bytes_of ls ++ l.bytes.now
bytes_of-append [] l = append-nil l.bytes.now
bytes_of-append (k ∷ ls) l = ap (λ xs. k.bytes.now ++ xs) (bytes_of-append ls l) ∙ sym (append_assoc k.bytes.now (bytes_of ls) l.bytes.now)

-- one more parsed line at the end
pub AreParsed-append : (ls : List ChunkLine) (l : ChunkLine) → AreParsed ls → IsParsed l → AreParsed (ls ++ l ∷ [])
AreParsed-append [] l h is = (is, tt)
AreParsed-append (k ∷ ls) l h is = (h.0, AreParsed-append ls l h.1 is)

-- the chunk is its parsed lines, one more line, and what is left
pub one_more : (chunk line after left : List ℕ) (ls : List ChunkLine) (l : ChunkLine) → chunk ≡ bytes_of ls ++ left → left ≡ line ++ after → l.bytes.now ≡ line → chunk ≡ bytes_of (ls ++ l ∷ []) ++ after
one_more chunk line after left ls l is cut same =
    grind (arith, append_assoc (bytes_of ls) l.bytes.now after, bytes_of-append ls l)

-- ---- the lines are read in order

-- the second reader has received what the first has, and these bytes
abbrev pub Receives : PushReaderState → List ℕ → PushReaderState → Type 0
Receives first bytes second = (most : ℕ) (b : List ℕ) → HasReceived most first b → HasReceived most second (b ++ bytes)

-- the bytes received, and one more line
pub one_received : (first second third : PushReaderState) (done line : List ℕ) → Receives first done second → Receives second line third → Receives first (done ++ line) third
one_received first second third done line before then most b s = subst (λ xs. HasReceived most third xs) (append_assoc b done line) (then most (b ++ done) (before most b s))

-- the next line of the chunk
pub next_line : (whole done : List ℕ) (l : ChunkLine) (now after : List ChunkLine) → whole ≡ done ++ bytes_of now → now ≡ l ∷ after → whole ≡ (done ++ l.bytes.now) ++ bytes_of after
next_line whole done l now after is next = is ∙ ap (λ ls. done ++ bytes_of ls) next ∙ sym (append_assoc done l.bytes.now (bytes_of after))

-- the refusal of a line is that of the chunk
pub refused_in : (most : ℕ) (b whole done line after rest : List ℕ) (rejected : TextRefusal) → whole ≡ (done ++ line) ++ after → IsTrueRefusalAlways most ((b ++ done) ++ line) rejected → IsTrueRefusalAlways most (b ++ (whole ++ rest)) rejected
refused_in most b whole done line after rest rejected is h more =
    let same : ((b ++ done) ++ line) ++ ((after ++ rest) ++ more) ≡ (b ++ (whole ++ rest)) ++ more = rw is (simp append_assoc) in
    subst (λ text. IsTrueRefusalWithin most text rejected) same (h ((after ++ rest) ++ more))

-- after the last line, all lines of the chunk were read
pub all_read : (done : List ℕ) (now ls first : List ChunkLine) → first ≡ ls → bytes_of first ≡ done ++ bytes_of now → length now ≡ 0 → bytes_of ls ≡ done
all_read done now ls first began is none = sym (ap bytes_of began) ∙ is ∙ ap (λ ks. done ++ bytes_of ks) (nil_from_length now none) ∙ append-nil done
