-- The audits at the checkpoints of a text, as more of it is read.
use Rattle.std.proofs.Common.{◌≡◌, ◌++◌, ◌⊎◌, inl, inr, ℕ, ◌≤◌, List, [], true, length, append_assoc, append-nil, sym, ap, subst, ◌∙◌, take, Option, arith}
use Rattle.std.specs.Prelude.{IfSome}
use Rattle.std.specs.Io.KnownBytes.{Consumes, Keeps, IsAtEnd}
use Rattle.std.proofs.KnownBytes.{Consumes-kept, Consumes-nil, Consumes-trans}
use Rattle.causal_trace.specs.Judgement.{IsSafeTrace}
use Rattle.causal_trace.specs.Rows.{Recording}
use Rattle.causal_line.specs.declared.text_refusal.TextRefusal.{TextRefusal}
use Rattle.causal_text.specs.declared.context_reading.ReadError.TheVariants as read_error
use Rattle.causal_text.specs.Prefixes.{HasPrefixSpelling, SpellsSoFar, IsRefusedAt}
use Rattle.causal_line.specs.Lines.{IsComplete}
use Rattle.causal_text.specs.PushReaders.{PushReaderState, HasReceived}
use Rattle.causal_text.specs.Streams.{max_piece}
use Rattle.causal_text.proofs.Lemmas.GoesOn.{texts_go_on}
use Rattle.causal_audit.proofs.Lemmas.Beginnings.{beginnings_decide}
use Rattle.causal_workers.specs.Streaming.{EarlyBreachIsFinal, HasNoEarlyBreach, IsBreachSoFar, IsEarlyBreach, IsLook, ExplainsVerdictError, StopsOnceJudged, is_checkpoint_length}
use Rattle.causal_workers.specs.Inside.PieceOutcomes.{IsPieceOutcome}
use Rattle.causal_workers.specs.declared.looks.Looks.{Looks}
use Rattle.causal_workers.specs.declared.looks.Looks.TheVariants.{Checkpoints}
use Rattle.causal_workers.specs.declared.streaming.PieceOutcome.{PieceOutcome}
use Rattle.causal_workers.specs.declared.streaming.VerdictError.TheVariants.{Input}
use Rattle.causal_audit.specs.declared.judged.Judged.{Judged}

-- after one more line all audits at checkpoints accept, if the one at its end does
pub none_more : (most : ℕ) (b line : List ℕ) (f : ℕ) → HasNoEarlyBreach most b f
    → ((r : Recording) → HasPrefixSpelling most (b ++ line) r → HasPrefixSpelling most b r ⊎ SpellsSoFar most (b ++ line) r)
    → ((r : Recording) → SpellsSoFar most (b ++ line) r → is_checkpoint_length (length r.past) ≡ true → IsSafeTrace r f) → HasNoEarlyBreach most (b ++ line) f
none_more most b line f none newly safe r x look = elim (newly r x) [ inl y ↦ none r y look | inr y ↦ safe r y look ]

-- after a part of a line no audit at a checkpoint is new
pub part_read : (most f : ℕ) (b done part piece : List ℕ) (next : PushReaderState) → piece ≡ done ++ part → HasReceived most next ((b ++ done) ++ part) → HasNoEarlyBreach most (b ++ done) f
    → ((r : Recording) → HasPrefixSpelling most ((b ++ done) ++ part) r → HasPrefixSpelling most (b ++ done) r) → HasReceived most next (b ++ piece) × HasNoEarlyBreach most (b ++ piece) f
part_read most f b done part piece next whole received none same =
    subst (λ (bytes : List ℕ). HasReceived most next bytes × HasNoEarlyBreach most bytes f) (append_assoc b done part ∙ ap (λ xs. b ++ xs) (sym whole)) (received, λ r x look. none r (same r x) look)

-- the judgement at the end of a line is the first that does not accept, in each text with this prefix
pub early_in : (looks : Looks) (most : ℕ) (b done line after more : List ℕ) (f : ℕ) (judged : Judged) → HasNoEarlyBreach most (b ++ done) f → IsComplete line → IsBreachSoFar looks most ((b ++ done) ++ line) f judged
    → IsEarlyBreach looks most ((b ++ (done ++ (line ++ after))) ++ more) f judged
early_in looks most b done line after more f judged none complete breach =
    grind (
      arith,
      append_assoc b (done ++ (line ++ after)) more,
      append_assoc done (line ++ after) more,
      append_assoc line after more,
      append_assoc b done (line ++ (after ++ more)),
      append_assoc (b ++ done) line (after ++ more),
    )

-- a breach that an audit finds is one that an audit at more times may find
pub looser_breach : (few looks : Looks) (most : ℕ) (bytes : List ℕ) (f : ℕ) (judged : Judged) → ((n : ℕ) → IsLook few n → IsLook looks n) → IsBreachSoFar few most bytes f judged → IsBreachSoFar looks most bytes f judged
looser_breach few looks most bytes f judged looser found = grind arith

looser_early : (few looks : Looks) (most : ℕ) (text : List ℕ) (f : ℕ) (judged : Judged) → ((n : ℕ) → IsLook few n → IsLook looks n) → IsEarlyBreach few most text f judged → IsEarlyBreach looks most text f judged
looser_early few looks most text f judged looser early = grind (arith, looser_breach)

pub looser_piece : (few looks : Looks) (most : ℕ) (b piece : List ℕ) (f : ℕ) (heard : PieceOutcome) → ((n : ℕ) → IsLook few n → IsLook looks n) → IsPieceOutcome few most b piece f heard → IsPieceOutcome looks most b piece f heard
looser_piece few looks most b piece f heard looser outcome = grind (arith, looser_early)

-- an audit at a checkpoint is one at any of these times
pub at_checkpoint : (looks : Looks) (n : ℕ) → IsLook Checkpoints n → IsLook looks n
at_checkpoint looks n look = grind arith

-- a trace is audited at each checkpoint
pub checkpoint_looked : (looks : Looks) (n : ℕ) → is_checkpoint_length n ≡ true → IsLook looks n
checkpoint_looked looks n look = at_checkpoint looks n look

-- a verdict of an audit that does not accept is one on each whole run whose text has this prefix
pub early_is_final : EarlyBreachIsFinal
early_is_final looks most text f judged whole early spells =
    let b = early.breach in
    let on = texts_go_on most text whole b.recording spells (early.before ++ early.line, early.more, early.split, b.says) in
    beginnings_decide b.recording whole on.0 f judged.verdict on.1 on.2 b.breach b.verdict

-- ---- the bytes of a source

-- a property of all bytes read is one of the source's bytes, if the source ended
pub at_end : (old mid new : Option (List ℕ)) (read buffer : List ℕ) (n : ℕ) (P : List ℕ → Type 0) → Consumes old mid read → Consumes mid new (take n buffer) → n ≡ 0 → IsAtEnd new → P read → IfSome old P
at_end old mid new read buffer n P before last none end p = grind (arith, append-nil read)

-- a property of all continuations of the bytes read is one of the source's bytes
pub going_on : (old mid new : Option (List ℕ)) (read piece : List ℕ) (P : List ℕ → Type 0) → Consumes old mid read → Consumes mid new piece → ((more : List ℕ) → P ((read ++ piece) ++ more)) → IfSome old P
going_on old mid new read piece P before last p = grind (arith, append_assoc read piece)

-- no checkpoint of the bytes read finds a breach, and one more piece was consumed
pub piece_judged : (most f : ℕ) (old mid new : Option (List ℕ)) (read piece : List ℕ) (prefix : PushReaderState) → Consumes old mid read → Consumes mid new piece → length piece ≤ max_piece → HasReceived most prefix read
    → HasNoEarlyBreach most read f → StopsOnceJudged most f old new
piece_judged most f old mid new read piece prefix p q few s none = record {
  reading = record { before = read; piece = piece; consumed = Consumes-trans old mid new read piece p q; undecided = (prefix.pieces, s.1); one_piece = few };
  none = none;
}

-- no checkpoint of the bytes read finds a breach, and no more were consumed
pub failure_judged : (most f : ℕ) (old mid new : Option (List ℕ)) (read : List ℕ) (prefix : PushReaderState) → Consumes old mid read → Keeps mid new → HasReceived most prefix read
    → HasNoEarlyBreach most read f → StopsOnceJudged most f old new
failure_judged most f old mid new read prefix p q s none =
    piece_judged most f old new new read [] prefix (Consumes-kept old mid new read p q) (Consumes-nil new) (omega arith) s none

-- ---- one more part of a piece

-- the rest of a piece begins with its next line or part
pub piece_is : (piece done line left after : List ℕ) → piece ≡ done ++ left → left ≡ line ++ after → piece ≡ done ++ (line ++ after)
piece_is piece done line left after whole split = whole ∙ ap (λ xs. done ++ xs) split

-- an error in a part of the piece is the error of each text that continues so, if all earlier audits accepted
pub stops_in : (most : ℕ) (b piece done part after : List ℕ) (f : ℕ) (rejected : TextRefusal) → piece ≡ done ++ (part ++ after) → HasNoEarlyBreach most (b ++ done) f → IsRefusedAt most (b ++ done) part rejected → (more : List ℕ)
    → ExplainsVerdictError most ((b ++ piece) ++ more) f (Input (read_error.Text rejected))
stops_in most b piece done part after f rejected whole none stops more =
    let same : (b ++ piece) ++ more ≡ ((b ++ done) ++ part) ++ (after ++ more) = rw whole (simp append_assoc) in
    rw same (stops.rejection (after ++ more), λ other r x look. none r (stops.no_more other (after ++ more) r x) look)
