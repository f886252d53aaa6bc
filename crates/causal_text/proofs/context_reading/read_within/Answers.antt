use Rattle.std.proofs.Common.{◌≡◌, ◌++◌, ℕ, List, [], Option, Some, None, append-nil, length-append, take, subst, arith}
use Rattle.std.specs.Prelude.{IfSome}
use Rattle.std.specs.Io.KnownBytes.{Consumes, IsAtEnd}
use Rattle.std.proofs.KnownBytes.{Consumes-kept, Consumes-trans}
use Rattle.causal_text.specs.declared.context_reading.ReadError.TheVariants.{Source}
use Rattle.causal_text.specs.FaultContexts.{ExplainsReadErrorWithin, IsTrueRefusalWithin}
use Rattle.causal_text.specs.Spelling.{SpellsWithin}
use Rattle.causal_text.proofs.context_reading.read_within.Goals as goal

-- a property of the bytes read and all that may follow is one of the source's bytes
whatever_follows : (known left : Option (List ℕ)) (read : List ℕ) (P : List ℕ → Type 0) → Consumes known left read → ((more : List ℕ) → P (read ++ more)) → IfSome known P
whatever_follows None left read P p h = tt
whatever_follows (Some bytes) None read P p h = absurd p
whatever_follows (Some bytes) (Some rest) read P p h = rw p (h rest)

-- a property of the bytes read is one of the source's bytes, if none is left
at_its_end : (known left : Option (List ℕ)) (read : List ℕ) (P : List ℕ → Type 0) → Consumes known left read → IsAtEnd left → P read → IfSome known P
at_its_end None left read P p end h = tt
at_its_end (Some bytes) None read P p end h = absurd p
at_its_end (Some bytes) (Some rest) read P p end h = rw (p, end, append-nil) h

-- a read of no bytes consumes none
none_more : (known now left : Option (List ℕ)) (read buffer : List ℕ) (n : ℕ) → Consumes known now read → Consumes now left (take n buffer) → n ≡ 0 → Consumes known left read
none_more known now left read buffer n p q none = rw append-nil at (Consumes-trans known now left read [] p (subst (λ (m : ℕ). Consumes now left (take m buffer)) none q))

-- an error of the source needs no explanation
source_error : (most : ℕ) (known : Option (List ℕ)) → IfSome known (λ text. ExplainsReadErrorWithin most text Source)
source_error most None = tt
source_error most (Some bytes) = tt

pub loop-i-preserved : goal.loop-i-preserved
loop-i-preserved g c =
    let i = c.loop-i.invariant in
    let piece = take c.in-Ok.n c.read.new.buf in
    (i.0 ++ piece, Consumes-trans _ _ _ _ _ i.1 c.in-Ok.ensures.bytes.0, c.in-Ok-feed.ensures.ok c.args.limits.entries i.0 i.2, grind (arith, length-append i.0 piece))

pub returns-in-Ok-finish : goal.returns-in-Ok-finish
returns-in-Ok-finish g c =
    let i = c.loop-i.invariant in
    let end = c.in-Ok.ensures.bytes.1 c.if-n-eq0.true (omega arith) in
    let all = none_more (g.R.Read.remaining c.args.source.now) _ (g.R.Read.remaining c.read.new.self) i.0 c.read.new.buf c.in-Ok.n i.1 c.in-Ok.ensures.bytes.0 c.if-n-eq0.true in
    record {
      ok = at_its_end _ _ i.0 (λ text. SpellsWithin c.args.limits.entries text c.in-Ok-finish.trace.recording) all end (c.in-Ok-finish.ensures.ok c.args.limits.entries i.0 i.2);
      err = tt;
      stops = record { before = i.0; piece = []; consumed = rw append-nil all; undecided = (c.loop-i.reader.pieces, i.2.1); one_piece = omega arith };
    }

pub returns-in-Err : goal.returns-in-Err
returns-in-Err g c =
    let i = c.loop-i.invariant in
    let end = c.in-Ok.ensures.bytes.1 c.if-n-eq0.true (omega arith) in
    let all = none_more (g.R.Read.remaining c.args.source.now) _ (g.R.Read.remaining c.read.new.self) i.0 c.read.new.buf c.in-Ok.n i.1 c.in-Ok.ensures.bytes.0 c.if-n-eq0.true in
    record {
      ok = tt;
      err = at_its_end _ _ i.0 (λ text. IsTrueRefusalWithin c.args.limits.entries text c.in-Err.rejected) all end (c.in-Err.ensures.err c.args.limits.entries i.0 i.2);
      stops = record { before = i.0; piece = []; consumed = rw append-nil all; undecided = (c.loop-i.reader.pieces, i.2.1); one_piece = omega arith };
    }

pub returns-in-Err-feed : goal.returns-in-Err-feed
returns-in-Err-feed g c =
    let i = c.loop-i.invariant in
    let piece = take c.in-Ok.n c.read.new.buf in
    let all = Consumes-trans (g.R.Read.remaining c.args.source.now) _ (g.R.Read.remaining c.read.new.self) i.0 piece i.1 c.in-Ok.ensures.bytes.0 in
    record {
      ok = tt;
      err = whatever_follows _ _ (i.0 ++ piece) (λ text. IsTrueRefusalWithin c.args.limits.entries text c.in-Err-feed.rejected) all (c.in-Err-feed.ensures.err c.args.limits.entries i.0 i.2);
      stops = record { before = i.0; piece = piece; consumed = all; undecided = (c.loop-i.reader.pieces, i.2.1); one_piece = omega (arith, c.in-Ok.ensures.bound.0, c.in-Ok.ensures.bound.1, c.if-n-eq0.array_long) };
    }

pub returns-in_default : goal.returns-in_default
returns-in_default g c =
    let i = c.loop-i.invariant in
    record {
      ok = tt;
      err = source_error c.args.limits.entries _;
      stops = record { before = i.0; piece = []; consumed = rw append-nil (Consumes-kept _ _ _ _ i.1 c.in_default.ensures.bytes); undecided = (c.loop-i.reader.pieces, i.2.1); one_piece = omega arith };
    }
