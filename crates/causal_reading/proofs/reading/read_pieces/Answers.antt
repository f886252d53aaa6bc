use Rattle.std.proofs.Common.{◌≡◌, ◌∙◌, ◌++◌, ℕ, List, ap, take, length-append, subst, arith}
use Rattle.std.proofs.KnownBytes.{Consumes-trans}
use Rattle.std.proofs.lemmas.List.{length-take-le}
use Rattle.std.proofs.lemmas.Result.{IfOk-weaker, IfErr-weaker}
use Rattle.causal_text.specs.FaultContexts.{ExplainsReadErrorWithin, IsTrueRefusalAlways}
use Rattle.causal_text.specs.declared.context_reading.ReadError.TheVariants as error
use Rattle.causal_text.specs.Spelling.{SpellsWithin}
use Rattle.causal_text.specs.PushReaders.{HasReceived}
use Rattle.causal_reading.specs.Reads.{max_read}
use Rattle.causal_reading.proofs.FeedLemmas.{at_its_end, going_on, none_more, source_error, max_read_many, piece_stops, failure_stops, written_over}
use Rattle.causal_reading.proofs.reading.read_pieces.Goals as goal

pub returns-in_default : goal.returns-in_default
returns-in_default g c =
    let i = c.loop-i.invariant in
    record {
      ok = tt;
      err = source_error c.args.limits.entries _;
      stops =
          failure_stops c.args.limits.entries (max_read c.args.workers) (g.I.Read.remaining c.args.source.now) (g.I.Read.remaining c.loop-i.source) (g.I.Read.remaining c.read.new.self) i.0 c.loop-i.reader i.1 c.in_default.ensures.bytes i.2;
    }

pub returns-then-n-eq0 : goal.returns-then-n-eq0
returns-then-n-eq0 g c =
    let i = c.loop-i.invariant in
    let most = c.args.limits.entries in
    let old = g.I.Read.remaining c.args.source.now in
    let mid = g.I.Read.remaining c.loop-i.source in
    let new = g.I.Read.remaining c.read.new.self in
    let end = c.in-Ok.ensures.bytes.1 c.if-n-eq0.true (omega (arith, c.read.auto.buf, c.as_mut_slice.ensures.len, i.4.0)) in
    let all = none_more old mid new i.0 c.read.new.buf c.in-Ok.n i.1 c.in-Ok.ensures.bytes.0 c.if-n-eq0.true in
    record {
      ok = IfOk-weaker c.finish.result _ _ (λ trace h. at_its_end old new i.0 (λ text. SpellsWithin most text trace.recording) all end (h most i.0 i.2)) c.finish.ensures.ok;
      err = IfErr-weaker c.finish.result _ _ (λ unread h. at_its_end old new i.0 (λ text. ExplainsReadErrorWithin most text unread) all end (h most i.0 i.2)) c.finish.ensures.err;
      stops = piece_stops most (max_read c.args.workers) old mid new i.0 (take c.in-Ok.n c.read.new.buf) c.loop-i.reader i.1 c.in-Ok.ensures.bytes.0 (omega (arith, c.in-Ok.ensures.bound.1, c.if-n-eq0.true)) i.2;
    }

pub returns-in-Err-clause-err : goal.returns-in-Err-clause-err
returns-in-Err-clause-err g c =
    let i = c.loop-i.invariant in
    let most = c.args.limits.entries in
    let same : c.split_at.result.0.now ≡ take c.in-Ok.n c.read.new.buf = c.split_at.ensures.front ∙ ap (take c.in-Ok.n) (c.as_slice.ensures.value ∙ written_over _ c.read.new.buf _ (omega (arith, c.read.auto.buf, c.as_mut_slice.ensures.len))) in
    going_on (g.I.Read.remaining c.args.source.now) (g.I.Read.remaining c.loop-i.source) (g.I.Read.remaining c.read.new.self) i.0 (take c.in-Ok.n c.read.new.buf) (λ text. ExplainsReadErrorWithin most text (error.Text c.in-Err.refusal))
    i.1 c.in-Ok.ensures.bytes.0 (subst (λ (xs : List ℕ). IsTrueRefusalAlways most (i.0 ++ xs) c.in-Err.refusal) same (c.in-Err.ensures most i.0 i.2))

pub returns-in-Err-clause-stops : goal.returns-in-Err-clause-stops
returns-in-Err-clause-stops g c =
    let i = c.loop-i.invariant in
    piece_stops c.args.limits.entries (max_read c.args.workers) (g.I.Read.remaining c.args.source.now) (g.I.Read.remaining c.loop-i.source) (g.I.Read.remaining c.read.new.self) i.0 (take c.in-Ok.n c.read.new.buf) c.loop-i.reader i.1 c.in-Ok.ensures.bytes.0
    (omega (arith, c.in-Ok.ensures.bound.0, c.in-Ok.ensures.bound.1, c.read.auto.buf, c.as_mut_slice.ensures.len, i.4.1, max_read_many c.args.workers c.requires.workers.0)) i.2

pub loop-i-preserved : goal.loop-i-preserved
loop-i-preserved g c =
    let i = c.loop-i.invariant in
    let most = c.args.limits.entries in
    let piece = take c.in-Ok.n c.read.new.buf in
    let same : c.split_at.result.0.now ≡ take c.in-Ok.n c.read.new.buf = c.split_at.ensures.front ∙ ap (take c.in-Ok.n) (c.as_slice.ensures.value ∙ written_over _ c.read.new.buf _ (omega (arith, c.read.auto.buf, c.as_mut_slice.ensures.len))) in (
      i.0 ++ piece,
      Consumes-trans (g.I.Read.remaining c.args.source.now) (g.I.Read.remaining c.loop-i.source) (g.I.Read.remaining c.read.new.self) i.0 piece i.1 c.in-Ok.ensures.bytes.0,
      subst (λ (xs : List ℕ). HasReceived most c.in-Ok-feed_by.next (i.0 ++ xs)) same (c.in-Ok-feed_by.ensures most i.0 i.2),
      grind (arith, length-take-le, length-append),
      c.grow_buffer.ensures,
    )
