use Rattle.std.proofs.Common.{◌++◌, ◌∙◌, ℕ, List, [], Option, Some, None, take, length-append, subst, arith}
use Rattle.std.specs.Prelude.{IfSome}
use Rattle.std.proofs.KnownBytes.{Consumes-nil, Consumes-trans}
use Rattle.std.proofs.lemmas.List.{length-take-le}
use Rattle.std.proofs.lemmas.Result.{IfErr-weaker, IfOk-weaker}
use Rattle.causal_workers.specs.Streaming.{IsStreamVerdict, ExplainsVerdictError}
use Rattle.causal_text.specs.declared.context_reading.ReadError.TheVariants.{Source}
use Rattle.causal_workers.specs.declared.streaming.StreamVerdict.TheVariants.{Early}
use Rattle.causal_workers.specs.declared.streaming.VerdictError.TheVariants.{Input}
use Rattle.causal_workers.specs.Inside.PieceOutcomes.{IsPieceOutcome}
use Rattle.causal_workers.specs.declared.streaming.PieceOutcome.{PieceOutcome}
use Rattle.causal_workers.proofs.EarlyLemmas.{at_end, going_on, piece_judged, failure_judged}
use Rattle.causal_workers.proofs.streaming.judge_stream.Goals as goal

pub loop-i-init : goal.loop-i-init
loop-i-init g c = ([], Consumes-nil _, c.within-prefix.ensures.read, λ r x look. absurd (c.within-prefix.ensures.none c.args.limits.entries r x), omega arith, c.start-timer.ensures)

-- an error of the source needs no explanation
source_failed : (most f : ℕ) (known : Option (List ℕ)) → IfSome known (λ text. ExplainsVerdictError most text f (Input Source))
source_failed most f None = tt
source_failed most f (Some bytes) = tt

pub returns-in_default-clause-err : goal.returns-in_default-clause-err
returns-in_default-clause-err g c = source_failed c.args.limits.entries c.args.f (g.I.Read.remaining c.args.source.now)

pub returns-then-n-eq0-clause-ok : goal.returns-then-n-eq0-clause-ok
returns-then-n-eq0-clause-ok g c =
    let i = c.loop-i.invariant in
    let none = c.if-n-eq0.true in
    let end = c.in-Ok.ensures.bytes.1 none (omega arith) in
    IfOk-weaker c.judge_whole.result _ _
    (λ known is. at_end (g.I.Read.remaining c.args.source.now) (g.I.Read.remaining c.loop-i.source) (g.I.Read.remaining c.read.new.self) i.0 c.read.new.buf c.in-Ok.n
    (λ text. IsStreamVerdict c.args.looks c.args.limits.entries text c.args.f known) i.1 c.in-Ok.ensures.bytes.0 none end (is c.args.limits.entries i.0 i.2 i.3 c.args.looks))
    c.judge_whole.ensures.ok

pub returns-then-n-eq0-clause-err : goal.returns-then-n-eq0-clause-err
returns-then-n-eq0-clause-err g c =
    let i = c.loop-i.invariant in
    let none = c.if-n-eq0.true in
    let end = c.in-Ok.ensures.bytes.1 none (omega arith) in
    IfErr-weaker c.judge_whole.result _ _
    (λ unjudged is. at_end (g.I.Read.remaining c.args.source.now) (g.I.Read.remaining c.loop-i.source) (g.I.Read.remaining c.read.new.self) i.0 c.read.new.buf c.in-Ok.n
    (λ text. ExplainsVerdictError c.args.limits.entries text c.args.f unjudged) i.1 c.in-Ok.ensures.bytes.0 none end (is c.args.limits.entries i.0 i.2 i.3))
    c.judge_whole.ensures.err

pub returns-in-Ok-Breach-clause-ok : goal.returns-in-Ok-Breach-clause-ok
returns-in-Ok-Breach-clause-ok g c =
    let i = c.loop-i.invariant in
    let piece = take c.in-Ok.n c.read.new.buf in
    going_on (g.I.Read.remaining c.args.source.now) (g.I.Read.remaining c.loop-i.source) (g.I.Read.remaining c.read.new.self) i.0 piece (λ text. IsStreamVerdict c.args.looks c.args.limits.entries text c.args.f (Early c.in-Ok-Breach.judged))
    i.1 c.in-Ok.ensures.bytes.0
    (rw (i.5, c.in-Ok-Breach.field-0-is) at c.in-Ok-Breach.ensures.ok c.args.limits.entries i.0 i.2 i.3)

pub returns-in-Err-clause-err : goal.returns-in-Err-clause-err
returns-in-Err-clause-err g c =
    let i = c.loop-i.invariant in
    let piece = take c.in-Ok.n c.read.new.buf in
    going_on (g.I.Read.remaining c.args.source.now) (g.I.Read.remaining c.loop-i.source) (g.I.Read.remaining c.read.new.self) i.0 piece (λ text. ExplainsVerdictError c.args.limits.entries text c.args.f c.in-Err.unjudged)
    i.1 c.in-Ok.ensures.bytes.0 (c.in-Err.ensures.err c.args.limits.entries i.0 i.2 i.3)

pub loop-i-preserved : goal.loop-i-preserved
loop-i-preserved g c =
    let i = c.loop-i.invariant in
    let piece = take c.in-Ok.n c.read.new.buf in
    let more = subst (λ (heard : PieceOutcome). IsPieceOutcome c.loop-i.timer.looks c.args.limits.entries i.0 piece c.args.f heard) c.in-Ok-More.field-0-is (c.in-Ok-More.ensures.ok c.args.limits.entries i.0 i.2 i.3) in (
      i.0 ++ piece,
      Consumes-trans (g.I.Read.remaining c.args.source.now) (g.I.Read.remaining c.loop-i.source) (g.I.Read.remaining c.read.new.self) i.0 piece i.1 c.in-Ok.ensures.bytes.0,
      more.0,
      more.1,
      grind (arith, length-take-le, length-append),
      c.in-Ok-More.ensures.same ∙ i.5,
    )

pub returns-in-Ok-Breach-clause-stops : goal.returns-in-Ok-Breach-clause-stops
returns-in-Ok-Breach-clause-stops g c =
    let i = c.loop-i.invariant in
    piece_judged c.args.limits.entries c.args.f (g.I.Read.remaining c.args.source.now) (g.I.Read.remaining c.loop-i.source) (g.I.Read.remaining c.read.new.self) i.0 (take c.in-Ok.n c.read.new.buf) c.loop-i.prefix i.1 c.in-Ok.ensures.bytes.0
    (omega (arith, c.in-Ok.ensures.bound.0, c.in-Ok.ensures.bound.1)) i.2 i.3

pub returns-in-Err-clause-stops : goal.returns-in-Err-clause-stops
returns-in-Err-clause-stops g c =
    let i = c.loop-i.invariant in
    piece_judged c.args.limits.entries c.args.f (g.I.Read.remaining c.args.source.now) (g.I.Read.remaining c.loop-i.source) (g.I.Read.remaining c.read.new.self) i.0 (take c.in-Ok.n c.read.new.buf) c.loop-i.prefix i.1 c.in-Ok.ensures.bytes.0
    (omega (arith, c.in-Ok.ensures.bound.0, c.in-Ok.ensures.bound.1)) i.2 i.3

pub returns-then-n-eq0-clause-stops : goal.returns-then-n-eq0-clause-stops
returns-then-n-eq0-clause-stops g c =
    let i = c.loop-i.invariant in
    piece_judged c.args.limits.entries c.args.f (g.I.Read.remaining c.args.source.now) (g.I.Read.remaining c.loop-i.source) (g.I.Read.remaining c.read.new.self) i.0 (take c.in-Ok.n c.read.new.buf) c.loop-i.prefix i.1 c.in-Ok.ensures.bytes.0
    (omega (arith, c.in-Ok.ensures.bound.0, c.in-Ok.ensures.bound.1)) i.2 i.3

pub returns-in_default-clause-stops : goal.returns-in_default-clause-stops
returns-in_default-clause-stops g c =
    let i = c.loop-i.invariant in
    failure_judged c.args.limits.entries c.args.f (g.I.Read.remaining c.args.source.now) (g.I.Read.remaining c.loop-i.source) (g.I.Read.remaining c.read.new.self) i.0 c.loop-i.prefix i.1 c.in_default.ensures.bytes i.2 i.3
