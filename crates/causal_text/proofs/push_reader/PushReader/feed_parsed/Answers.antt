use Rattle.std.proofs.Common.{rules, arith, ap, sym, subst, ◌∙◌, ◌++◌, ◌∷◌, [], length, append-nil, append_assoc, refl}
use Rattle.std.proofs.lemmas.Result.{IfOk-weaker, IfErr-weaker}
use Rattle.std.specs.Vec.Iter.{into_iter_items}
use Rattle.causal_text.specs.Inside.Chunks.{AreParsed, bytes_of}
use Rattle.causal_text.specs.PushReaders.{HasReceived}
use Rattle.causal_text.proofs.ChunkLemmas.{next_line, one_received, refused_in, all_read}
use Rattle.causal_text.proofs.push_reader.PushReader.feed_parsed.Goals as goal

pub loop-line-init : goal.loop-line-init
loop-line-init c =
    let began = c.into_iter-line-iterator.ensures.into_iter_gives in
    ([], search rules, subst AreParsed (sym began.0) c.chunk.invariant, refl, λ most b s. subst (λ xs. HasReceived most c.args.self xs) (sym (append-nil b)) s)

pub loop-line-preserved : goal.loop-line-preserved
loop-line-preserved c =
    let i = c.loop-line.invariant in
    let step = c.in-Some.ensures.steps in
    let line = c.in-Some.line.bytes.now in
    let left = c.in-Some-try_parsed_line.ensures in
    let all : AreParsed (c.in-Some.line ∷ into_iter_items c.next.new.self) = subst AreParsed step.0 i.2 in (
      i.0 ++ line,
      (let shorter = ap length step.0 in let was = i.1 in omega (arith, step.1)),
      all.1,
      next_line _ i.0 c.in-Some.line _ _ i.3 step.0,
      one_received c.args.self c.loop-line.reader c.in-Ok.next i.0 line i.4
          (rw (← left.unchanged, ← left.left.1) c.in-Ok.ensures.ok),
    )

pub loop-line-preserved-in_default : goal.loop-line-preserved-in_default
loop-line-preserved-in_default c =
    let i = c.loop-line.invariant in
    let step = c.in-Some.ensures.steps in
    let line = c.in-Some.line.bytes.now in
    let all : AreParsed (c.in-Some.line ∷ into_iter_items c.next.new.self) = subst AreParsed step.0 i.2 in (
      i.0 ++ line,
      (let shorter = ap length step.0 in let was = i.1 in omega (arith, step.1)),
      all.1,
      next_line _ i.0 c.in-Some.line _ _ i.3 step.0,
      one_received c.args.self c.loop-line.reader c.try_parsed_line.new.self i.0 line i.4 c.in_default.ensures.read,
    )

pub returns-in-Err-clause-err : goal.returns-in-Err-clause-err
returns-in-Err-clause-err c =
    let i = c.loop-line.invariant in
    let line = c.in-Some.line.bytes.now in
    let left = c.in-Some-try_parsed_line.ensures in
    let began = c.into_iter-line-iterator.ensures.into_iter_gives in
    let whole = sym (ap bytes_of began.0) ∙ next_line _ i.0 c.in-Some.line _ _ i.3 c.in-Some.ensures.steps.0 in
    rw (← c.chunk.view_is) (λ most b s. refused_in most b (bytes_of c.chunk.inside.lines.items) i.0 line (bytes_of (into_iter_items c.next.new.self)) c.chunk.inside.rest.now c.in-Err.rejected whole
    (rw (← left.left.1) (c.in-Err.ensures.err most (b ++ i.0) (rw left.unchanged (i.4 most b s))).rejection))

pub returns-clause-ok : goal.returns-clause-ok
returns-clause-ok c =
    let i = c.loop-line.invariant in
    let whole = all_read i.0 (into_iter_items c.loop-line.line-iterator) c.chunk.inside.lines.items _ c.into_iter-line-iterator.ensures.into_iter_gives.0 i.3 (sym i.1 ∙ c.in-None.ensures.steps.0) in
    rw (← c.chunk.view_is, whole) (IfOk-weaker c.feed.result _ _ (λ next then. one_received c.args.self c.loop-line.reader next i.0 c.chunk.inside.rest.now i.4 then) c.feed.ensures.ok)

pub returns-clause-err : goal.returns-clause-err
returns-clause-err c =
    let i = c.loop-line.invariant in
    let rest = c.chunk.inside.rest.now in
    let whole = all_read i.0 (into_iter_items c.loop-line.line-iterator) c.chunk.inside.lines.items _ c.into_iter-line-iterator.ensures.into_iter_gives.0 i.3 (sym i.1 ∙ c.in-None.ensures.steps.0) in
    rw (← c.chunk.view_is, whole) (IfErr-weaker c.feed.result _ _ (λ rejected then most b s. rw (← append_assoc b i.0 rest) (then most (b ++ i.0) (i.4 most b s))) c.feed.ensures.err)
