use Rattle.std.proofs.Common.{rules, arith, ap, sym, subst, ◌≡◌, ◌∙◌, ◌++◌, ◌∷◌, [], Ok, Err, length, append-nil, refl}
use Rattle.std.proofs.lemmas.List.{nil_from_length}
use Rattle.std.specs.Vec.Iter.{into_iter_items}
use Rattle.causal_line.specs.Lines.{lines}
use Rattle.causal_merge.specs.Inside.RecorderChunks.{AreParsedLines, lines_of}
use Rattle.causal_merge.proofs.ReadLemmas.{next_of}
use Rattle.causal_merge.proofs.Lemmas.ReadParts.{read_none, read_both, read_refused}
use Rattle.causal_merge.proofs.recording_reader.RecordingReader.feed_parsed.Goals as goal

pub loop-line-init : goal.loop-line-init
loop-line-init c = ([], search rules, subst AreParsedLines (sym c.into_iter-line-iterator.ensures.into_iter_gives.0) c.chunk.invariant, refl, read_none c.args.self)

pub loop-line-preserved : goal.loop-line-preserved
loop-line-preserved c =
    let i = c.loop-line.invariant in
    let step = c.in-Some.ensures.steps in
    let line = c.in-Some.line.bytes.now ∷ [] in
    let all : AreParsedLines (c.in-Some.line ∷ into_iter_items c.next.new.self) = subst AreParsedLines step.0 i.2 in (
      i.0 ++ line,
      (let shorter = ap length step.0 in let was = i.1 in omega (arith, step.1)),
      all.1,
      next_of _ i.0 c.in-Some.line _ _ i.3 step.0,
      read_both c.args.self c.loop-line.reader i.0 line (Ok c.in-Ok.next) i.4 c.in-Ok.ensures,
    )

pub returns-in-Err : goal.returns-in-Err
returns-in-Err c =
    let i = c.loop-line.invariant in
    let line = c.in-Some.line.bytes.now ∷ [] in
    let whole = sym (ap lines_of c.into_iter-line-iterator.ensures.into_iter_gives.0) ∙ next_of _ i.0 c.in-Some.line _ _ i.3 c.in-Some.ensures.steps.0 in
    rw (← c.chunk.view_is, whole)
    (read_refused c.args.self ((i.0 ++ line) ++ lines_of (into_iter_items c.next.new.self)) (lines c.chunk.inside.rest.now) c.in-Err.fault
    (read_refused c.args.self (i.0 ++ line) (lines_of (into_iter_items c.next.new.self)) c.in-Err.fault (read_both c.args.self c.loop-line.reader i.0 line (Err c.in-Err.fault) i.4 c.in-Err.ensures)))

pub returns : goal.returns
returns c =
    let i = c.loop-line.invariant in
    let none : into_iter_items c.loop-line.line-iterator ≡ [] = nil_from_length _ (sym i.1 ∙ c.in-None.ensures.steps.0) in
    let whole = sym (ap lines_of c.into_iter-line-iterator.ensures.into_iter_gives.0) ∙ i.3 ∙ ap (λ ls. i.0 ++ lines_of ls) none ∙ append-nil i.0 in
    rw (← c.chunk.view_is, whole) (read_both c.args.self c.loop-line.reader i.0 (lines c.chunk.inside.rest.now) c.feed.result i.4 c.feed.ensures)
