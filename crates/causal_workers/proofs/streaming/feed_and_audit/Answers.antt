use Rattle.std.proofs.Common.{◌++◌, ◌∙◌, [], length, refl, sym, ap, append_assoc, append-nil}
use Rattle.causal_workers.proofs.EarlyLemmas.{checkpoint_looked, early_in, looser_breach, none_more, part_read, piece_is, stops_in}
use Rattle.causal_workers.proofs.streaming.feed_and_audit.Goals as goal

pub loop-line-init : goal.loop-line-init
loop-line-init g c = ([], refl, λ most b fed none. rw (append-nil b) (fed, none))

pub returns-in-Err-clause-err : goal.returns-in-Err-clause-err
returns-in-Err-clause-err g c = λ most b fed none more.
    let i = c.loop-line.invariant in
    let now = i.2 most b fed none in
    stops_in most b c.args.piece.now i.0 c.in-Some.line.now c.in-Some.after.now c.args.f c.in-Err.rejected
    (piece_is c.args.piece.now i.0 c.in-Some.line.now c.loop-line.left.now c.in-Some.after.now i.1 c.in-Some.ensures.some.1) now.1 (c.in-Err.ensures.err most (b ++ i.0) now.0) more

pub returns-in-Ok-Some-clause-ok : goal.returns-in-Ok-Some-clause-ok
returns-in-Ok-Some-clause-ok g c = λ most b fed none more.
    let i = c.loop-line.invariant in
    let now = i.2 most b fed none in
    let line = c.in-Some.line.now in
    let whole = piece_is c.args.piece.now i.0 line c.loop-line.left.now c.in-Some.after.now i.1 c.in-Some.ensures.some.1 in
    let next = c.in-Ok.ensures.ok most (b ++ i.0) now.0 in
    let few = c.before-looks_here.result in
    let found = rw c.in-Ok-Some.field-0-is at c.in-Ok-Some.ensures.breach in
    let breach = looser_breach few c.args.looks most ((b ++ i.0) ++ line) c.args.f c.in-Ok-Some.judged c.before-looks_here.ensures (found most ((b ++ i.0) ++ line) next) in
    rw whole (early_in c.args.looks most b i.0 line c.in-Some.after.now more c.args.f c.in-Ok-Some.judged now.1 c.in-Some.ensures.some.0 breach)

pub loop-line-preserved : goal.loop-line-preserved
loop-line-preserved g c =
    let i = c.loop-line.invariant in
    let line = c.in-Some.line.now in (
      i.0 ++ line,
      i.1 ∙ ap (λ xs. i.0 ++ xs) c.in-Some.ensures.some.1 ∙ sym (append_assoc i.0 line c.in-Some.after.now),
      λ most b fed none.
          let now = i.2 most b fed none in
          let next = c.in-Ok.ensures.ok most (b ++ i.0) now.0 in
          let none_here = rw c.in-Ok-None.field-0-is at c.in-Ok-None.ensures.none in
          let more = none_more most (b ++ i.0) line c.args.f now.1 (λ r x. c.in-Ok.ensures.new_prefixes most (b ++ i.0) r now.0 x) (λ r says look. none_here most ((b ++ i.0) ++ line) r next says (checkpoint_looked c.before-looks_here.result (length r.past) look)) in
          rw (← append_assoc b i.0 line) (next, more),
    )

pub returns-in-Ok-push_part-clause-ok : goal.returns-in-Ok-push_part-clause-ok
returns-in-Ok-push_part-clause-ok g c = λ most b fed none.
    let i = c.loop-line.invariant in
    let now = i.2 most b fed none in
    part_read most c.args.f b i.0 c.loop-line.left.now c.args.piece.now c.in-Ok-push_part.next i.1 (c.in-Ok-push_part.ensures.ok most (b ++ i.0) now.0) now.1
    (λ r. c.in-Ok-push_part.ensures.no_new_prefix most (b ++ i.0) r now.0)

pub returns-in-Err-push_part-clause-err : goal.returns-in-Err-push_part-clause-err
returns-in-Err-push_part-clause-err g c = λ most b fed none more.
    let i = c.loop-line.invariant in
    let now = i.2 most b fed none in
    let part = c.loop-line.left.now in
    stops_in most b c.args.piece.now i.0 part [] c.args.f c.in-Err-push_part.rejected (i.1 ∙ ap (λ xs. i.0 ++ xs) (sym (append-nil part))) now.1 (c.in-Err-push_part.ensures.err most (b ++ i.0) now.0) more
