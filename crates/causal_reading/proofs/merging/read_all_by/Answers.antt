use Rattle.std.proofs.Common.{rules, ◌≡◌, ◌∙◌, ◌++◌, [], Ok, Err, ap, sym, refl, length, append_assoc, append-nil}
use Rattle.std.proofs.lemmas.List.{nil_from_length}
use Rattle.causal_line.specs.Lines.{lines}
use Rattle.causal_merge.proofs.Lemmas.ReadParts.{read_none, read_both, read_refused}
use Rattle.causal_reading.proofs.merging.read_all_by.Goals as goal

pub loop-left-init : goal.loop-left-init
loop-left-init g c = ([], refl, read_none c.args.before)

pub loop-left-preserved : goal.loop-left-preserved
loop-left-preserved g c =
    let i = c.loop-left.invariant in
    let piece = lines c.split_lines.result.0.now in (
      i.0 ++ piece,
      i.1 ∙ ap (λ ls. i.0 ++ ls) c.split_lines.ensures.parts ∙ sym (append_assoc i.0 piece (lines c.split_lines.result.1.now)),
      read_both c.args.before c.loop-left.reader i.0 piece (Ok c.in-Ok.next) i.2 c.in-Ok.ensures,
    )

pub returns-in-Err : goal.returns-in-Err
returns-in-Err g c =
    let i = c.loop-left.invariant in
    let piece = lines c.split_lines.result.0.now in
    let after = lines c.split_lines.result.1.now in
    let whole = i.1 ∙ ap (λ ls. i.0 ++ ls) c.split_lines.ensures.parts ∙ sym (append_assoc i.0 piece after) in
    rw whole (read_refused c.args.before (i.0 ++ piece) after c.in-Err.fault (read_both c.args.before c.loop-left.reader i.0 piece (Err c.in-Err.fault) i.2 c.in-Err.ensures))

pub returns : goal.returns
returns g c =
    let i = c.loop-left.invariant in
    let none : length c.loop-left.left.now ≡ 0 = search rules in
    rw (i.1, nil_from_length _ none, append-nil i.0) i.2
