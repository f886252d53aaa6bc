use Rattle.std.proofs.Common.{◌++◌, ◌∷◌, [], Ok, Err, refl, append_assoc, append-nil}
use Rattle.causal_line.specs.Lines.{lines}
use Rattle.causal_merge.proofs.Lemmas.ReadParts.{read_none, read_both, read_refused}
use Rattle.causal_merge.proofs.recording_reader.RecordingReader.feed.Goals as goal

pub loop-line-init : goal.loop-line-init
loop-line-init c = ([], refl, read_none c.args.self)

pub loop-line-preserved : goal.loop-line-preserved
loop-line-preserved c =
    let i = c.loop-line.invariant in
    let line = c.in-Some.line.now ∷ [] in
    (i.0 ++ line, rw (i.1, c.in-Some.ensures.line, append_assoc), read_both c.args.self c.loop-line.reader i.0 line (Ok c.in-Ok.next) i.2 c.in-Ok.ensures)

pub returns-in-Err : goal.returns-in-Err
returns-in-Err c =
    let i = c.loop-line.invariant in
    let line = c.in-Some.line.now ∷ [] in
    rw (i.1, c.in-Some.ensures.line)
    (rw append_assoc at (read_refused c.args.self (i.0 ++ line) (lines c.in-Some.after.now) c.in-Err.fault (read_both c.args.self c.loop-line.reader i.0 line (Err c.in-Err.fault) i.2 c.in-Err.ensures)))

pub returns : goal.returns
returns c = let i = c.loop-line.invariant in rw (i.1, c.in_default.ensures.none, append-nil) i.2
