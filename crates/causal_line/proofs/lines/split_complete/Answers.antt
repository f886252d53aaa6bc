use Rattle.std.proofs.Common.{◌+◌, add-one, arith, length, sym}
use Rattle.std.proofs.Math.Seq.{take-length}
use Rattle.std.proofs.lemmas.List.{take-append-drop}
use Rattle.causal_line.proofs.Lemmas.CompleteLines.{no_feed-nowhere, complete_at}
use Rattle.causal_line.proofs.lines.split_complete.Goals as goal

pub returns-in-Some-clause-some : goal.returns-in-Some-clause-some
returns-in-Some-clause-some c =
    let text = c.args.text.now in let i = c.in-Some.i in let parts = c.split_at.ensures in let found = c.in-Some.ensures {u = tt} in
    (rw (parts.front, add-one) (complete_at text i found.0.high found.1 found.0.before), rw (parts.front, parts.back) (sym (take-append-drop (i + 1) text)))

pub returns-in-None-clause-none : goal.returns-in-None-clause-none
returns-in-None-clause-none c =
    let text = c.args.text.now in rw (take-length text) at (no_feed-nowhere text (length text) (omega arith) (c.in-None.ensures {u = tt}))
