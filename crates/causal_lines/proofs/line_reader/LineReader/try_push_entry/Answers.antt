use Rattle.std.proofs.Common.{arith}
use Rattle.causal_lines.proofs.Lemmas.LineCounts.{Counts-stage, lines_few}
use Rattle.causal_lines.proofs.line_reader.LineReader.try_push_entry.Goals as goal

pub invariant_of-self-2 : goal.invariant_of-self-2
invariant_of-self-2 c =
    let i = c.self.invariant in
    let next = c.in_ok-try_push_entry.ensures.value c.args.line.now c.requires in
    let more = Counts-stage c.args.limits.entries c.self.inside.stage _ c.args.line.now c.try_push_entry.new.stage i.2 next in
    (omega (arith, i.0, more.0), omega (arith, i.0, more.0, more.1, lines_few c.try_push_entry.new.stage), more.1, c.in_ok-try_push_entry.ensures.few)
