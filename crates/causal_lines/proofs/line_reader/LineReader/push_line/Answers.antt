use Rattle.std.proofs.Common.{arith}
use Rattle.causal_lines.proofs.Lemmas.LineCounts.{Counts-line, lines_few}
use Rattle.causal_lines.proofs.line_reader.LineReader.push_line.Goals as goal

pub invariant_of-result : goal.invariant_of-result
invariant_of-result c =
    let i = c.self.invariant in
    let more = Counts-line c.args.limits.entries c.self.inside.stage _ c.args.line.now _ c.in_ok-stage.stage i.2 c.in_ok-stage.ensures.value in
    (omega (arith, i.0, more.0), omega (arith, i.0, more.0, more.1, lines_few c.in_ok-stage.stage), more.1, c.in_ok-stage.ensures.few)
