use Rattle.causal_line.specs.Lines.{lines}
use Rattle.causal_reading.proofs.recorded_chunks.+chunks.Goals as goal

pub returns : goal.returns
returns g t c = rw c.split_lines.ensures.parts (c.read_after.ensures c.args.reader (lines c.split_lines.result.0.now) (lines c.split_lines.result.1.now) c.join-parsed.ensures.second c.join-parsed.ensures.first)
