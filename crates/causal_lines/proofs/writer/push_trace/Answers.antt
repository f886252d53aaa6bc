use Rattle.std.proofs.Common.{arith, append_assoc}
use Rattle.causal_lines.proofs.Lemmas.CanonicalParts.{canonical_parts}
use Rattle.causal_lines.proofs.writer.push_trace.Goals as goal

pub returns : goal.returns
returns c = grind (arith, canonical_parts, append_assoc)
