use Rattle.std.proofs.Common.{arith, refl}
use Rattle.causal_merge.proofs.recording_reader.RecordingReader.within.Goals as goal

pub invariant_of-result : goal.invariant_of-result
invariant_of-result c = let h = c.new.ensures.read 0 in (h.0, h.2, omega (arith, c.new.ensures.count), omega arith)

pub returns : goal.returns
returns c = (refl, refl, c.new.ensures.read c.args.limits.entries)
