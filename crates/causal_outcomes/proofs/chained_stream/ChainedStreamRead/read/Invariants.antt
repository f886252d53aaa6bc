use Rattle.std.proofs.Common.{drop, ◌-◌, length}
use Rattle.std.specs.Io.KnownBytes.{Keeps}
use Rattle.causal_outcomes.specs.Chains.{bytes_in_order}
use Rattle.causal_outcomes.proofs.chained_stream.ChainedStreamRead.read.Given as goal

-- the streams before the present one are at their ends, so the bytes that are left are those that were left
abbrev pub invariant-loop-self : goal.invariant-loop-self
invariant-loop-self g l =
    Keeps (bytes_in_order g.S.Read.remaining (drop l.initial.self.present l.initial.self.streams.items)) (bytes_in_order g.S.Read.remaining (drop l.self.present l.self.streams.items))

abbrev pub decreases-loop-self : goal.decreases-loop-self
decreases-loop-self g l = length l.self.streams.items - l.self.present
