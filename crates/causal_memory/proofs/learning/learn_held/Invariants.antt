use Rattle.std.proofs.Common.{◌≡◌, drop}
use Rattle.causal_protocol.specs.Gathering.{with_held}
use Rattle.causal_memory.proofs.learning.learn_held.Given as goal

abbrev pub invariant-loop-det : goal.invariant-loop-det
invariant-loop-det l = with_held (drop l.det-index l.dets) l.p l.log.map ≡ with_held l.dets l.p l.fn.log.map
