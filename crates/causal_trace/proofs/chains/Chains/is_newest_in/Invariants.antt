use Rattle.std.proofs.Common.{◌≡◌, ◌+◌, length}
use Rattle.std.specs.Option.{option_map_or}
use Rattle.causal_trace.specs.Inside.Chains.{IsPlaceBelow, chain, chain_of, is_newest_in}
use Rattle.causal_trace.proofs.chains.Chains.is_newest_in.Given as goal

-- the newest receipt of the process is in the rest of the chain, if anywhere
abbrev pub invariant-loop-place : goal.invariant-loop-place
invariant-loop-place l = record {
  inside : IsPlaceBelow l.place (length l.self.nodes);
  rest : is_newest_in l.dest l.lane (chain_of l.self l.fn.message) ≡ is_newest_in l.dest l.lane (chain l.self.nodes l.place);
}

-- each node links to an older one
abbrev pub decreases-loop-place : goal.decreases-loop-place
decreases-loop-place l = option_map_or (λ k. k + 1) l.place 0
