use Rattle.std.proofs.Common.{◌≡◌, ◌+◌, length}
use Rattle.std.specs.Option.{option_map_or}
use Rattle.causal_trace.specs.Inside.Chains.{IsPlaceBelow, receipt_index}
use Rattle.causal_trace.proofs.chains.Chains.find_from.Given as goal

-- the searched receipt is in the rest of the chain, if anywhere
abbrev pub invariant-loop-place : goal.invariant-loop-place
invariant-loop-place l = record {
  inside : IsPlaceBelow l.place (length l.self.nodes);
  rest : receipt_index l.among l.det l.self.nodes l.fn.begin ≡ receipt_index l.among l.det l.self.nodes l.place;
}

-- each node links to an older one
abbrev pub decreases-loop-place : goal.decreases-loop-place
decreases-loop-place l = option_map_or (λ k. k + 1) l.place 0
