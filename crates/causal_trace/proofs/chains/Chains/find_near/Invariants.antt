use Rattle.std.proofs.Common.{◌≡◌, length}
use Rattle.causal_trace.specs.Inside.Chains.{IsPlaceBelow, receipt_index}
use Rattle.causal_trace.proofs.chains.Chains.find_near.Given as goal

-- the searched receipt is in the rest of the chain, if anywhere
abbrev pub invariant-loop : goal.invariant-loop
invariant-loop l = record {
  inside : IsPlaceBelow l.place (length l.self.nodes);
  rest : receipt_index l.among l.det l.self.nodes l.fn.begin ≡ receipt_index l.among l.det l.self.nodes l.place;
}
