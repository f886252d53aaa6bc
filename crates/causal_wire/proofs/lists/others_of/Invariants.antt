use Rattle.std.proofs.Common.{◌≡◌, take, drop}
use Rattle.std.specs.FinSet as set
use Rattle.causal_wire.specs.Reading.{others_fault}
use Rattle.causal_wire.proofs.lists.others_of.Given as goal

abbrev pub invariant-loop-number : goal.invariant-loop-number
invariant-loop-number l = record {
  set_so_far : l.others ≡ set.from_list (take l.number-index l.listed);
  rest : others_fault l.n l.source.0 0 l.listed ≡ others_fault l.n l.source.0 l.least (drop l.number-index l.listed);
}
